-- The row request of two fonts: document 02, Q-7. "The row handed back is a part of whichever font had it."
-- Assumes nothing.
use Rattle.std.specs.Prelude.{cond, List, ℕ, ltb}
use Rattle.ground.specs.Refusals.{refusal, bad_shape}
use Rattle.subchars.specs.declared.Code.{Code}
use Rattle.lines.specs.Lines.{after}
use Rattle.fontlists.specs.declared.two.LookedUpInTwo.{LookedUpInTwo}
use Rattle.fontlists.specs.declared.two.LookedUpInTwo.TheVariants.{Found, StoodIn, Nothing}
use Rattle.fontlists.specs.TwoFonts.{looked_up_in_two, bytes_in}
use Rattle.twofonts.specs.declared.RequestedOfTwo.{RequestedOfTwo}
use Rattle.twofonts.specs.declared.RequestedOfTwo.TheVariants.{Row, Refused}
use Rattle.twofonts.specs.Fonts.{Fonts, fonts, unfit, fonts_of}

-- 17, as in one font: "a row number at or above Height, or a code with neither drawing nor stand-in".
abbrev pub no_row : RequestedOfTwo
no_row = Refused (refusal bad_shape 0)

-- Row r stands r lines behind the character's first row line, in the font that has the character.
abbrev pub row_in : List ℕ → List ℕ → ℕ → LookedUpInTwo → RequestedOfTwo
row_in s t r (Found w e) = Row w (after r (bytes_in w s t) e.start) e.width
row_in s t r (StoodIn w e) = Row w (after r (bytes_in w s t) e.start) e.width
row_in s t r Nothing = no_row

abbrev pub row_by : List ℕ → List ℕ → Code → ℕ → Fonts → RequestedOfTwo
row_by s t c r (fonts h es fs) = cond (ltb r h.height) (row_in s t r (looked_up_in_two c es fs)) no_row
row_by s t c r (unfit q) = Refused q

-- The fonts' refusals, then 17.
unfoldable pub row_of_two : List ℕ → List ℕ → Code → ℕ → RequestedOfTwo
row_of_two s t c r = row_by s t c r (fonts_of s t)
