-- Where the characters of a drawing come from: for each code, which character it is, by a font, by two or by a pack.
-- Assumes nothing.
use Rattle.std.specs.Prelude.{ℕ, ◌+◌, cond, List, ℤ, pos, get_or}
use Rattle.subchars.specs.declared.Code.{Code}
use Rattle.blocks.specs.Block.{Block, exact_block}
use Rattle.lines.specs.Lines.{after}
use Rattle.chars.specs.declared.Entry.{Entry}
use Rattle.reader.specs.declared.LookedUp.{LookedUp}
use Rattle.reader.specs.declared.LookedUp.TheVariants.{Found, StoodIn, Nothing}
use Rattle.reader.specs.Reader.{looked_up}
use Rattle.records.specs.declared.Head.{Head}
use Rattle.records.specs.Codes.{bits_of, is_code}
use Rattle.records.specs.Letters.{Letter, letter, no_letter, letter_in}
use Rattle.fontlists.specs.declared.two.LookedUpInTwo.{LookedUpInTwo}
use Rattle.fontlists.specs.declared.two.LookedUpInTwo.TheVariants as two
use Rattle.fontlists.specs.TwoFonts.{bytes_in, looked_up_in_two}

-- A code's own character, with its width and rows; the one that stands in for it; or nothing.
pub data Choice : Type 0 where
  found : Block → Choice
  stood_in : Block → Choice
  nothing : Choice

abbrev pub Source : Type 0
Source = Code → Choice

-- A FIGcharacter of a font: row r stands r lines behind its first row line.
abbrev pub character_of : List ℕ → Entry → Block
character_of s e = record { width = e.width; cells = λ r k. get_or s (after r s e.start + k) 0 }

-- "When codes repeat, the last is used. Otherwise the character with code 0 stands in; if there is none, nothing is drawn." The font's bytes are s.
abbrev pub choice_of : List ℕ → LookedUp → Choice
choice_of s (Found e) = found (character_of s e)
choice_of s (StoodIn e) = stood_in (character_of s e)
choice_of s Nothing = nothing

unfoldable pub font_source : List ℕ → List Entry → Source
font_source s es c = choice_of s (looked_up c es)

-- 02, Q-7: the same of two fonts. The first one's bytes are s and its characters es, the second one's t and fs.
abbrev pub choice_of_two : List ℕ → List ℕ → LookedUpInTwo → Choice
choice_of_two s t (two.Found w e) = found (character_of (bytes_in w s t) e)
choice_of_two s t (two.StoodIn w e) = stood_in (character_of (bytes_in w s t) e)
choice_of_two s t two.Nothing = nothing

unfoldable pub two_source : List ℕ → List ℕ → List Entry → List Entry → Source
two_source s t es fs c = choice_of_two s t (looked_up_in_two c es fs)

-- The letter that a pack's records have for a code: 02, Q-6, "the code in four bytes"; a number that is no code has none.
unfoldable pub pack_letter : Head → List (List ℕ) → ℤ → Letter
pack_letter f rs z = cond (is_code z) (letter_in f (bits_of z) rs) no_letter

-- A letter as a character: its rows lie one after another. The code's own, or else that of code 0, which stands in.
abbrev pub of_letters : Letter → Letter → Choice
of_letters (letter w rows) zeroth = found (exact_block w rows)
of_letters no_letter (letter w rows) = stood_in (exact_block w rows)
of_letters no_letter no_letter = nothing

unfoldable pub pack_source : Head → List (List ℕ) → Source
pack_source f rs c = of_letters (pack_letter f rs c.0) (pack_letter f rs (pos 0))
