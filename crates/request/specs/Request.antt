-- The character that a font has for a code, and the row request: document 01, "The font, line by line" and the order of refusals.
-- Assumes nothing.
use Rattle.std.specs.Prelude.{ℕ, cond, List, ltb, Option, Some, None, Result, Ok, Err}
use Rattle.ground.specs.Refusals.{refusal, bad_shape}
use Rattle.subchars.specs.declared.Code.{Code}
use Rattle.lines.specs.Lines.{after}
use Rattle.font.specs.Font.{FontReading, says, refuses, reading}
use Rattle.ground.specs.declared.refusals.Refusal.{Refusal}
use Rattle.chars.specs.declared.Entry.{Entry}
use Rattle.reader.specs.Reader.{used}
use Rattle.request.specs.declared.Sought.{Sought}
use Rattle.request.specs.declared.RowPlace.{RowPlace}

-- The character that is used, in a font of the given height.
abbrev pub in_font : ℕ → Option Entry → Option Sought
in_font height (Some e) = Some (record { height = height; entry = e })
in_font height None = None

-- "Look-up (answer: the entry used, or none) ..: those of" the font.
unfoldable pub sought : Code → FontReading → Result (Option Sought) Refusal
sought c (says h es) = Ok (in_font h.height (used c es))
sought c (refuses r) = Err r

-- 17, "row request of bad shape".
abbrev pub bad_request : Result RowPlace Refusal
bad_request = Err (refusal bad_shape 0)

-- "A row number at or above Height, or a code with neither drawing nor stand-in, is 17." Row r stands on the line that is r lines behind the
-- character's first row line.
abbrev pub row_of_sought : List ℕ → ℕ → Result (Option Sought) Refusal → Result RowPlace Refusal
row_of_sought s r (Ok (Some x)) = cond (ltb r x.height) (Ok (record { place = after r s x.entry.start; width = x.entry.width })) bad_request
row_of_sought s r (Ok None) = bad_request
row_of_sought s r (Err q) = Err q

-- "Row request: those of the font, then 17."
unfoldable pub row_request : List ℕ → Code → ℕ → Result RowPlace Refusal
row_request s c r = row_of_sought s r (sought c (reading s))
