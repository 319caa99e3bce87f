-- A font in three lists of numbers, and the character that is used for a code: document 01, "The font, line by line".
-- Assumes nothing.
use Rattle.std.specs.Prelude.{◌≡◌, Option, Some, None, Result, Ok, Err, List, [], ◌∷◌, map, ℕ, zero, suc, ◌<◌, ℤ, pos, length}
use Rattle.ground.specs.declared.refusals.Refusal.{Refusal}
use Rattle.subchars.specs.declared.Code.{Code}
use Rattle.header.specs.declared.Header.{Header}
use Rattle.chars.specs.declared.Entry.{Entry}
use Rattle.font.specs.Font.{FontReading, says, refuses, format, with_characters}
use Rattle.index.specs.Index.{code_of, listing_at, Lists}
use Rattle.index.specs.LookUp.{last_at, look_up}
use Rattle.reader.specs.declared.FontRead.{FontRead}
use Rattle.reader.specs.declared.LookedUp.{LookedUp}
use Rattle.reader.specs.declared.LookedUp.TheVariants as three

abbrev pub read_with : Header → ℕ → FontRead
read_with h n = record { header = h; count = n }

-- "And the answer gives how many."
abbrev pub font_answer : FontReading → Result FontRead Refusal
font_answer (says h es) = Ok (read_with h (length es))
font_answer (refuses r) = Err r

-- The characters of a font that is read.
abbrev pub entries_of : FontReading → List Entry
entries_of (says h es) = es
entries_of (refuses r) = []

-- What reading a font answers, and its characters in the lists.
pub record ReadInto (m : FontReading) (r : Result FontRead Refusal) (codes : List ℤ) (starts widths : List ℕ) : Type 0 where
  pub answer : r ≡ font_answer m
  pub lists : Lists (entries_of m) codes starts widths

-- The same, from the place behind the comment lines on.
abbrev pub Behind : Header → List ℕ → ℕ → Result FontRead Refusal → List ℤ → List ℕ → List ℕ → Type 0
Behind h s at r codes starts widths = ReadInto (with_characters h (listing_at (format h) s at)) r codes starts widths

-- A place that was found is one of the first n.
abbrev pub FoundBelow : ℕ → Option ℕ → Type 0
FoundBelow n (Some k) = k < n
FoundBelow n None = Unit

-- The entry at a place of a list.
unfoldable pub entry_at : List Entry → ℕ → Option Entry
entry_at [] k = None
entry_at (e ∷ es) zero = Some e
entry_at (e ∷ es) (suc k) = entry_at es k

abbrev pub at_found : Option ℕ → List Entry → Option Entry
at_found (Some k) es = entry_at es k
at_found None es = None

-- "When codes repeat, the last is used. Otherwise the character with code 0 stands in; if there is none, nothing is drawn."
unfoldable pub used : Code → List Entry → Option Entry
used c es = at_found (look_up c (map code_of es)) es

-- The last entry of a code, if there is one.
unfoldable pub last_of : ℤ → List Entry → Option Entry
last_of z es = at_found (last_at z (map code_of es)) es

-- 02, Q-2: "The look-up must say which of three it was: found as itself, stood in by code 0, or nothing." By the last entry of the code, and the last
-- of code 0.
abbrev pub which_of : Option Entry → Option Entry → LookedUp
which_of (Some e) z = three.Found e
which_of None (Some e) = three.StoodIn e
which_of None None = three.Nothing

unfoldable pub looked_up : Code → List Entry → LookedUp
looked_up c es = which_of (last_of c.0 es) (last_of (pos 0) es)
