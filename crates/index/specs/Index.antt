-- The characters of a font in three lists of numbers, in file order, as the code holds them.
-- Assumes nothing.
use Rattle.std.specs.Prelude.{◌≡◌, Result, Ok, Err, List, map, ℕ, ◌≤◌, ℤ, length, take}
use Rattle.ground.specs.Limits.{max_characters}
use Rattle.ground.specs.declared.refusals.Refusal.{Refusal}
use Rattle.lines.specs.Lines.{lines_from}
use Rattle.rows.specs.declared.Format.{Format}
use Rattle.chars.specs.declared.Entry.{Entry}
use Rattle.chars.specs.Codes.{required_codes}
use Rattle.chars.specs.Chars.{Ending, finished, stopped, Listing, listing}

-- What each list holds of an entry.
abbrev pub code_of : Entry → ℤ
code_of e = e.code.0

abbrev pub start_of : Entry → ℕ
start_of e = e.start

abbrev pub width_of : Entry → ℕ
width_of e = e.width

-- The characters from a place of a font on.
abbrev pub listing_at : Format → List ℕ → ℕ → Listing
listing_at f s at = listing f (length s) required_codes 0 (lines_from s at)

-- Room for n characters in each list.
pub record CharacterRoom (n : ℕ) (codes : List ℤ) (starts widths : List ℕ) : Type 0 where
  pub for_codes : n ≤ length codes
  pub for_starts : n ≤ length starts
  pub for_widths : n ≤ length widths

-- "Code, start of the first row line, width, in file order": the lists begin with the entries.
pub record Lists (es : List Entry) (codes : List ℤ) (starts widths : List ℕ) : Type 0 where
  pub few : length es ≤ max_characters
  pub codes_are : take (length es) codes ≡ map code_of es
  pub starts_are : take (length es) starts ≡ map start_of es
  pub widths_are : take (length es) widths ≡ map width_of es

-- "And the answer gives how many."
abbrev pub ended_by : Ending → ℕ → Result ℕ Refusal
ended_by finished n = Ok n
ended_by (stopped r) n = Err r

-- The answer, and the lists.
pub record Indexed (x : Listing) (r : Result ℕ Refusal) (codes : List ℤ) (starts widths : List ℕ) : Type 0 where
  pub answer : r ≡ ended_by x.ending (length x.entries)
  pub lists : Lists x.entries codes starts widths
