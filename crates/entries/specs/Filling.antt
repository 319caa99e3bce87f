-- The call `read_font`: what it answers and what its index holds, for every input. Document 01, "The lent index holds 512 entries or more".
-- Assumes nothing.
use Rattle.std.specs.Prelude.{ℕ, ◌-◌, Bool, true, false, cond, List, ◌++◌, ltb, pos, length, replicate, Option, Some, None, Result, Ok, Err}
use Rattle.ground.specs.Refusals.{refusal, number_of, area_too_small}
use Rattle.ground.specs.Limits.{max_characters}
use Rattle.header.specs.declared.Header.{Header}
use Rattle.chars.specs.declared.Entry.{Entry}
use Rattle.chars.specs.Codes.{code}
use Rattle.chars.specs.Chars.{entry}
use Rattle.font.specs.Font.{FontReading, refuses, reading}
use Rattle.ground.specs.declared.refusals.Refusal.{Refusal}
use Rattle.reader.specs.declared.FontRead.{FontRead}
use Rattle.reader.specs.Reader.{font_answer, entries_of}

-- "Reading a font: 9 (index under 512 entries), 1, 2, ..": a font, read into an index of so many entries.
unfoldable pub font_reading : ℕ → List ℕ → FontReading
font_reading room s = cond (ltb room max_characters) (refuses (refusal area_too_small 0)) (reading s)

-- An entry of zeros.
abbrev pub zero_entry : Entry
zero_entry = entry (code (pos 0)) 0 0

-- "A success fills all room behind its answer, .. with zeros."
abbrev pub with_zeros : List Entry → ℕ → List Entry
with_zeros es room = es ++ replicate (room - length es) zero_entry

-- What the index holds: the entries "in file order". A refused font has none: "it fills every lent writable area with zeros."
unfoldable pub index_of : FontReading → ℕ → List Entry
index_of m room = with_zeros (entries_of m) room

-- What an answer tells, the header with the layout in it. "A refusal answers its number and place (0 where none is named); other numbers are 0."; it tells no header.
pub record FontTold : Type 0 where
  pub refused : Bool
  pub number : ℕ
  pub place : ℕ
  pub header : Option Header
  pub count : ℕ

abbrev pub font_tells : Result FontRead Refusal → FontTold
font_tells (Ok r) = record { refused = false; number = 0; place = 0; header = Some r.header; count = r.count }
font_tells (Err r) = record { refused = true; number = number_of r.reason; place = r.place; header = None; count = 0 }

abbrev pub font_told : FontReading → FontTold
font_told m = font_tells (font_answer m)
