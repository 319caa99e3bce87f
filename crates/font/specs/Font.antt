-- What a FIGfont says: document 01, "The refusal numbers" and "The font, line by line".
-- Assumes nothing.
use Rattle.std.specs.Prelude.{ℕ, cond, Result, Ok, Err, List, [], ◌∷◌, ltb, leb, length, drop}
use Rattle.ground.specs.Refusals.{refusal, font_too_long, no_signature, missing_line}
use Rattle.ground.specs.declared.refusals.Refusal.{Refusal}
use Rattle.ground.specs.Limits.{max_font_length}
use Rattle.lines.specs.Lines.{TextLine, lines_from}
use Rattle.header.specs.declared.Header.{Header}
use Rattle.header.specs.Header.{read_header}
use Rattle.rows.specs.declared.Format.{Format}
use Rattle.chars.specs.declared.Entry.{Entry}
use Rattle.chars.specs.Codes.{required_codes}
use Rattle.chars.specs.Chars.{Ending, finished, stopped, Listing, listing}

-- A font is read, with its header and its characters in file order, or refused.
pub data FontReading : Type 0 where
  says : Header → List Entry → FontReading
  refuses : Refusal → FontReading

-- What the header says of the rows.
abbrev pub format : Header → Format
format h = record { hardblank = h.hardblank; height = h.height; max_length = h.max_length }

abbrev pub reading_of : Header → Ending → List Entry → FontReading
reading_of h finished es = says h es
reading_of h (stopped r) es = refuses r

-- The characters on the lines behind the comment lines.
abbrev pub with_characters : Header → Listing → FontReading
with_characters h x = reading_of h x.ending x.entries

-- "After the comment lines come" the characters: the lines behind the header line of a font of the given size.
abbrev pub after_header : Result Header Refusal → ℕ → List TextLine → FontReading
after_header (Err r) size ls = refuses r
after_header (Ok h) size ls =
    cond (leb h.comment_lines (length ls)) (with_characters h (listing (format h) size required_codes 0 (drop h.comment_lines ls)))
    (refuses (refusal missing_line size))

-- The lines of a font. A font without a first line has none that begins with flf2a.
abbrev pub on_lines : ℕ → List TextLine → FontReading
on_lines size [] = refuses (refusal no_signature 0)
on_lines size (l ∷ ls) = after_header (read_header l.text) size ls

-- "Order. Reading a font: .. 1, 2, 3, 4, then 5 to 8 as met line by line."
unfoldable pub reading : List ℕ → FontReading
reading s = cond (ltb max_font_length (length s)) (refuses (refusal font_too_long 0)) (on_lines (length s) (lines_from s 0))
