-- The start of a font by places: what one call of the reader answers.
-- Assumes nothing.
use Rattle.std.specs.Prelude.{ℕ, cond, Result, Ok, Err, List, ltb, leb, length}
use Rattle.ground.specs.Refusals.{refusal, font_too_long, no_signature, missing_line}
use Rattle.ground.specs.declared.refusals.Refusal.{Refusal}
use Rattle.ground.specs.Limits.{max_font_length}
use Rattle.lines.specs.declared.Cursor.{Cursor}
use Rattle.lines.specs.Lines.{lines_from, text_at, next_start, cursor, after}
use Rattle.header.specs.declared.Header.{Header}
use Rattle.header.specs.Header.{read_header}
use Rattle.chars.specs.Codes.{required_codes}
use Rattle.chars.specs.Chars.{listing}
use Rattle.font.specs.declared.Opening.{Opening}
use Rattle.font.specs.Font.{FontReading, refuses, format, with_characters}

abbrev pub opening : Header → Cursor → Opening
opening h next = record { header = h; next = next }

-- The header, and the cursor behind the comment lines.
unfoldable pub past_comments : Header → List ℕ → ℕ → Result Opening Refusal
past_comments h s at =
    cond (leb h.comment_lines (length (lines_from s at))) (Ok (opening h (cursor (after h.comment_lines s at)))) (Err (refusal missing_line (length s)))

abbrev pub open_by : Result Header Refusal → List ℕ → ℕ → Result Opening Refusal
open_by (Ok h) s at = past_comments h s at
open_by (Err r) s at = Err r

unfoldable pub first_line : List ℕ → Result Opening Refusal
first_line s = cond (ltb 0 (length s)) (open_by (read_header (text_at s 0)) s (next_start s 0)) (Err (refusal no_signature 0))

unfoldable pub open_at : List ℕ → Result Opening Refusal
open_at s = cond (ltb max_font_length (length s)) (Err (refusal font_too_long 0)) (first_line s)

-- What is read from where the characters start.
abbrev pub read_from : List ℕ → Result Opening Refusal → FontReading
read_from s (Ok x) = with_characters x.header (listing (format x.header) (length s) required_codes 0 (lines_from s x.next.at))
read_from s (Err r) = refuses r
