-- The bytes that are put out of a line: document 01, "Join and drawing".
-- Assumes nothing.
use Rattle.std.specs.Prelude.{ℕ, ◌+◌, ◌*◌, cond, List, [], ltb, Result, Ok, Err}
use Rattle.ground.specs.Limits.{max_line_width}
use Rattle.ground.specs.Refusals.{refusal, area_too_small, line_too_wide}
use Rattle.ground.specs.declared.refusals.Refusal.{Refusal}
use Rattle.ground.specs.Text.{byte}
use Rattle.subchars.specs.Hardblank.{blanked}
use Rattle.lanes.specs.Blocks.{Cells}
use Rattle.blocks.specs.Block.{Block, rows_of}

-- "The output is each row with hardblanks as blanks, then LF."
abbrev pub with_lf : ℕ → ℕ → (ℕ → ℕ) → ℕ → ℕ
with_lf hardblank w row k = cond (ltb k w) (blanked hardblank (row k)) (byte "\n")

abbrev pub shown_at : ℕ → Block → Cells
shown_at hardblank line r = with_lf hardblank line.width (line.cells r)

unfoldable pub shown : ℕ → ℕ → Block → List ℕ
shown hardblank h line = rows_of (shown_at hardblank line) h (line.width + 1)

-- "16, then 9 for the output": what putting out a line comes to in an area of the given room, and the bytes at its start.
unfoldable pub output_of : ℕ → Block → ℕ → Result ℕ Refusal
output_of h line room =
    cond (ltb max_line_width line.width) (Err (refusal line_too_wide 0)) (cond (ltb room (h * (line.width + 1))) (Err (refusal area_too_small 0)) (Ok line.width))

abbrev pub put_only : Result ℕ Refusal → List ℕ → List ℕ
put_only (Ok w) bytes = bytes
put_only (Err r) bytes = []

unfoldable pub output_bytes : ℕ → ℕ → Block → ℕ → List ℕ
output_bytes hardblank h line room = put_only (output_of h line room) (shown hardblank h line)
