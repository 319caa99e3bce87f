-- Two lines of text drawn by one font and stacked: document 02, Q-1. "Site name above, device name below, closed up as the font says."
-- Assumes nothing.
use Rattle.std.specs.Prelude.{◌≡◌, ℕ, ◌+◌, ◌*◌, cond, ◌||◌, List, [], ltb, Option, Some, None, Result, Err}
use Rattle.ground.specs.Limits.{max_line_width, min_stacked_scratch}
use Rattle.ground.specs.Refusals.{refusal, area_too_small, line_too_wide}
use Rattle.ground.specs.declared.refusals.Refusal.{Refusal}
use Rattle.subchars.specs.declared.VerticalLayout.{VerticalLayout}
use Rattle.subchars.specs.declared.VerticalLayout.TheVariants.{FullHeight}
use Rattle.subchars.specs.Layouts.{full_vertical}
use Rattle.subchars.specs.Hardblank.{blank}
use Rattle.font.specs.Font as font
use Rattle.showing.specs.Output.{shown}
use Rattle.stack.specs.declared.Stacked.{Stacked}
use Rattle.columns.specs.Stack.{Stack, stacked}
use Rattle.stack.specs.StackCall.{StackTold, stack_tells, stacking, fit_told, area_after}
use Rattle.source.specs.declared.Counts.{Counts}
use Rattle.source.specs.Counting.{no_counts}
use Rattle.drawing.specs.Drawing.{Lined, lined, unlined, lined_of}
use Rattle.twolines.specs.declared.LinesAnswer.{LinesAnswer}
use Rattle.twolines.specs.declared.LinesAnswer.TheVariants as lines

-- "Vertical full height (also without Full_Layout)."
abbrev pub vertical_of : Option ℕ → VerticalLayout
vertical_of None = FullHeight
vertical_of (Some full) = full_vertical full

-- The vertical layout of a font that is read.
abbrev pub font_vertical : font.FontReading → VerticalLayout
font_vertical (font.says h es) = vertical_of h.full_layout
font_vertical (font.refuses r) = FullHeight

-- The two lines closed up, with the counts over both texts; or a refusal.
pub data TwoLines : Type 0 where
  two_lines : Stack → Counts → TwoLines
  no_lines : Refusal → TwoLines

abbrev pub both_counts : Counts → Counts → Counts
both_counts m n = record { stood_in = m.stood_in + n.stood_in; nothing_drawn = m.nothing_drawn + n.nothing_drawn }

-- Both texts are drawn as lines, then stacked: the font's, the control file's and 15 of either text; then 16 of either line.
abbrev pub closed_up : VerticalLayout → Lined → Lined → TwoLines
closed_up vertical (unlined r) lower = no_lines r
closed_up vertical (lined y h a m) (unlined r) = no_lines r
closed_up vertical (lined y h a m) (lined z k b n) =
    cond (ltb max_line_width a.width || ltb max_line_width b.width) (no_lines (refusal line_too_wide 0)) (two_lines (stacked vertical y.hardblank.0 h a k b) (both_counts m n))

unfoldable pub lines_of : List ℕ → List ℕ → List ℕ → List ℕ → TwoLines
lines_of s control upper lower = closed_up (font_vertical (font.reading s)) (lined_of s control upper) (lined_of s control lower)

-- 9 for a scratch under 64,000 bytes, one line's room for each text, before the refusals above.
unfoldable pub draw_lines : ℕ → List ℕ → List ℕ → List ℕ → List ℕ → TwoLines
draw_lines scratch s control upper lower = cond (ltb scratch min_stacked_scratch) (no_lines (refusal area_too_small 0)) (lines_of s control upper lower)

-- The output is each row, then LF: no hardblank is left that would come out as a blank.
abbrev pub lines_size : Stack → ℕ
lines_size s = s.height * (s.block.width + 1)

abbrev pub lines_shown : Stack → List ℕ
lines_shown s = shown blank s.height s.block

-- Then 9 for the output. What the two lines come to in an output of the given room, and the bytes at its start.
unfoldable pub lines_told : TwoLines → ℕ → StackTold
lines_told (no_lines r) room = stack_tells (Err r)
lines_told (two_lines s n) room = fit_told s (lines_size s) room

-- 02, Q-2: the two counts over both texts. A refusal tells 0 and 0.
unfoldable pub lines_counts : TwoLines → ℕ → Counts
lines_counts (no_lines r) room = no_counts
lines_counts (two_lines s n) room = cond (lines_told (two_lines s n) room).refused no_counts n

unfoldable pub lines_bytes : TwoLines → List ℕ
lines_bytes (no_lines r) = []
lines_bytes (two_lines s n) = lines_shown s

-- A refusal "fills every lent writable area with zeros. A success fills all room behind its answer, .. with zeros."
unfoldable pub lines_output : TwoLines → ℕ → List ℕ
lines_output t room = area_after (lines_told t room) (lines_bytes t) room

-- What an answer tells of the stack, and of the counts.
abbrev pub stack_part : LinesAnswer → Result Stacked Refusal
stack_part (lines.Drawn o h w n) = stacking o h w
stack_part (lines.Refused r) = Err r

abbrev pub counts_part : LinesAnswer → Counts
counts_part (lines.Drawn o h w n) = n
counts_part (lines.Refused r) = no_counts

-- The answer and the output.
pub record LinesOut (t : TwoLines) (room : ℕ) (r : LinesAnswer) (out : List ℕ) : Type 0 where
  pub answer : stack_tells (stack_part r) ≡ lines_told t room
  pub counts : counts_part r ≡ lines_counts t room
  pub output : out ≡ lines_output t room
