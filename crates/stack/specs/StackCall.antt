-- The call `stack`: what it answers and what the lent area then holds, for every input.
-- Assumes nothing.
use Rattle.std.specs.Prelude.{◌≡◌, ℕ, ◌+◌, ◌*◌, Bool, true, false, cond, not, ◌&&◌, List, [], ltb, length, Result, Ok, Err}
use Rattle.ground.specs.Area.{zeros, padded}
use Rattle.ground.specs.Limits.{max_height, max_stack_height, max_line_width}
use Rattle.ground.specs.declared.refusals.Reason.{Reason}
use Rattle.ground.specs.declared.refusals.Refusal.{Refusal}
use Rattle.ground.specs.Refusals.{number_of, area_too_small, bad_shape, stack_too_high}
use Rattle.subchars.specs.declared.VerticalLayout.{VerticalLayout}
use Rattle.subchars.specs.Hardblank.{legal_hardblank}
use Rattle.vertical.specs.VerticalPair.{good_vertical}
use Rattle.blocks.specs.Block.{exact_block, rows_of}
use Rattle.join.specs.Shape.{good_block}
use Rattle.stack.specs.declared.Stacked.{Stacked}
use Rattle.columns.specs.Stack.{Stack, stacked}
use Rattle.columns.specs.Placing.{with_end}

-- What an answer tells. "A refusal answers its number and place (0 where none is named); other numbers are 0."
pub record StackTold : Type 0 where
  pub refused : Bool
  pub number : ℕ
  pub place : ℕ
  pub overlap : ℕ
  pub height : ℕ
  pub width : ℕ

abbrev pub stack_tells : Result Stacked Refusal → StackTold
stack_tells (Ok s) = record { refused = false; number = 0; place = 0; overlap = s.overlap; height = s.height; width = s.width }
stack_tells (Err r) = record { refused = true; number = number_of r.reason; place = r.place; overlap = 0; height = 0; width = 0 }

-- Stacked at an overlap, in a height and a width.
abbrev pub stacking : ℕ → ℕ → ℕ → Result Stacked Refusal
stacking o h w = Ok (record { overlap = o; height = h; width = w })

-- Refused for a reason, at place 0.
abbrev pub no_stack : Reason → StackTold
no_stack n = record { refused = true; number = number_of n; place = 0; overlap = 0; height = 0; width = 0 }

abbrev pub no_stack_if : Bool → Reason → StackTold → StackTold
no_stack_if t n next = cond t (no_stack n) next

-- "17 as in the join, but upper height to 64, both widths to 1,000 and the five rules": the upper block is n rows high, `upperWidth` wide and of
-- `upperBytes` bytes, the lower one likewise.
unfoldable pub good_stack : VerticalLayout → ℕ → ℕ → ℕ → ℕ → ℕ → ℕ → ℕ → Bool
good_stack layout hardblank n upperWidth upperBytes m lowerWidth lowerBytes =
    good_block max_stack_height n max_line_width upperWidth upperBytes && good_block max_height m max_line_width lowerWidth lowerBytes
    && good_vertical layout && legal_hardblank hardblank

-- "18, stack over 64 rows; 9": a stack that needs so many bytes, in an area of the given room.
unfoldable pub fit_told : Stack → ℕ → ℕ → StackTold
fit_told s needed room =
    no_stack_if (ltb max_stack_height s.height) stack_too_high
    (no_stack_if (ltb room needed) area_too_small (stack_tells (stacking s.overlap s.height s.block.width)))

-- A refusal "fills every lent writable area with zeros. A success fills all room behind its answer, .. with zeros."
abbrev pub area_after : StackTold → List ℕ → ℕ → List ℕ
area_after t bytes room = padded (cond t.refused [] bytes) room

-- Blocks lie row after row: the stack of two of them,
abbrev pub stack_of : VerticalLayout → ℕ → ℕ → ℕ → List ℕ → ℕ → ℕ → List ℕ → Stack
stack_of layout hardblank n upperWidth upper m lowerWidth lower = stacked layout hardblank n (exact_block upperWidth upper) m (exact_block lowerWidth lower)

-- how many bytes it has, and these.
abbrev pub stack_size : Stack → ℕ
stack_size s = s.height * s.block.width

abbrev pub stack_rows : Stack → List ℕ
stack_rows s = rows_of s.block.cells s.height s.block.width

-- "Refusals: 17 ..; 18 ..; 9."
unfoldable pub stack_told : VerticalLayout → ℕ → ℕ → ℕ → List ℕ → ℕ → ℕ → List ℕ → ℕ → StackTold
stack_told layout hardblank n upperWidth upper m lowerWidth lower room =
    let s = stack_of layout hardblank n upperWidth upper m lowerWidth lower in
    no_stack_if (not (good_stack layout hardblank n upperWidth (length upper) m lowerWidth (length lower))) bad_shape (fit_told s (stack_size s) room)

unfoldable pub stack_area : VerticalLayout → ℕ → ℕ → ℕ → List ℕ → ℕ → ℕ → List ℕ → ℕ → List ℕ
stack_area layout hardblank n upperWidth upper m lowerWidth lower room =
    area_after (stack_told layout hardblank n upperWidth upper m lowerWidth lower room) (stack_rows (stack_of layout hardblank n upperWidth upper m lowerWidth lower)) room

-- What the call gives: its answer, and all that the lent area then holds.
pub record StackGives (layout : VerticalLayout) (hardblank n upperWidth : ℕ) (upper : List ℕ) (m lowerWidth : ℕ) (lower : List ℕ) (room : ℕ) (r : Result Stacked Refusal) (out : List ℕ) : Type 0 where
  pub answer : stack_tells r ≡ stack_told layout hardblank n upperWidth upper m lowerWidth lower room
  pub area : out ≡ stack_area layout hardblank n upperWidth upper m lowerWidth lower room

-- How many LFs stand behind each row: one where it ends with LF.
abbrev pub lfs : Bool → ℕ
lfs ended = cond ended 1 0

-- The same of a stack of good shape that is put out with so many LFs behind each row; and of a refusal.
pub record PutStack (s : Stack) (end room : ℕ) (r : Result Stacked Refusal) (out : List ℕ) : Type 0 where
  pub answer : stack_tells r ≡ fit_told s (s.height * (s.block.width + end)) room
  pub area : out ≡ area_after (fit_told s (s.height * (s.block.width + end)) room) (rows_of (with_end s.block.width s.block.cells) s.height (s.block.width + end)) room

pub record RefusesStack (reason : Reason) (room : ℕ) (r : Result Stacked Refusal) (out : List ℕ) : Type 0 where
  pub answer : stack_tells r ≡ no_stack reason
  pub area : out ≡ zeros room
