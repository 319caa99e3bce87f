-- The bytes of the output where two lines are drawn: "output is each row, then LF".
-- Assumes nothing.
use mathlib.Core.Path.{◌≡◌, ap, ◌∙◌}
use mathlib.Core.List.{List}
use Prim.Native.Nat.{ℕ, ◌+◌, ◌*◌, ◌≤◌, ◌<◌}
use native.Mathlib.Omega.{arith}
use lib.ListN.{get_or}
use Rattle.ground.specs.Area.{padded}
use Rattle.ground.specs.Text.{byte}
use Rattle.ground.proofs.Areas.{padded-at}
use Rattle.subchars.specs.Hardblank.{blank}
use Rattle.lanes.proofs.Blanking.{nothing_hard}
use Rattle.blocks.proofs.Rows.{row_room}
use Rattle.showing.proofs.Showing.{shown-byte, shown_lf, length-shown}
use Rattle.columns.specs.Stack.{Stack}
use Rattle.stack.specs.StackCall.{StackTold, area_after}
use Rattle.twolines.specs.TwoLines.{TwoLines, draw_lines, lines_size, lines_shown, lines_told, lines_bytes, lines_output}
use Rattle.twolines.proofs.Answers.{FilesRead, LinesFit, stack_by, is-stacked, gives, stacks}

module _ (size : ℕ) (s control upper lower : List ℕ) (room : ℕ) where
  abbrev Read : Type 0
  Read = FilesRead size s control upper lower room

  module _ (x : Read) (f : LinesFit size s control upper lower room x) (m : lines_size (stack_by size s control upper lower room x) ≤ room) where
    abbrev result : Stack
    result = stack_by size s control upper lower room x

    abbrev output : List ℕ
    output = lines_output (draw_lines size s control upper lower) room

    -- The output is the rows of the stack, each with its LF, and zeros behind them.
    pub output-is : output ≡ padded (lines_shown result) room
    unfolding lines_output lines_bytes
    output-is =
        ap (λ (t : TwoLines). area_after (lines_told (draw_lines size s control upper lower) room) (lines_bytes t) room) (is-stacked size s control upper lower room x f)
        ∙ ap (λ (t : StackTold). area_after t (lines_shown result) room) (gives size s control upper lower room _ (stacks x f m))

    at_place : (r k : ℕ) → r < result.height → k < result.block.width + 1 → get_or output (r * (result.block.width + 1) + k) 0 ≡ get_or (lines_shown result) (r * (result.block.width + 1) + k) 0
    at_place r k u v =
        ap (λ (b : List ℕ). get_or b (r * (result.block.width + 1) + k) 0) output-is ∙
        padded-at (lines_shown result) room _ (omega (arith, row_room r result.height (result.block.width + 1) u, length-shown blank result.height result.block))

    -- Byte r * (width + 1) + k is sub-character k of row r of the stack, whatever it is: "a joint that happens to be the hardblank's byte .. is that byte
    -- and comes out as it is, also in draw_stacked."
    pub output-byte : (r k : ℕ) → r < result.height → k < result.block.width → get_or output (r * (result.block.width + 1) + k) 0 ≡ result.block.cells r k
    output-byte r k u v = at_place r k u (omega arith) ∙ shown-byte blank result.height result.block r k u v ∙ nothing_hard (result.block.cells r k)

    -- An LF stands behind each row.
    pub output_lf : (r : ℕ) → r < result.height → get_or output (r * (result.block.width + 1) + result.block.width) 0 ≡ byte "\n"
    output_lf r u = at_place r result.block.width u (omega arith) ∙ shown_lf blank result.height result.block r u
