-- What a stack that is not refused under 17 tells of its blocks.
-- Assumes nothing.
use mathlib.Core.Path.{◌≡◌}
use mathlib.Core.Bool.{true, ◌&&◌}
use Prim.Native.Nat.{ℕ, ◌*◌, ◌≤◌}
use native.Mathlib.Omega.{arith}
use Rattle.ground.specs.Limits.{max_height, max_stack_height, max_line_width}
use Rattle.ground.proofs.Tests.{and_left, and_right}
use Rattle.subchars.specs.declared.VerticalLayout.{VerticalLayout}
use Rattle.subchars.specs.Hardblank.{legal_hardblank}
use Rattle.join.specs.Shape.{good_block}
use Rattle.join.proofs.GoodShape.{block_good}
use Rattle.vertical.specs.VerticalPair.{good_vertical}
use Rattle.stack.specs.StackCall.{good_stack}

-- The shape of either block.
abbrev pub Exact : ℕ → ℕ → ℕ → Type 0
Exact h w bytes = (1 ≤ h) × (h ≤ max_stack_height) × (w ≤ max_line_width) × (bytes ≡ h * w)

pub both_exact : (layout : VerticalLayout) (hardblank n upperWidth upperBytes m lowerWidth lowerBytes : ℕ) → good_stack layout hardblank n upperWidth upperBytes m lowerWidth lowerBytes ≡ true →
    Exact n upperWidth upperBytes × Exact m lowerWidth lowerBytes
unfolding good_stack
both_exact layout hardblank n upperWidth upperBytes m lowerWidth lowerBytes e =
    let u = good_block max_stack_height n max_line_width upperWidth upperBytes in
    let l = good_block max_height m max_line_width lowerWidth lowerBytes in
    let both : (u && l) ≡ true = and_left (u && l) (good_vertical layout) (and_left (u && l && good_vertical layout) (legal_hardblank hardblank) e) in
    let k = block_good max_stack_height n max_line_width upperWidth upperBytes (and_left u l both) in
    let j = block_good max_height m max_line_width lowerWidth lowerBytes (and_right u l both) in
    ((k.0, k.1, k.2, k.3), (j.0, omega (arith, j.1), j.2, j.3))
