-- `showing::show_rows` meets its contract. The invariant: the rows passed stand at the start.
use mathlib.Core.Path.{◌≡◌}
use Prim.Native.Nat.{ℕ, ◌≤◌, ◌-◌, ◌+◌, ◌*◌}
use lib.ListN.{length, take}
use Rattle.ground.specs.Limits.{max_line_width}
use Rattle.blocks.specs.Block.{rows_of}
use Rattle.blocks.specs.Writing.{from_on}
use Rattle.showing.specs.Output.{with_lf}
use Rattle.showing.proofs.show_rows.Given as goal

abbrev pub invariant-loop-r : goal.invariant-loop-r
invariant-loop-r l = (l.r ≤ l.h) × (length l.out ≡ length l.initial.out) × (l.at ≡ l.r * (l.w + 1)) × (take l.at l.out ≡ rows_of (λ (q : ℕ). with_lf l.hardblank.0 l.w (from_on l.area (q * max_line_width + l.from))) l.r (l.w + 1))

abbrev pub decreases-loop-r : goal.decreases-loop-r
decreases-loop-r l = l.h - l.r
