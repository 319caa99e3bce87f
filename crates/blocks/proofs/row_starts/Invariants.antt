-- `blocks::row_starts` meets its contract. The invariant: the rows passed start one after another.
use mathlib.Core.Path.{◌≡◌}
use Prim.Native.Nat.{ℕ, ◌<◌, ◌*◌}
use lib.ListN.{length, get_or}
use Rattle.ground.specs.Limits.{max_height}
use Rattle.blocks.proofs.row_starts.Given as goal

abbrev pub invariant-loop-r : goal.invariant-loop-r
invariant-loop-r l = (length l.starts ≡ max_height) × ((i : ℕ) → i < l.r → get_or l.starts i 0 ≡ i * l.w)
