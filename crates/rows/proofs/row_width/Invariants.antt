-- `rows::row_width` meets its contract. The invariant: from n on all bytes equal the last one.
use mathlib.Core.Path.{◌≡◌}
use mathlib.Core.Bool.{true}
use Prim.Native.Nat.{◌≤◌, ◌-◌}
use lib.Dec.{eqb}
use lib.ListN.{length, drop, get_or}
use Rattle.ground.specs.Runs.{all}
use Rattle.rows.proofs.row_width.Given as goal

abbrev pub invariant-loop-n : goal.invariant-loop-n
invariant-loop-n l = (l.n ≤ length l.t) × (all (eqb (get_or l.t (length l.t - 1) 0)) (drop l.n l.t) ≡ true)

abbrev pub decreases-loop-n : goal.decreases-loop-n
decreases-loop-n l = l.n
