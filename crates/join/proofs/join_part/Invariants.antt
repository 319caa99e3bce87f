-- `join::join_part` meets its contract. The invariant: what the first k pairs become stands at the start.
use mathlib.Core.Path.{◌≡◌}
use lib.ListN.{length, take}
use Rattle.ground.specs.Area.{values}
use Rattle.join.specs.Writing.{pair_bytes}
use Rattle.join.proofs.join_part.Given as goal

abbrev pub invariant-loop-k : goal.invariant-loop-k
invariant-loop-k l = (length l.out ≡ length l.initial.out) × (take l.k l.out ≡ values (pair_bytes l.mode l.left 0 l.right 0) l.k)
