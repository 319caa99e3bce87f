-- `areas::copy_to` meets its contract. The invariant: the first k bytes are laid.
use mathlib.Core.Path.{◌≡◌}
use lib.ListN.{length, take}
use Rattle.areas.specs.Laid.{laid}
use Rattle.areas.proofs.copy_to.Given as goal

abbrev pub invariant-loop-k : goal.invariant-loop-k
invariant-loop-k l = (length l.area ≡ length l.initial.area) × (l.area ≡ laid l.at (take l.k l.bytes) l.initial.area)
