-- `records::first_from` meets its contract. The invariant: what a test finds from the start on it finds from `at` on.
use mathlib.Core.Path.{◌≡◌}
use mathlib.Core.Bool.{Bool}
use Prim.Native.Nat.{◌-◌}
use lib.ListN.{length}
use Rattle.records.specs.declared.Record.{Record}
use Rattle.records.specs.Steps.{Walkable, Tests, first_in}
use Rattle.records.proofs.WalkLaws.{records_at}
use Rattle.records.proofs.first_from.Given as goal

abbrev pub invariant-loop-found : goal.invariant-loop-found
invariant-loop-found g l =
    Walkable l.head l.s l.at ×
    ((p : Record → Bool) → Tests (goal.F-post g l.wanted) p → first_in l.head p l.from (records_at l.head l.s l.from) ≡ first_in l.head p l.at (records_at l.head l.s l.at))

abbrev pub decreases-loop-found : goal.decreases-loop-found
decreases-loop-found g l = length l.s - l.at
