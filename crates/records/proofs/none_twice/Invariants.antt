-- `records::none_twice` meets its contract. The invariant: no code repeats from the start on exactly where none repeats from `at` on.
use mathlib.Core.Path.{◌≡◌}
use Prim.Native.Nat.{◌-◌}
use lib.ListN.{length}
use Rattle.records.specs.Records.{none_twice}
use Rattle.records.specs.Steps.{Walkable}
use Rattle.records.proofs.WalkLaws.{records_at}
use Rattle.records.proofs.none_twice.Given as goal

abbrev pub invariant-loop-found : goal.invariant-loop-found
invariant-loop-found l = Walkable l.head l.s l.at × (none_twice (records_at l.head l.s l.from) ≡ none_twice (records_at l.head l.s l.at))

abbrev pub decreases-loop-found : goal.decreases-loop-found
decreases-loop-found l = length l.s - l.at
