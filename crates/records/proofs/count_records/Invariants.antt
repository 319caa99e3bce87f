-- `records::count_records` meets its contract. The invariant: the count of all records is that of those from `at` on, after n live ones.
use mathlib.Core.Path.{◌≡◌}
use Prim.Native.Nat.{◌-◌, ◌≤◌}
use lib.ListN.{length, drop}
use Rattle.records.specs.Records.{record_list}
use Rattle.records.specs.Steps.{counted_from}
use Rattle.records.proofs.count_records.Given as goal

abbrev pub invariant-loop-found : goal.invariant-loop-found
invariant-loop-found l = (l.n ≤ l.at) × (l.at ≤ length l.s) × (counted_from 0 (record_list l.head (drop l.from l.s)) ≡ counted_from l.n (record_list l.head (drop l.at l.s)))

abbrev pub decreases-loop-found : goal.decreases-loop-found
decreases-loop-found l = length l.s - l.at
