-- `areas::write_number` meets its contract. The invariant: the bytes behind the first k are laid.
use Rattle.areas.proofs.NumberLaws.{Written}
use Rattle.areas.proofs.write_number.Given as goal

abbrev pub invariant-loop-k : goal.invariant-loop-k
invariant-loop-k l = Written l.at l.n l.x l.initial.area l.k l.rest l.area
