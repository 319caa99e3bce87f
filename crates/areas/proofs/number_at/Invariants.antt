-- `areas::number_at` meets its contract. The invariant: the bytes so far are read.
use Rattle.areas.proofs.NumberLaws.{Upto}
use Rattle.areas.proofs.number_at.Given as goal

abbrev pub invariant-loop-b : goal.invariant-loop-b
invariant-loop-b l = Upto l.b-items l.b-index l.r
