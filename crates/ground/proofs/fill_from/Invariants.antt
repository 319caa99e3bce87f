-- The invariant: the part before `from` is as it was, and the value stands from there to `i`.
use Rattle.std.proofs.Common.{length}
use Rattle.ground.proofs.Areas.{Filled}
use Rattle.ground.proofs.fill_from.Given as goal

abbrev pub invariant-loop-i : goal.invariant-loop-i
invariant-loop-i g l = Filled l.fn.x l.initial.list l.fn.from l.list l.i
