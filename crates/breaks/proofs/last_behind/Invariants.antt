-- `breaks::last_behind` meets its contract: the blanks passed from the text's end on.
use Rattle.breaks.proofs.WordLaws.{LastUpTo}
use Rattle.breaks.proofs.last_behind.Given as goal

abbrev pub invariant-loop-e : goal.invariant-loop-e
invariant-loop-e l = LastUpTo l.text l.e
