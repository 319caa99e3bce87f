-- `drawing::refuse` meets its contract.
use Rattle.drawing.proofs.OutputLaws.{unlined_out}
use Rattle.drawing.proofs.refuse.Goals as goal

pub returns : goal.returns
returns c = unlined_out _ _ _ c.zero_from.ensures
