-- `twolines::refuse` meets its contract.
use Rattle.twolines.proofs.OutputLaws.{refused_out}
use Rattle.twolines.proofs.refuse.Goals as goal

pub returns : goal.returns
returns c = refused_out _ _ _ c.zero_from.ensures
