-- `wrapping::refuse` meets its contract.
use Rattle.wrapping.proofs.OrderLaws.{unwrapped_out}
use Rattle.wrapping.proofs.refuse.Goals as goal

pub returns : goal.returns
returns c = unwrapped_out _ _ _ _ _ _ _ c.fill_from.ensures c.fill_from-2.ensures c.zero_from.ensures
