-- `twolines::count_both` meets its contract.
use Rattle.twolines.proofs.OutputLaws.{counted_both}
use Rattle.twolines.proofs.count_both.Goals as goal

pub returns : goal.returns
returns c = λ source given mode us ls scratch so. counted_both source us ls c.args.drawn _ (c.counts_of.ensures source given) so.first.all so.second.all
