-- `drawing::put_out` meets its contract.
use Rattle.drawing.proofs.OutputLaws.{lined_out}
use Rattle.drawing.proofs.put_out.Goals as goal

pub returns : goal.returns
returns c = λ source codes reached are. lined_out _ _ source codes _ c.args.counts _ reached are _ _ _ _ c.with_counts.ensures c.put_out-answer.ensures.value c.put_out-answer.ensures.out_after
