use Rattle.ground.proofs.Areas.{filled_none, filled_more, filled_all}
use Rattle.ground.proofs.fill_from.Goals as goal

pub loop-i-init : goal.loop-i-init
loop-i-init g c = filled_none c.args.x c.args.list.now c.args.from c.requires

pub loop-i-preserved : goal.loop-i-preserved
loop-i-preserved g c = filled_more c.args.x _ _ c.loop-i.list c.loop-i.i (rw c.loop-i.auto.list c.loop-i-test.true) c.loop-i.invariant

pub returns : goal.returns
returns g c = filled_all c.args.x _ _ c.loop-i.list c.loop-i.i (rw c.loop-i.auto.list c.loop-i-test.false) c.loop-i.invariant
