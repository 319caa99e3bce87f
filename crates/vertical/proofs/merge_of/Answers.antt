-- `vertical::merge_of` meets its contract: what the horizontal decision joins.
use Rattle.vertical.proofs.Deciding.{by_joint}
use Rattle.vertical.proofs.merge_of.Goals as goal

pub returns-in-ByBlank : goal.returns-in-ByBlank
returns-in-ByBlank c = let a = c.args in by_joint a.layout a.u.0 a.l.0 _ c.sideways_layout.ensures _ _ c.in-ByBlank.is c.joint_of.ensures

pub returns-in-ByBlank-2 : goal.returns-in-ByBlank-2
returns-in-ByBlank-2 c = let a = c.args in by_joint a.layout a.u.0 a.l.0 _ c.sideways_layout.ensures _ _ c.in-ByBlank.is c.joint_of.ensures

pub returns-in-ByBlank-3 : goal.returns-in-ByBlank-3
returns-in-ByBlank-3 c = let a = c.args in by_joint a.layout a.u.0 a.l.0 _ c.sideways_layout.ensures _ _ c.in-ByBlank.is c.joint_of.ensures
