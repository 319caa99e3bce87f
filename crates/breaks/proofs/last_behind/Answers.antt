use native.Mathlib.Omega.{arith}
use Rattle.breaks.proofs.WordLaws.{last-all, last_here, last_less, last_none}
use Rattle.breaks.proofs.last_behind.Goals as goal

pub loop-e-init : goal.loop-e-init
loop-e-init c = last-all _

pub returns-then-text-e-ne32 : goal.returns-then-text-e-ne32
returns-then-text-e-ne32 c = omega (arith, c.loop-e-test.true, last_here _ _ c.loop-e-test.true c.if-text-e-ne32.true c.loop-e.invariant)

pub loop-e-preserved : goal.loop-e-preserved
loop-e-preserved c = last_less _ _ c.loop-e-test.true c.if-text-e-ne32.false c.loop-e.invariant

pub returns : goal.returns
returns c = last_none _ _ c.loop-e-test.false c.loop-e.invariant
