use native.Mathlib.Omega.{arith}
use borrow.Author.Tests.{le-leb, lt-leb}
use Rattle.ground.proofs.Runs.{counted-more, counted_stop, counted-end}
use Rattle.lines.specs.Plain.{is_plain}
use Rattle.lines.proofs.plain_length.Goals as goal

pub returns-then-t-n-lt32 : goal.returns-then-t-n-lt32
returns-then-t-n-lt32 c =
    counted_stop is_plain c.args.t.now c.loop-n.n (omega arith) (lt-leb 32 _ c.if-t-n-lt32.true) c.loop-n.invariant

pub loop-n-preserved : goal.loop-n-preserved
loop-n-preserved c =
    counted-more is_plain c.args.t.now c.loop-n.n (omega arith) (le-leb 32 _ c.if-t-n-lt32.false) c.loop-n.invariant

pub returns : goal.returns
returns c = counted-end is_plain c.args.t.now c.loop-n.n (omega arith) c.loop-n.invariant
