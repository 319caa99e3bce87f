-- `stackdrawing::draw_tested` meets its contract.
use lib.ListN.{length}
use Rattle.twolines.proofs.LinesLaws.{lines_as, lines_small, lines_enough}
use Rattle.stackdrawing.proofs.draw_tested.Goals as goal

pub returns-then-scratch-lt-MIN_STACKED_SCRATCH : goal.returns-then-scratch-lt-MIN_STACKED_SCRATCH
returns-then-scratch-lt-MIN_STACKED_SCRATCH c =
    let a = c.args in
    lines_as _ _ _ _ _ (rw c.of.ensures (lines_small a.font.now a.control.now a.upper.now a.lower.now (length a.scratch.now) c.if-scratch-lt-MIN_STACKED_SCRATCH.true)) c.refuse.ensures

pub returns : goal.returns
returns c =
    let a = c.args in
    lines_as _ _ _ _ _ (lines_enough a.font.now a.control.now a.upper.now a.lower.now (length a.scratch.now) c.if-scratch-lt-MIN_STACKED_SCRATCH.false) c.draw_once.ensures
