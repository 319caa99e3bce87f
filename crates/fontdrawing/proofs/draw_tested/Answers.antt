-- `fontdrawing::draw_tested` meets its contract.
use lib.ListN.{length}
use Rattle.drawing.proofs.SizeLaws.{lined-small, lined_enough, put_as}
use Rattle.fontdrawing.proofs.draw_tested.Goals as goal

pub returns-then-scratch-lt-MIN_SCRATCH : goal.returns-then-scratch-lt-MIN_SCRATCH
returns-then-scratch-lt-MIN_SCRATCH c =
    let a = c.args in
    put_as (length a.scratch.now) a.font.now a.control.now a.text.now _ _ _ _ (rw c.of.ensures (lined-small _ _ _ _ c.if-scratch-lt-MIN_SCRATCH.true)) c.refuse.ensures

pub returns : goal.returns
returns c =
    let a = c.args in
    put_as (length a.scratch.now) a.font.now a.control.now a.text.now _ _ _ _ (lined_enough _ _ _ _ c.if-scratch-lt-MIN_SCRATCH.false) c.draw_once.ensures
