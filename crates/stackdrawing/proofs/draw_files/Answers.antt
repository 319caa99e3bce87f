-- `stackdrawing::draw_files` meets its contract.
use Rattle.bothfiles.proofs.HeldLaws.{held_as}
use Rattle.twolines.proofs.LinesLaws.{lines_as, upper_refused}
use Rattle.stackdrawing.proofs.draw_files.Goals as goal

pub returns-in-Refused : goal.returns-in-Refused
returns-in-Refused c =
    let a = c.args in
    λ control held.
    let h = held_as _ control _ _ _ _ _ _ _ _ _ _ c.in-Refused.is held in
    lines_as _ _ _ _ _ (upper_refused a.font.now control a.upper.now a.lower.now _ (h a.upper.now)) c.refuse.ensures
