-- `drawing::draw_chosen` meets its contract.
use Rattle.drawing.proofs.CharacterLaws.{reached}
use Rattle.drawing.proofs.draw_chosen.Goals as goal

pub returns-in-Character : goal.returns-in-Character
returns-in-Character c =
    let a = c.args in
    record { reached = λ x z. reached _ _ _ _ a.mode _ a.n a.area.now _ _ _ c.attach-attached.ensures.holds_line _ c.in-Character.is x z; area_unchanged = c.attach-attached.ensures.area_unchanged }
