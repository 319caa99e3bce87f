-- `wrapping::wrap_files` meets its contract.
use Rattle.bothfiles.proofs.HeldLaws.{held_as}
use Rattle.wrapping.proofs.OrderLaws.{out_as, files_refused}
use Rattle.wrapping.proofs.wrap_files.Goals as goal

pub returns-in-Refused : goal.returns-in-Refused
returns-in-Refused c =
    let a = c.args in
    λ control held.
    let h = held_as _ control _ _ _ _ _ _ _ _ _ _ c.in-Refused.is held in
    out_as _ _ _ _ _ _ _ _ _ (files_refused a.font.now control a.limit a.text.now _ h) c.refuse.ensures
