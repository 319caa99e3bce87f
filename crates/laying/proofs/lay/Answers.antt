-- `laying::lay` meets its contract: what lies on the line's, and the others copied.
use Rattle.laying.proofs.Laying.{laid-rows}
use Rattle.laying.proofs.lay.Goals as goal

pub returns : goal.returns
returns c =
    let a = c.args in
    let t = c.meet_rows in
    let u = c.copy_beside in
    laid-rows a.mode a.h a.at a.p a.q a.o a.m a.stop a.s.now a.starts.now a.area.now t.new.area u.new.area c.requires.h_le_max_height.1 c.requires.h_le_max_height.2 t.ensures u.ensures c.requires.parted
