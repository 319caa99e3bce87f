-- `laying::meet_at` meets its contract.
use mathlib.Core.Path.{sym, ap, ◌∙◌}
use lib.ListN.{get_or, set}
use lib.Seq.{set-get_or}
use Rattle.laying.proofs.Laying.{met-blank}
use Rattle.laying.proofs.meet_at.Goals as goal

pub returns-else-x-ne32 : goal.returns-else-x-ne32
returns-else-x-ne32 c =
    let a = c.args in
    sym (ap (set a.area.now a.at) (met-blank a.mode (get_or a.area.now a.at 0) a.x.0 c.if-x-ne32.false) ∙ set-get_or a.area.now a.at 0)
