-- `fontlists::two::stands_in` meets its contract.
use mathlib.Core.Path.{sym, ◌∙◌}
use Rattle.source.proofs.TwoLaws.{told_stands_in}
use Rattle.source.proofs.two.stands_in.Goals as goal

pub returns-in-Found : goal.returns-in-Found
returns-in-Found c = λ source s t height g. told_stands_in source s t height _ _ _ _ _ _ g _ (sym c.in-Found.is ∙ c.look_up.ensures s t g.header g.other g.held)

pub returns-in-StoodIn : goal.returns-in-StoodIn
returns-in-StoodIn c = λ source s t height g. told_stands_in source s t height _ _ _ _ _ _ g _ (sym c.in-StoodIn.is ∙ c.look_up.ensures s t g.header g.other g.held)

pub returns-in-Nothing : goal.returns-in-Nothing
returns-in-Nothing c = λ source s t height g. told_stands_in source s t height _ _ _ _ _ _ g _ (sym c.in-Nothing.is ∙ c.look_up.ensures s t g.header g.other g.held)
