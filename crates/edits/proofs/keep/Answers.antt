-- `edits::keep` meets its contract.
use mathlib.Core.Path.{◌∙◌}
use Rattle.areas.proofs.LaidLaws.{copied_laid}
use Rattle.edits.proofs.SqueezeLaws.{moved-live}
use Rattle.edits.proofs.keep.Goals as goal

pub returns-then-found : goal.returns-then-found
returns-then-found c =
    let a = c.args in
    moved-live a.at a.to a.found.size a.area.now c.copy_within.new.self a.found.live c.if-found.true (c.copy_within.ensures.after ∙ copied_laid a.at a.found.size a.to a.area.now c.requires.1)
