-- `drawing::choose_byte` meets its contract.
use mathlib.Core.Path.{ap, ◌∙◌, subst}
use Rattle.subchars.specs.declared.Code.{Code}
use Rattle.source.specs.Steps.{PickedAs}
use Rattle.mapping.specs.Mapping.{map_stages}
use Rattle.mapping.proofs.HeldLaws.{mapped}
use Rattle.drawing.proofs.choose_byte.Goals as goal

pub returns : goal.returns
returns c =
    let a = c.args in
    λ source g control held.
    let is = mapped control a.commands a.stages.now a.firsts.now a.lasts.now a.news.now held _ _ c.map_by-code.ensures ∙ ap (map_stages held.commands 0 held.count) c.code_of-own.ensures in
    let d = c.choose in
    subst (λ (z : Code). PickedAs a.font.now a.second.now d.new.found a.height d.result (source z)) is (d.ensures source g)
