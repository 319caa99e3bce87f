-- `fontlists::two::choose` meets its contract.
use mathlib.Core.Path.{sym, ◌∙◌, subst}
use Rattle.source.specs.Source.{Choice}
use Rattle.source.specs.Steps.{PickedAs}
use Rattle.source.proofs.TwoLaws.{found-stands, stood_in_stands, found_choice, stood_in_choice, nothing_choice}
use Rattle.source.proofs.two.choose.Goals as goal

pub show_in-requires : goal.show_in-requires
show_in-requires c =
    let p = c.requires in
    let g = p.two_gives.1 in
    record { stands = found-stands _ _ _ _ _ _ _ _ _ _ g c.args.code _ _ (sym c.in-Found.is ∙ c.look_up.ensures _ _ g.header g.other g.held); max_height_in_bounds = p.max_height_in_bounds }

pub show_in-requires-in-StoodIn : goal.show_in-requires-in-StoodIn
show_in-requires-in-StoodIn c =
    let p = c.requires in
    let g = p.two_gives.1 in
    record { stands = stood_in_stands _ _ _ _ _ _ _ _ _ _ g c.args.code _ _ (sym c.in-StoodIn.is ∙ c.look_up.ensures _ _ g.header g.other g.held); max_height_in_bounds = p.max_height_in_bounds }

pub returns-in-Found : goal.returns-in-Found
returns-in-Found c =
    let a = c.args in
    let shown = c.show_in in
    λ source g.
    subst (λ (x : Choice). PickedAs a.font.now a.second.now shown.new.found a.height shown.result x)
    (found_choice source _ _ _ _ _ _ _ _ _ g a.code _ _ (sym c.in-Found.is ∙ c.look_up.ensures _ _ g.header g.other g.held)) shown.ensures

pub returns-in-StoodIn : goal.returns-in-StoodIn
returns-in-StoodIn c =
    let a = c.args in
    let shown = c.show_in-in-StoodIn in
    λ source g.
    subst (λ (x : Choice). PickedAs a.font.now a.second.now shown.new.found a.height shown.result x)
    (stood_in_choice source _ _ _ _ _ _ _ _ _ g a.code _ _ (sym c.in-StoodIn.is ∙ c.look_up.ensures _ _ g.header g.other g.held)) shown.ensures

pub returns-in-Nothing : goal.returns-in-Nothing
returns-in-Nothing c = λ source g. record { is = rw (sym (nothing_choice source _ _ _ _ _ _ _ _ _ g c.args.code (sym c.in-Nothing.is ∙ c.look_up.ensures _ _ g.header g.other g.held))) tt }
