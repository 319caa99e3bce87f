-- `drawing::draw_mapped` meets its contract.
use mathlib.Core.Path.{subst}
use Rattle.std.specs.Prelude.{Result}
use Rattle.ground.specs.declared.refusals.Refusal.{Refusal}
use Rattle.flc.specs.declared.ControlRead.{ControlRead}
use Rattle.mapping.specs.Passing.{ControlHeldBy}
use Rattle.mapping.proofs.HeldLaws.{told}
use Rattle.drawing.proofs.draw_mapped.Goals as goal

pub draw_from-requires : goal.draw_from-requires
draw_from-requires c =
    let a = c.args in
    let p = c.requires in
    let l = c.read_lists in
    record { gives = p.gives; by_index = (a.control.now, subst (λ (r : Result ControlRead Refusal). ControlHeldBy a.control.now r l.new.stages l.new.firsts l.new.lasts l.new.news) c.in-Ok.is (told a.control.now (λ i. (c.shared_slice_known-7-1.given i).fits) l.result _ _ _ _ _ _ _ _ l.ensures)); min_scratch_in_bounds = p.min_scratch_in_bounds }

pub returns-in-Ok : goal.returns-in-Ok
returns-in-Ok c =
    let a = c.args in
    let l = c.read_lists in
    let held = subst (λ (r : Result ControlRead Refusal). ControlHeldBy a.control.now r l.new.stages l.new.firsts l.new.lasts l.new.news) c.in-Ok.is (told a.control.now (λ i. (c.shared_slice_known-7-1.given i).fits) l.result _ _ _ _ _ _ _ _ l.ensures) in
    λ source g. c.draw_from.ensures source g a.control.now held
