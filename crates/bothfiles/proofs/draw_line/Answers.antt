-- `bothfiles::draw_line` meets its contract.
use mathlib.Core.Path.{sym, subst}
use lib.ListN.{length}
use Rattle.subchars.specs.declared.Mode.{Mode}
use Rattle.flc.specs.Control as flc
use Rattle.source.specs.Source.{font_source}
use Rattle.source.proofs.CharacterLaws.{font_gives}
use Rattle.drawing.specs.Drawing.{Lined, lined_from, PutOut}
use Rattle.bothfiles.proofs.HeldLaws.{held_as}
use Rattle.drawing.proofs.OutputLaws.{font_lined}
use Rattle.bothfiles.proofs.draw_line.Goals as goal

pub draw_from-requires : goal.draw_from-requires
draw_from-requires c =
    let p = c.requires in
    let h = held_as _ _ _ _ _ _ _ _ _ _ _ _ c.in-Read.is p.by_index.1 in
    record { gives = (_, font_gives _ _ _ _ _ _ _ _ h.0); by_index = (p.by_index.0, h.1); min_scratch_in_bounds = p.min_scratch_in_bounds }

pub returns-in-Read : goal.returns-in-Read
returns-in-Read c =
    let a = c.args in
    let d = c.draw_from in
    λ control held.
    let h = held_as _ control _ _ _ _ _ _ _ _ _ _ c.in-Read.is held in
    let y = c.in-Read.header in
    let source = font_source a.font.now h.0.characters in
    subst (λ (l : Lined). PutOut l (length a.out.now) d.result d.new.out) (sym (font_lined a.font.now control a.text.now y h.0.characters h.0.said))
    (subst (λ (m : Mode). PutOut (lined_from m y.height source (flc.control control) a.text.now) (length a.out.now) d.result d.new.out) c.mode_of.ensures
    (d.ensures source (font_gives _ _ _ _ _ _ _ _ h.0) control h.1))
