-- `fontdrawing::draw_once` meets its contract.
use mathlib.Core.Path.{sym, subst}
use lib.ListN.{length}
use Rattle.subchars.specs.declared.Mode.{Mode}
use Rattle.flc.specs.Control.{control}
use Rattle.std.specs.Prelude.{Result}
use Rattle.ground.specs.declared.refusals.Refusal.{Refusal}
use Rattle.reader.specs.declared.FontRead.{FontRead}
use Rattle.source.specs.Source.{font_source}
use Rattle.fontlists.specs.Held.{FontHeldBy}
use Rattle.source.proofs.CharacterLaws.{font_gives}
use Rattle.drawing.specs.Drawing.{Lined, lined_from, PutOut}
use Rattle.drawing.proofs.OutputLaws.{font_lined, font_unlined}
use Rattle.fontdrawing.proofs.draw_once.Goals as goal

pub draw_mapped-requires : goal.draw_mapped-requires
draw_mapped-requires c =
    let a = c.args in
    let l = c.read_font in
    record { gives = (_, font_gives _ _ _ _ _ _ _ _ (subst (λ (r : Result FontRead Refusal). FontHeldBy a.font.now r l.new.codes l.new.starts l.new.widths l.new.places) c.in-Ok.is l.ensures)); min_scratch_in_bounds = c.requires }

pub returns-in-Ok : goal.returns-in-Ok
returns-in-Ok c =
    let a = c.args in
    let l = c.read_font in
    let h = c.in-Ok.read.header in
    let held = subst (λ (r : Result FontRead Refusal). FontHeldBy a.font.now r l.new.codes l.new.starts l.new.widths l.new.places) c.in-Ok.is l.ensures in
    let d = c.draw_mapped in
    subst (λ (l : Lined). PutOut l (length a.out.now) d.result d.new.out) (sym (font_lined a.font.now a.control.now a.text.now h held.characters held.said))
    (subst (λ (y : Mode). PutOut (lined_from y h.height (font_source a.font.now held.characters) (control a.control.now) a.text.now) (length a.out.now) d.result d.new.out) c.mode_of.ensures
    (d.ensures _ (font_gives _ _ _ _ _ _ _ _ held)))

pub returns-in-Err : goal.returns-in-Err
returns-in-Err c =
    let a = c.args in
    let l = c.read_font in
    let refused = subst (λ (r : Result FontRead Refusal). FontHeldBy a.font.now r l.new.codes l.new.starts l.new.widths l.new.places) c.in-Err.is l.ensures in
    let d = c.refuse in
    subst (λ (l : Lined). PutOut l (length a.out.now) d.result d.new.out) (sym (font_unlined a.font.now a.control.now a.text.now _ refused)) d.ensures
