-- `twofonts::draw_once` meets its contract.
use mathlib.Core.Path.{sym, subst}
use lib.ListN.{length}
use Rattle.subchars.specs.declared.Mode.{Mode}
use Rattle.flc.specs.Control.{control}
use Rattle.source.specs.Source.{two_source}
use Rattle.drawing.specs.Drawing.{Lined, lined_from, PutOut}
use Rattle.twofonts.proofs.FontsLaws.{held_as, held-lined, two_give, unfit-lined}
use Rattle.twofonts.proofs.draw_once.Goals as goal

pub draw_mapped-requires : goal.draw_mapped-requires
draw_mapped-requires c =
    let a = c.args in
    let l = c.read_both in
    record { gives = (_, two_give _ _ _ _ _ _ _ _ _ (held_as a.first.now a.second.now _ _ l.new.codes l.new.starts l.new.widths l.new.places c.in-Read.is l.ensures)); min_scratch_in_bounds = c.requires }

pub returns-in-Read : goal.returns-in-Read
returns-in-Read c =
    let a = c.args in
    let l = c.read_both in
    let h = c.in-Read.header in
    let x = held_as a.first.now a.second.now _ _ l.new.codes l.new.starts l.new.widths l.new.places c.in-Read.is l.ensures in
    let d = c.draw_mapped in
    let put = subst (λ (y : Mode). PutOut (lined_from y h.height (two_source a.first.now a.second.now x.held.first.characters x.held.second.characters) (control a.file.now) a.text.now) (length a.out.now) d.result d.new.out) c.mode_of.ensures (d.ensures _ (two_give _ _ _ _ _ _ _ _ _ x)) in
    subst (λ (l : Lined). PutOut l (length a.out.now) d.result d.new.out) (sym (held-lined a.first.now a.second.now _ _ _ _ _ _ _ x a.file.now a.text.now)) put

pub returns-in-Refused : goal.returns-in-Refused
returns-in-Refused c =
    let a = c.args in
    let l = c.read_both in
    let e = held_as a.first.now a.second.now _ _ l.new.codes l.new.starts l.new.widths l.new.places c.in-Refused.is l.ensures in
    let d = c.refuse in
    subst (λ (l : Lined). PutOut l (length a.out.now) d.result d.new.out) (sym (unfit-lined a.first.now a.second.now _ e a.file.now a.text.now)) d.ensures
