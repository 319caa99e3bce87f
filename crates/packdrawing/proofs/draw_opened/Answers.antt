-- `packdrawing::draw_opened` meets its contract.
use mathlib.Core.Path.{sym, ap, ◌∙◌, subst}
use lib.ListN.{length}
use Rattle.source.specs.Source.{pack_source}
use Rattle.drawing.specs.Drawing.{Lined, unlined, PutOut}
use Rattle.packdrawing.proofs.PackCases.{of_bad_layout, of_good_layout, pack_gives}
use Rattle.packdrawing.proofs.draw_opened.Goals as goal

pub draw_mapped-requires : goal.draw_mapped-requires
draw_mapped-requires c =
    let a = c.args in
    let p = c.requires in
    record { gives = (_, record { by = pack_gives a.pack.now a.head p.by_index.0 _ _ p.by_index.1 (c.hold_letters.ensures p.by_index.0 p.by_index.1) }); min_scratch_in_bounds = p.min_scratch_in_bounds }

pub returns-then-good_layout : goal.returns-then-good_layout
returns-then-good_layout c =
    let a = c.args in
    let p = c.requires.by_index in
    let d = c.draw_mapped in
    subst (λ (l : Lined). PutOut l (length a.out.now) d.result d.new.out)
    (sym (of_good_layout a.pack.now a.layout a.direction a.file.now a.text.now a.head p.0 p.1 (sym c.good_layout.ensures ∙ c.if-good_layout.true)))
    (d.ensures (pack_source a.head p.0) (record { by = pack_gives a.pack.now a.head p.0 _ _ p.1 (c.hold_letters.ensures p.0 p.1) }))

pub returns : goal.returns
returns c =
    let a = c.args in
    let p = c.requires.by_index in
    let d = c.refuse in
    subst (λ (l : Lined). PutOut l (length a.out.now) d.result d.new.out)
    (ap unlined c.of.ensures ∙ sym (of_bad_layout a.pack.now a.layout a.direction a.file.now a.text.now a.head p.0 p.1 (sym c.good_layout.ensures ∙ c.if-good_layout.false))) d.ensures
