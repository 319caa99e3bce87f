use mathlib.Core.Path.{refl}
use native.Mathlib.Omega.{arith}
use Rattle.source.proofs.CharacterLaws.{given-high}
use Rattle.drawing.proofs.CharacterLaws.{picked_as}
use Rattle.drawing.proofs.DrawingLaws.{as_many}
use Rattle.drawing.proofs.TextLaws.{toward_first, toward_next, toward_beyond, toward_end, counted-first, counted-few, counted_next, counted-end}
use Rattle.drawing.proofs.join_text.Goals as goal

pub row_starts-rows-requires : goal.row_starts-rows-requires
row_starts-rows-requires c = ((given-high _ _ _ _ _ _ _ _ _ c.requires.gives.1).1, omega arith)

pub loop-i-init : goal.loop-i-init
loop-i-init c =
    let a = c.args in
    (omega arith, refl, refl, λ source g control held. (toward_first a.mode a.height source held.commands held.count a.text.now a.area.now, counted-first source held.commands held.count a.text.now))

pub draw_chosen-n-requires : goal.draw_chosen-n-requires
draw_chosen-n-requires c =
    let p = c.requires in
    let l = c.loop-i in
    record { chosen_as = (_, picked_as _ _ _ _ _ _ _ c.bytes_in-bytes.ensures (c.choose_byte-picked.ensures p.gives.0 p.gives.1 p.by_index.0 p.by_index.1)); n_le_limit = (l.invariant.0, p.limit_le_max_line_width.0, (given-high _ _ _ _ _ _ _ _ _ p.gives.1).1, omega (arith, p.limit_le_max_line_width.1, l.invariant.1)); row_after_row = c.row_starts-rows.ensures }

pub count_missing-missing-requires : goal.count_missing-missing-requires
count_missing-missing-requires c =
    let p = c.requires in
    let held = p.by_index.1 in
    omega (arith, counted-few _ _ _ _ _ _ (c.loop-i.invariant.3 p.gives.0 p.gives.1 p.by_index.0 held).1, as_many held.commands held.count c.args.text.now, c.well_formed.1.0)

pub returns-then-limit-n : goal.returns-then-limit-n
returns-then-limit-n c =
    let a = c.args in
    let l = c.loop-i in
    let more = c.loop-i-test.true in
    let drawn = c.draw_chosen-n in
    λ source g control held.
    let z = picked_as _ _ _ _ _ _ _ c.bytes_in-bytes.ensures (c.choose_byte-picked.ensures source g control held) in
    let so = l.invariant.3 source g control held in
    record {
      line = toward_beyond a.mode a.height source held.commands held.count a.text.now a.limit l.area l.n l.i so.0 more drawn.new.area _ (drawn.ensures.reached _ z) c.if-limit-n.true;
      few = counted-few source held.commands held.count a.text.now _ _ (counted_next source held.commands held.count a.text.now l.missing l.i so.1 more _ (c.count_missing-missing.ensures _ _ _ _ z));
      all = λ w. absurd (omega (arith, c.if-limit-n.true));
    }

pub loop-i-preserved : goal.loop-i-preserved
loop-i-preserved c =
    let a = c.args in
    let l = c.loop-i in
    let more = c.loop-i-test.true in
    let drawn = c.draw_chosen-n in (
      c.if-limit-n.false,
      omega (arith, l.invariant.1),
      omega (arith, l.invariant.2),
      λ source g control held.
          let z = picked_as _ _ _ _ _ _ _ c.bytes_in-bytes.ensures (c.choose_byte-picked.ensures source g control held) in
          let so = l.invariant.3 source g control held in (
            toward_next a.mode a.height source held.commands held.count a.text.now a.limit l.area l.n l.i so.0 more drawn.new.area _ (drawn.ensures.reached _ z) c.if-limit-n.false,
            counted_next source held.commands held.count a.text.now l.missing l.i so.1 more _ (c.count_missing-missing.ensures _ _ _ _ z),
          ),
    )

pub returns : goal.returns
returns c =
    let a = c.args in
    let l = c.loop-i in
    λ source g control held.
    let so = l.invariant.3 source g control held in
    record {
      line = toward_end a.mode a.height source held.commands held.count a.text.now a.limit l.area l.n l.i so.0 c.loop-i-test.false l.invariant.0;
      few = counted-few source held.commands held.count a.text.now l.missing l.i so.1;
      all = λ w. counted-end source held.commands held.count a.text.now l.missing l.i so.1 c.loop-i-test.false;
    }
