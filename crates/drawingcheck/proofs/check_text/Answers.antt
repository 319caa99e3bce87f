use mathlib.Core.Path.{refl}
use native.Mathlib.Omega.{arith}
use Rattle.ground.specs.Limits.{max_line_width}
use Rattle.source.proofs.CharacterLaws.{given-high}
use Rattle.drawing.proofs.CharacterLaws.{picked_in_one}
use Rattle.drawing.proofs.TextLaws.{toward_first, toward_next, toward_beyond, toward_end}
use Rattle.drawingcheck.proofs.CheckLaws.{traced_first, traced_few, traced_grows, traced_next, traced_end}
use Rattle.drawingcheck.proofs.check_text.Goals as goal

pub row_starts-rows-requires : goal.row_starts-rows-requires
row_starts-rows-requires c = ((given-high _ _ _ _ _ _ _ _ _ c.requires.gives.1).1, omega arith)

pub loop-i-init : goal.loop-i-init
loop-i-init c =
    let a = c.args in
    (omega arith, refl, refl, λ source g control held. (toward_first a.mode a.height source held.commands held.count a.text.now a.area.now, traced_first a.mode a.height source held.commands held.count a.text.now a.overlaps.now _ a.area.now (c.none_drawn-tally.ensures a.overlaps.now)))

pub draw_chosen-w-requires : goal.draw_chosen-w-requires
draw_chosen-w-requires c =
    let p = c.requires in
    let l = c.loop-i in
    record { chosen_as = (_, picked_in_one _ _ _ _ _ (c.choose_byte-picked.ensures p.gives.0 p.gives.1 p.by_index.0 p.by_index.1)); n_le_limit = (l.invariant.0, omega arith, (given-high _ _ _ _ _ _ _ _ _ p.gives.1).1, omega (arith, p.min_scratch_in_bounds, l.invariant.1)); row_after_row = c.row_starts-rows.ensures }

pub returns-then-limit-w : goal.returns-then-limit-w
returns-then-limit-w c =
    let a = c.args in
    let l = c.loop-i in
    let drawn = c.draw_chosen-w in
    λ source g control held.
    let z = picked_in_one _ _ _ _ _ (c.choose_byte-picked.ensures source g control held) in
    record {
      line = toward_beyond a.mode a.height source held.commands held.count a.text.now max_line_width l.area l.n l.i (l.invariant.3 source g control held).0 c.loop-i-test.true drawn.new.area _ (drawn.ensures.reached _ z) c.if-limit-w.true;
      trace = λ w. absurd (omega (arith, c.if-limit-w.true));
    }

pub with_chosen-tally-requires : goal.with_chosen-tally-requires
with_chosen-tally-requires c =
    let a = c.args in
    let p = c.requires in
    let l = c.loop-i in
    let drawn = c.draw_chosen-w in
    let source = p.gives.0 in
    let g = p.gives.1 in
    let control = p.by_index.0 in
    let held = p.by_index.1 in
    let picked = c.choose_byte-picked in
    let z = picked_in_one _ _ _ _ _ (c.choose_byte-picked.ensures source g control held) in
    let so = l.invariant.3 source g control held in
    (omega (arith, traced_few a.mode a.height source held.commands held.count a.text.now a.overlaps.now l.tally l.area l.n l.i so.1, c.loop-i-test.true, c.well_formed.1.0), l.invariant.0, traced_grows a.mode a.height source held.commands held.count a.text.now a.overlaps.now l.tally l.area l.n l.i so.1 c.loop-i-test.true a.font.now picked.new.found picked.result.chosen z _ drawn.new.area ((drawn.ensures.reached _ z).within c.if-limit-w.false))

pub loop-i-preserved : goal.loop-i-preserved
loop-i-preserved c =
    let a = c.args in
    let l = c.loop-i in
    let picked = c.choose_byte-picked in
    let drawn = c.draw_chosen-w in (
      c.if-limit-w.false,
      omega (arith, l.invariant.1),
      omega (arith, l.invariant.2),
      λ source g control held.
          let z = picked_in_one _ _ _ _ _ (c.choose_byte-picked.ensures source g control held) in
          let so = l.invariant.3 source g control held in (
            toward_next a.mode a.height source held.commands held.count a.text.now max_line_width l.area l.n l.i so.0 c.loop-i-test.true drawn.new.area _ (drawn.ensures.reached _ z) c.if-limit-w.false,
            traced_next a.mode a.height source held.commands held.count a.text.now a.overlaps.now l.tally l.area l.n l.i so.1 c.loop-i-test.true a.font.now picked.new.found picked.result.chosen z _ drawn.new.area ((drawn.ensures.reached _ z).within c.if-limit-w.false) _ c.with_chosen-tally.ensures,
          ),
    )

pub returns : goal.returns
returns c =
    let a = c.args in
    let l = c.loop-i in
    λ source g control held.
    let so = l.invariant.3 source g control held in
    record {
      line = toward_end a.mode a.height source held.commands held.count a.text.now max_line_width l.area l.n l.i so.0 c.loop-i-test.false l.invariant.0;
      trace = λ w. traced_end a.mode a.height source held.commands held.count a.text.now a.overlaps.now l.tally l.area l.n l.i so.1 c.loop-i-test.false;
    }
