-- `drawing::draw_from` meets its contract.
use mathlib.Core.Path.{sym, subst}
use native.Mathlib.Omega.{arith}
use lib.ListN.{length}
use Rattle.source.proofs.CharacterLaws.{given-high}
use Rattle.drawing.specs.Drawing.{Lined, PutOut}
use Rattle.drawing.proofs.OutputLaws.{source-lined}
use Rattle.drawing.proofs.draw_from.Goals as goal

pub put_out-requires : goal.put_out-requires
put_out-requires c = ((given-high _ _ _ _ _ _ _ _ _ c.requires.gives.1).1, omega (arith, c.requires.min_scratch_in_bounds))

pub returns : goal.returns
returns c =
    let a = c.args in
    λ source given control held.
    let drawn = c.join_text-drawn.ensures source given control held in
    subst (λ (l : Lined). PutOut l (length a.out.now) c.put_out.result c.put_out.new.out)
    (sym (source-lined a.mode a.height source control a.text.now held.commands held.count held.said c.if-text-gt-MAX_TEXT.false))
    (c.put_out.ensures source _ drawn.line (λ w. c.counts_of-counts.ensures source given _ (drawn.all w)))
