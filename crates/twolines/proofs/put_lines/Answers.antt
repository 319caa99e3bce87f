-- `twolines::put_lines` meets its contract.
use mathlib.Core.Path.{sym, subst}
use Rattle.ground.specs.Limits.{max_line_width}
use Rattle.drawing.specs.Steps.{TextDrawn}
use Rattle.twolines.proofs.OutputLaws.{both_put}
use Rattle.twolines.proofs.put_lines.Goals as goal

pub returns : goal.returns
returns c =
    let a = c.args in
    let halves = c.split_at in
    λ source us ls so are.
    both_put a.mode a.vertical a.height source us ls a.drawn halves.result.0.now halves.result.1.now
    (subst (TextDrawn a.mode a.height max_line_width source us a.drawn.upper) (sym halves.ensures.front) so.first)
    (subst (TextDrawn a.mode a.height max_line_width source ls a.drawn.lower) (sym halves.ensures.back) so.second) _ _ _ c.if-u-gt-MAX_LINE_WIDTH.false c.if-l-gt-MAX_LINE_WIDTH.false c.line_in-upper.result c.line_in-lower.result c.line_in-upper.ensures c.line_in-lower.ensures _
    c.with_counts.ensures.0 a.counts are c.with_counts.ensures.1 c.put_stack-answer.ensures
