-- `evidence::requests` is safe and ends: each line brings the cursor nearer to the end.
use Rattle.std.proofs.Common.{sym, ◌∙◌, arith}
use Rattle.lines.proofs.LineLaws.{LineFound, line-found, line_order, line-within, next_more}
use Rattle.evidence.proofs.requests.Goals as goal

pub slice_bounds-request-count : goal.slice_bounds-request-count
slice_bounds-request-count g c = line_order _ _ _ (line-found _ _ _ (sym c.in-Some.is ∙ c.next.ensures))

pub slice_bounds-request-start : goal.slice_bounds-request-start
slice_bounds-request-start g c = line_order _ _ _ (line-found _ _ _ (sym c.in-Some.is ∙ c.next.ensures))

pub slice_bounds-request-end : goal.slice_bounds-request-end
slice_bounds-request-end g c = line-within _ _ _ (line-found _ _ _ (sym c.in-Some.is ∙ c.next.ensures))

pub loop-line-smaller : goal.loop-line-smaller
loop-line-smaller g c =
    let f : LineFound c.args.t.now c.loop-line.cursor.at c.in-Some.line = line-found _ _ _ (sym c.in-Some.is ∙ c.next.ensures) in
    omega (arith, f.inside, f.further, next_more c.args.t.now c.loop-line.cursor.at f.inside)
