-- `chars::tag_at` meets its contract: the tag of the line that the cursor finds.
use Rattle.lines.proofs.LineLaws.{LineFound, line-found, line_missed, line_order, line-within}
use Rattle.chars.proofs.ListingLaws.{tag_line, tag_missed}
use Rattle.chars.proofs.tag_at.Goals.{In_ok-line}
use Rattle.chars.proofs.tag_at.Goals as goal

found : (c : In_ok-line) → LineFound c.args.s.now c.args.cursor.at c.in_ok-line.line
found c = line-found _ _ _ c.in_ok-line.ensures

pub returns-in_err-line : goal.returns-in_err-line
returns-in_err-line c = rw c.from_residual.ensures (tag_missed _ _ (line_missed _ _ c.in_err-line.ensures))

pub slice_bounds-tag_of-count : goal.slice_bounds-tag_of-count
slice_bounds-tag_of-count c = line_order _ _ _ (found (goal.at.slice_bounds-tag_of-count c).In_ok-line)

pub slice_bounds-tag_of-start : goal.slice_bounds-tag_of-start
slice_bounds-tag_of-start c = line_order _ _ _ (found (goal.at.slice_bounds-tag_of-start c).In_ok-line)

pub slice_bounds-tag_of-end : goal.slice_bounds-tag_of-end
slice_bounds-tag_of-end c = line-within _ _ _ (found (goal.at.slice_bounds-tag_of-end c).In_ok-line)

pub returns-in_err-code : goal.returns-in_err-code
returns-in_err-code c = rw c.from_residual-in_err-code.ensures (tag_line _ _ c.in_ok-line.line (found (goal.at.returns-in_err-code c).In_ok-line) _ c.in_err-code.ensures)

pub returns : goal.returns
returns c = tag_line _ _ c.in_ok-line.line (found (goal.at.returns c).In_ok-line) _ c.in_ok-code.ensures
