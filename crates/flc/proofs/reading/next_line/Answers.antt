-- `flc::reading::next_line` meets its contract.
use mathlib.Core.Path.{sym, ◌∙◌}
use Rattle.std.proofs.lemmas.Result.{err_from_is_err_and}
use Rattle.lines.proofs.LineLaws.{LineFound, line-found, line_missed, line_order, line-within}
use Rattle.flc.proofs.StepLaws.{step_line, step_stopped, step_none}
use Rattle.flc.proofs.reading.next_line.Goals.{In-Some}
use Rattle.flc.proofs.reading.next_line.Goals as goal

-- the line that the cursor found
abbrev Met : Type 0
Met = In-Some

met : (c : Met) → LineFound c.args.s.now c.args.cursor.at c.in-Some.line
met c = line-found c.args.s.now c.args.cursor.at c.in-Some.line (sym c.in-Some.is ∙ c.next.ensures)

pub returns-in_default : goal.returns-in_default
returns-in_default c = step_none c.args.s.now c.args.cursor.at c.args.stage c.args.n (line_missed c.args.s.now c.args.cursor.at (sym c.in_default.is ∙ c.next.ensures))

pub slice_bounds-line_kind-count : goal.slice_bounds-line_kind-count
slice_bounds-line_kind-count c = line_order c.args.s.now c.args.cursor.at c.in-Some.line (met (goal.at.slice_bounds-line_kind-count c).In-Some)

pub slice_bounds-line_kind-start : goal.slice_bounds-line_kind-start
slice_bounds-line_kind-start c = line_order c.args.s.now c.args.cursor.at c.in-Some.line (met (goal.at.slice_bounds-line_kind-start c).In-Some)

pub slice_bounds-line_kind-end : goal.slice_bounds-line_kind-end
slice_bounds-line_kind-end c = line-within c.args.s.now c.args.cursor.at c.in-Some.line (met (goal.at.slice_bounds-line_kind-end c).In-Some)

pub returns-in_err-act : goal.returns-in_err-act
returns-in_err-act c =
    let p = err_from_is_err_and c.from_residual.result c.from_residual.ensures.1 in
    rw (p.1, p.2)
    (step_stopped c.args.s.now c.args.cursor.at c.args.stage c.args.n c.in-Some.line (met (goal.at.returns-in_err-act c).In-Some) c.line_kind-kind.result c.line_kind-kind.ensures c.in_err-act.field-0.0 (sym c.act_of.ensures ∙ c.in_err-act.was))

pub returns : goal.returns
returns c = step_line c.args.s.now c.args.cursor.at c.args.stage c.args.n c.in-Some.line (met (goal.at.returns c).In-Some) c.line_kind-kind.result c.line_kind-kind.ensures c.in_ok-act.act (sym c.act_of.ensures ∙ c.in_ok-act.was)
