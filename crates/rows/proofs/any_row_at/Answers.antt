-- `rows::any_row_at` meets its contract: the row of the line that the cursor finds.
use mathlib.Core.Path.{◌≡◌, ap, ◌∙◌}
use mathlib.Core.List.{List}
use Prim.Native.Nat.{ℕ}
use lib.ListN.{length}
use Rattle.std.specs.Prelude.{Option, Some, None, Result, Err, ok_or}
use Rattle.ground.specs.Refusals.{refusal, missing_line}
use Rattle.ground.specs.declared.refusals.Refusal.{Refusal}
use Rattle.ground.proofs.Tests.{clash}
use Rattle.lines.specs.declared.Line.{Line}
use Rattle.lines.specs.Lines.{next_line}
use Rattle.rows.specs.declared.Format.{Format}
use Rattle.rows.specs.declared.Rows.{Rows}
use Rattle.rows.specs.Steps.{row_at}
use Rattle.std.proofs.Common.{rules}
use Rattle.std.proofs.lemmas.Result.{err_from_is_err_and}
use Rattle.lines.proofs.LineLaws.{LineFound, line-found, line_missed, line_order, line-within}
use Rattle.rows.proofs.RowLaws.{row-none, row_line}
use Rattle.rows.proofs.any_row_at.Goals.{In_ok-line}
use Rattle.rows.proofs.any_row_at.Goals as goal

found : (c : In_ok-line) → LineFound c.args.s.now c.args.cursor.at c.in_ok-line.line
found c = line-found _ _ _ (search rules)

missed : (s : List ℕ) (f : Format) (at : ℕ) (o : Option Line) (q : Refusal) → o ≡ next_line s at → ◌≡◌ {A = Result Line Refusal} (Err q) (ok_or o (refusal missing_line (length s))) → ◌≡◌ {A = Result Rows Refusal} (Err q) (row_at f s at)
missed s f at (Some l) q h e = clash (cc)
missed s f at None q h e = let d : q ≡ refusal missing_line (length s) = cc in ap Err d ∙ row-none f s at (line_missed s at h)

pub returns-in_err-line : goal.returns-in_err-line
returns-in_err-line c =
    let p = err_from_is_err_and c.from_residual.result c.from_residual.ensures.1 in
    rw (p.1, p.2) (missed _ _ _ _ _ c.next.ensures (search rules))

pub slice_bounds-row_of-count : goal.slice_bounds-row_of-count
slice_bounds-row_of-count c = line_order _ _ _ (found (goal.at.slice_bounds-row_of-count c).In_ok-line)

pub slice_bounds-row_of-start : goal.slice_bounds-row_of-start
slice_bounds-row_of-start c = line_order _ _ _ (found (goal.at.slice_bounds-row_of-start c).In_ok-line)

pub slice_bounds-row_of-end : goal.slice_bounds-row_of-end
slice_bounds-row_of-end c = line-within _ _ _ (found (goal.at.slice_bounds-row_of-end c).In_ok-line)

pub returns : goal.returns
returns c = c.row_there.ensures ∙ row_line _ _ _ _ (found (goal.at.returns c).In_ok-line) c.row_of.result c.row_of.ensures
