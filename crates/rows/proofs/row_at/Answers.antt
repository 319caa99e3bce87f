-- `rows::row_at` meets its contract: a plain line, or any other.
use mathlib.Core.Path.{◌∙◌}
use Rattle.lines.specs.Plain.{IsPlainLine}
use Rattle.lines.proofs.LineLaws.{line-within}
use Rattle.lines.proofs.PlainLaws.{plain-told, plain-found}
use Rattle.rows.proofs.RowLaws.{row_line}
use Rattle.rows.proofs.row_at.Goals.{In-Some}
use Rattle.rows.proofs.row_at.Goals as goal

plain : (c : In-Some) → IsPlainLine c.args.s.now c.args.cursor.at c.in-Some.line
plain c = plain-told _ _ _ _ c.in-Some.is c.next_plain.ensures

pub slice_bounds-row_where-end : goal.slice_bounds-row_where-end
slice_bounds-row_where-end c = line-within _ _ _ (plain-found _ _ _ (plain (goal.at.slice_bounds-row_where-end c).In-Some))

pub returns-in-Some : goal.returns-in-Some
returns-in-Some c = c.row_there.ensures ∙ row_line _ _ _ _ (plain-found _ _ _ (plain (goal.at.returns-in-Some c).In-Some)) c.row_where.result c.row_where.ensures
