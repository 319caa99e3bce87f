-- `request::request` meets its contract: one law for each way to return.
use mathlib.Core.Path.{sym, ap, ◌∙◌}
use Rattle.std.specs.Prelude.{Ok, Err}
use Rattle.lines.proofs.PlaceLaws.{skipped_to}
use Rattle.request.proofs.RequestLaws.{row-found, row-high, row-missing, row_unread}
use Rattle.request.proofs.request.Goals.{in_default-via-in-Some+else-row-sought, in_default-via-in_default}
use Rattle.request.proofs.request.Goals as goal

pub returns-in-Some : goal.returns-in-Some
returns-in-Some c =
    let a = c.args in
    row-found a.font.now a.code a.row c.in-Some.sought (sym (c.in-Ok.is ∙ ap Ok c.in-Some.is) ∙ c.seek.ensures) c.if-row-sought.true _ (skipped_to _ _ _ _ c.skip.ensures)

pub returns-in_default : goal.returns-in_default
returns-in_default c =
    let a = c.args in
    ap Err c.of.ensures ∙
    elim c.in_default.branch [
      | in_default-via-in-Some+else-row-sought w ↦ row-high a.font.now a.code a.row w.in-Some.sought (sym (c.in-Ok.is ∙ ap Ok w.in-Some.is) ∙ c.seek.ensures) w.if-row-sought.false
      | in_default-via-in_default w ↦ row-missing a.font.now a.code a.row (sym (c.in-Ok.is ∙ ap Ok w.in_default.is) ∙ c.seek.ensures)
    ]

pub returns-in-Err : goal.returns-in-Err
returns-in-Err c = row_unread c.args.font.now c.args.code c.args.row _ (sym c.in-Err.is ∙ c.seek.ensures)
