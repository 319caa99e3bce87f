-- `pack::find` meets its contract.
use mathlib.Core.Path.{◌∙◌}
use Rattle.pack.proofs.CallLaws.{err_is, find_rows_at, find_refused}
use Rattle.pack.proofs.find.Goals as goal

pub returns : goal.returns
returns c = find_rows_at c.args.pack.now _ c.in_ok-place.field-0 c.in_ok-place.ensures

pub returns-in_err-place : goal.returns-in_err-place
returns-in_err-place c = err_is c.from_residual.result _ c.from_residual.ensures.1 ∙ find_refused c.args.pack.now _ _ c.in_err-place.ensures
