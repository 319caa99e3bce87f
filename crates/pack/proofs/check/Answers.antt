-- `pack::check` meets its contract.
use mathlib.Core.Path.{◌∙◌}
use Rattle.pack.proofs.CallLaws.{err_is, check_accepted, check_damaged}
use Rattle.pack.proofs.check.Goals as goal

pub returns : goal.returns
returns c = check_accepted c.args.pack.now c.in_ok-head.field-0 c.in_ok-head.ensures

pub returns-in_err-head : goal.returns-in_err-head
returns-in_err-head c = err_is c.from_residual.result _ c.from_residual.ensures.1 ∙ check_damaged c.args.pack.now _ c.in_err-head.ensures
