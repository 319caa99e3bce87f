-- `capi::checks::wattleslate_check_drawing` meets its contract, for every input.
use mathlib.Core.Path.{sym, subst}
use Rattle.answers.specs.Fits.{CheckFits}
use Rattle.capi.proofs.CheckBounds.{check_fits}
use Rattle.capi.proofs.checks.wattleslate_check_drawing.Goals as goal

pub check_number-requires : goal.check_number-requires
check_number-requires c = subst CheckFits (sym c.check_drawing-answer.ensures.answer) (check_fits _ _ _ _ _ _)
