-- `capi::wattleslate_check_control` meets its contract, for every input.
use mathlib.Core.Path.{sym, subst}
use Rattle.answers.specs.Fits.{ControlFits}
use Rattle.capi.proofs.Bounds.{control_answer_fits}
use Rattle.capi.proofs.wattleslate_check_control.Goals as goal

pub control_number-requires : goal.control_number-requires
control_number-requires c = subst ControlFits (sym c.read_lists-answer.ensures.answer) (control_answer_fits _)
