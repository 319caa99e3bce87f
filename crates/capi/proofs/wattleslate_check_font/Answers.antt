-- `capi::wattleslate_check_font` meets its contract, for every input.
use mathlib.Core.Path.{sym, subst}
use Rattle.answers.specs.Fits.{FontFits}
use Rattle.capi.proofs.Bounds.{font_answer_fits}
use Rattle.capi.proofs.wattleslate_check_font.Goals as goal

pub font_number-requires : goal.font_number-requires
font_number-requires c = subst FontFits (sym c.read_lists-answer.ensures.answer) (font_answer_fits _)
