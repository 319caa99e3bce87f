-- `capi::fonts::wattleslate_draw_two` meets its contract, for every input.
use mathlib.Core.Path.{sym, subst}
use Rattle.answers.specs.Fits.{DrawFits}
use Rattle.capi.proofs.TwoBounds.{draw_two_fits}
use Rattle.capi.proofs.fonts.wattleslate_draw_two.Goals as goal

pub draw_number-requires : goal.draw_number-requires
draw_number-requires c = subst DrawFits (sym c.draw_two.ensures.line.answers) (draw_two_fits _ _ _ _ _ _)
