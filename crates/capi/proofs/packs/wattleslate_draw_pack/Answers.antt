-- `capi::packs::wattleslate_draw_pack` meets its contract, for every input.
use mathlib.Core.Path.{sym, subst}
use Rattle.answers.specs.Fits.{DrawFits}
use Rattle.capi.proofs.PackBounds.{draw_pack_fits}
use Rattle.capi.proofs.packs.wattleslate_draw_pack.Goals as goal

pub draw_number-requires : goal.draw_number-requires
draw_number-requires c = subst DrawFits (sym c.draw_pack.ensures.line.answers) (draw_pack_fits _ _ _ _ _ _ _)
