-- `capi::packs::wattleslate_pack_find` meets its contract, for every input.
use mathlib.Core.Path.{sym, subst}
use Rattle.answers.specs.Fits.{FindFits}
use Rattle.capi.proofs.PackBounds.{find_fits}
use Rattle.capi.proofs.packs.wattleslate_pack_find.Goals as goal

pub find_number-requires : goal.find_number-requires
find_number-requires c = subst FindFits (sym c.pack_find.ensures.answer) (find_fits _ _)
