-- `capi::packs::wattleslate_pack_remove` meets its contract, for every input.
use mathlib.Core.Path.{sym, subst}
use Rattle.answers.specs.Fits.{EditFits}
use Rattle.capi.proofs.PackBounds.{remove_fits}
use Rattle.capi.proofs.packs.wattleslate_pack_remove.Goals as goal

pub edit_number-requires : goal.edit_number-requires
edit_number-requires c = subst EditFits (sym c.pack_remove.ensures.change.answer) (remove_fits _ _)
