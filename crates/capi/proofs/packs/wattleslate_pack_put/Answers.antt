-- `capi::packs::wattleslate_pack_put` meets its contract, for every input.
use mathlib.Core.Path.{sym, subst}
use Rattle.answers.specs.Fits.{EditFits}
use Rattle.capi.proofs.PackBounds.{put_fits}
use Rattle.capi.proofs.packs.wattleslate_pack_put.Goals as goal

pub edit_number-requires : goal.edit_number-requires
edit_number-requires c = subst EditFits (sym c.pack_put.ensures.change.answer) (put_fits _ _ _ _ _)
