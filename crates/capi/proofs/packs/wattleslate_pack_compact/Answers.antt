-- `capi::packs::wattleslate_pack_compact` meets its contract, for every input.
use mathlib.Core.Path.{sym, subst}
use Rattle.heads.specs.Pack.{meaning}
use Rattle.answers.specs.Fits.{EditFits}
use Rattle.capi.proofs.PackBounds.{compact_fits}
use Rattle.capi.proofs.packs.wattleslate_pack_compact.Goals as goal

pub edit_number-requires : goal.edit_number-requires
edit_number-requires c = subst EditFits (sym c.pack_compact.ensures.change.answer) (compact_fits (meaning c.args.pack.now))
