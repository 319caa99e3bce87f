-- `capi::packs::wattleslate_pack_check` meets its contract, for every input.
use mathlib.Core.Path.{sym, subst}
use Rattle.answers.specs.Fits.{PackFits}
use Rattle.capi.proofs.PackBounds.{pack_answer_fits}
use Rattle.capi.proofs.packs.wattleslate_pack_check.Goals as goal

pub pack_number-requires : goal.pack_number-requires
pack_number-requires c = subst PackFits (sym c.pack_check.ensures.answer) (pack_answer_fits c.args.pack.now)
