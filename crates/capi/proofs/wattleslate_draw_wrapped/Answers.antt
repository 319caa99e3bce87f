-- `capi::wattleslate_draw_wrapped` meets its contract, for every input.
use Rattle.capi.proofs.Bounds.{wrap_fits}
use Rattle.capi.proofs.wattleslate_draw_wrapped.Goals as goal

pub wrap_number-requires : goal.wrap_number-requires
wrap_number-requires c = wrap_fits _ _ _ _ _ _ _ _ _ c.draw_wrapped-answer.ensures.lines.answer
