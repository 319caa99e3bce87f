-- `capi::wattleslate_draw` meets its contract, for every input.
use Rattle.capi.proofs.Bounds.{draw_fits}
use Rattle.capi.proofs.wattleslate_draw.Goals as goal

pub draw_number-requires : goal.draw_number-requires
draw_number-requires c = let d = c.draw in draw_fits _ _ _ _ _ d.result d.ensures.answer
