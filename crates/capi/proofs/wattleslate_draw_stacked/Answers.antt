-- `capi::wattleslate_draw_stacked` meets its contract, for every input.
use Rattle.twolines.specs.TwoLines.{stack_part}
use Rattle.capi.proofs.Bounds.{lines_fits}
use Rattle.capi.proofs.wattleslate_draw_stacked.Goals as goal

pub lines_number-requires : goal.lines_number-requires
lines_number-requires c = let d = c.draw_stacked in lines_fits _ _ _ _ _ _ (stack_part d.result) d.ensures.lines.answer
