use native.Mathlib.Omega.{arith}
use lib.ListN.{take}
use Rattle.ground.proofs.Areas.{put_none, put_next}
use Rattle.stack.specs.Overlaying.{overlaid_cells}
use Rattle.stack.proofs.writing.Overlaid.write_row.Goals as goal

pub loop-c-init : goal.loop-c-init
loop-c-init c = put_none c.args.out.now (overlaid_cells c.args.self.now c.args.r) c.args.at

pub loop-c-preserved : goal.loop-c-preserved
loop-c-preserved c =
    let l = c.loop-c in
    let a = c.args in
    put_next l.out (take a.at a.out.now) (overlaid_cells a.self.now a.r) a.at l.c c.cell.result.0 (omega (arith, l.auto.out, c.loop-c-test.true, c.width-c-end.ensures, c.requires.in_bounds)) c.cell.ensures l.invariant
