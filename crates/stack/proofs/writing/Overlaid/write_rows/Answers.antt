use mathlib.Core.Path.{◌≡◌, refl, sym, ap}
use mathlib.Core.List.{◌++◌}
use Prim.Native.Nat.{◌+◌}
use native.Mathlib.Nat.{zero-mul}
use native.Mathlib.Omega.{arith}
use lib.ListN.{take}
use Rattle.ground.specs.Area.{values}
use Rattle.blocks.specs.Block.{rows_of}
use Rattle.blocks.proofs.Rows.{row_room}
use Rattle.columns.specs.Placing.{with_end}
use Rattle.stack.specs.StackCall.{lfs}
use Rattle.stack.specs.Overlaying.{rows_high, columns_wide, overlaid_cells}
use Rattle.stack.proofs.Ending.{written-lf, written-plain, rows_more}
use Rattle.stack.proofs.writing.Overlaid.write_rows.Goals.{then-lf_ended, else-lf_ended}
use Rattle.stack.proofs.writing.Overlaid.write_rows.Goals as goal

pub loop-r-init : goal.loop-r-init
unfolding rows_of
loop-r-init c = (sym (zero-mul _), refl)

pub loop-r-preserved : goal.loop-r-preserved
loop-r-preserved c =
    let a = c.args in
    let w = columns_wide a.self.now in
    let cells = overlaid_cells a.self.now in
    let l = c.loop-r in
    let row = c.write_row in
    let next = c.if-lf_ended in
    let room = row_room l.r (rows_high a.self.now) (w + lfs a.lf_ended) (omega (arith, c.loop-r-test.true, c.height-r-end.ensures)) in
    let place : next.at ≡ l.at + (w + lfs a.lf_ended) =
    elim next.branch [
      | then-lf_ended v ↦ rw v.if-lf_ended.true (omega (arith, v.at-is, c.width-width.ensures))
      | else-lf_ended v ↦ rw v.if-lf_ended.false (omega (arith, v.at-is, c.width-width.ensures))
    ] in
    let written : take (l.at + (w + lfs a.lf_ended)) next.out ≡ take l.at l.out ++ values (with_end w cells l.r) (w + lfs a.lf_ended) =
    elim next.branch [
      | then-lf_ended v ↦ rw (v.if-lf_ended.true, v.out-is, c.width-width.ensures) (written-lf w cells l.out row.new.out l.at l.r (omega (arith, ap lfs v.if-lf_ended.true, room, l.invariant.0, c.requires.in_bounds, row.auto.out, l.auto.out)) row.ensures)
      | else-lf_ended v ↦ rw (v.if-lf_ended.false, v.out-is) (written-plain w cells l.out row.new.out l.at l.r row.ensures)
    ] in
    rows_more w cells a.lf_ended l.out next.out l.at next.at l.r l.invariant.0 l.invariant.1 place written
