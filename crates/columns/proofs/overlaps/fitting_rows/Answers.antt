-- `columns::overlaps::fitting_rows` meets its contract: the columns of a block are lanes of its slice.
use mathlib.Core.Path.{◌∙◌, ap}
use Prim.Native.Nat.{ℕ}
use native.Mathlib.Omega.{arith}
use Rattle.lanes.specs.Blocks.{Cells, cells_of, blanked_cells}
use Rattle.lanes.specs.Overlap.{fitting}
use Rattle.lanes.proofs.Agreeing.{fitting_cong}
use Rattle.columns.specs.Placing.{placed_columns}
use Rattle.columns.proofs.Columns.{view_of, columns_seen}
use Rattle.columns.proofs.overlaps.fitting_rows.Goals as goal

pub returns : goal.returns
returns c =
    let u = c.args.upper in
    let l = c.args.lower in
    let q = c.list_columns in
    let w = c.min-w in
    let hard = c.args.hardblank.0 in
    let up : Cells = placed_columns hard u in
    let low : Cells = placed_columns hard l in
    c.blanked_fitting.ensures
    ∙ (fitting_cong w.result u.height l.height (blanked_cells hard (cells_of u.bytes.now q.new.starts (view_of u))) up (blanked_cells hard (cells_of l.bytes.now q.new.starts (view_of l))) low
    (columns_seen q.new.starts u w.result q.ensures (omega (arith, w.ensures)) hard)
    (columns_seen q.new.starts l w.result q.ensures (omega (arith, w.ensures)) hard)
    ∙ ap (λ (x : ℕ). fitting x u.height l.height up low) w.ensures)
