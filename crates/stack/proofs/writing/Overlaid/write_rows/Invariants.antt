-- `stack::writing::Overlaid::write_rows` meets its contract. The invariant: the rows passed stand at the start.
use mathlib.Core.Path.{◌≡◌}
use Prim.Native.Nat.{◌+◌, ◌*◌}
use lib.ListN.{take}
use Rattle.blocks.specs.Block.{rows_of}
use Rattle.columns.specs.Placing.{with_end}
use Rattle.stack.specs.StackCall.{lfs}
use Rattle.stack.specs.Overlaying.{columns_wide, overlaid_cells}
use Rattle.stack.proofs.writing.Overlaid.write_rows.Given as goal

abbrev pub invariant-loop-r : goal.invariant-loop-r
invariant-loop-r l =
    (l.at ≡ l.r * (columns_wide l.self + lfs l.lf_ended)) ×
    (take l.at l.out ≡ rows_of (with_end (columns_wide l.self) (overlaid_cells l.self)) l.r (columns_wide l.self + lfs l.lf_ended))
