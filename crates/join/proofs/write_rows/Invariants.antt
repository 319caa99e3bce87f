-- `join::write_rows` meets its contract. The invariant: the rows passed stand at the start.
use mathlib.Core.Path.{◌≡◌}
use Prim.Native.Nat.{◌-◌, ◌+◌, ◌*◌}
use lib.ListN.{length, take}
use Rattle.blocks.specs.Block.{exact_block, rows_of}
use Rattle.overlap.specs.Join.{joined_at}
use Rattle.join.proofs.write_rows.Given as goal

abbrev pub invariant-loop-r : goal.invariant-loop-r
invariant-loop-r l =
    let w = l.left.width + l.right.width - l.o in
    (length l.out ≡ length l.initial.out) × (take (l.r * w) l.out ≡ rows_of (joined_at l.mode l.o (exact_block l.left.width l.left.bytes.now) (exact_block l.right.width l.right.bytes.now)) l.r w)
