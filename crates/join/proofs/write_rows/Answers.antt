-- `join::write_rows` meets its contract.
use mathlib.Core.Path.{◌≡◌, ◌∙◌, refl, ap, ap₂}
use mathlib.Core.List.{List, ◌++◌}
use Prim.Native.Nat.{ℕ, ◌+◌, ◌-◌, ◌*◌}
use native.Mathlib.Nat.{zero-mul}
use native.Mathlib.Omega.{arith}
use lib.ListN.{length, take, length-drop}
use lib.Seq.{length-take-le}
use borrow.Rule.Slice.PartMut.{put_mid, same_len_mid}
use Rattle.std.proofs.lemmas.Slice.{take-put_mid}
use Rattle.ground.specs.Area.{values}
use Rattle.ground.proofs.Areas.{length-values}
use Rattle.lanes.specs.Blocks.{Cells}
use Rattle.blocks.specs.Block.{exact_block, rows_of}
use Rattle.blocks.proofs.Rows.{rows_next, row_next, row_room}
use Rattle.overlap.specs.Join.{joined_at}
use Rattle.join.specs.Writing.{joined_row}
use Rattle.join.proofs.Parts.{part_at, row_parts}
use Rattle.join.proofs.write_rows.Goals as goal

pub loop-r-init : goal.loop-r-init
unfolding rows_of
loop-r-init c = (refl, rw zero-mul)

pub loop-r-preserved : goal.loop-r-preserved
loop-r-preserved c =
    let a = c.args in
    let r = c.loop-r.r in
    let left = a.left.bytes.now in
    let right = a.right.bytes.now in
    let n = a.left.width in
    let m = a.right.width in
    let w = n + m - a.o in
    let rows : Cells = joined_at a.mode a.o (exact_block n left) (exact_block m right) in
    let out = c.loop-r.out in
    let row = c.write_row.new.out in
    let l = put_mid (r * w) (r * w + w - r * w) out row in
    let u = c.row.result.now in
    let v = c.row-in-loop-r.result.now in
    let u_long : length u ≡ n = ap length c.row.ensures ∙ length-take-le n _ (omega (arith, length-drop (r * n) left, row_room r a.h n c.loop-r-test.true, c.requires.sides.0)) in
    let v_long : length v ≡ m = ap length c.row-in-loop-r.ensures ∙ length-take-le m _ (omega (arith, length-drop (r * m) right, row_room r a.h m c.loop-r-test.true, c.requires.sides.1)) in
    let is : row ≡ values (rows r) w =
    c.write_row.ensures ∙ ap₂ (λ (i j : ℕ). joined_row a.mode a.o u 0 i v 0 j) u_long v_long ∙
    row_parts a.mode a.o left right n m r c.requires.sides.2 c.requires.sides.3 u v (part_at left u (r * n) n c.row.ensures) (part_at right v (r * m) m c.row-in-loop-r.ensures) in
    let row_long : length row ≡ w = ap length is ∙ length-values (rows r) w in
    let written : take (r * w + w) l ≡ take (r * w) out ++ row = take-put_mid (r * w) _ out row (r * w + w) (omega (arith, row_long)) (omega (arith, row_room r a.h w c.loop-r-test.true, c.requires.room, c.loop-r.invariant.0)) in (
      same_len_mid (r * w) _ out row c.write_row.auto.out ∙ c.loop-r.invariant.0,
      ap (λ (k : ℕ). take k l) (row_next r w) ∙ rows_next l out rows r w (r * w) c.loop-r.invariant.1 (written ∙ ap (λ (x : List ℕ). take (r * w) out ++ x) is),
    )
