-- `join::write_row` meets its contract.
use mathlib.Core.Path.{◌≡◌, ◌∙◌, ap, ap₂}
use mathlib.Core.List.{◌++◌}
use Prim.Native.Nat.{ℕ, ◌+◌, ◌-◌}
use native.Mathlib.Omega.{arith}
use lib.ListN.{length, take, drop, length-append, length-drop}
use Rattle.std.proofs.lemmas.List.{length-take}
use Rattle.ground.specs.Area.{values}
use Rattle.ground.proofs.Areas.{length-values}
use Rattle.blocks.specs.Writing.{from_on}
use Rattle.join.specs.Writing.{pair_bytes}
use Rattle.join.proofs.Parts.{pairs_part, all_copied, three_written}
use Rattle.join.proofs.write_row.Goals as goal

pub returns : goal.returns
returns c =
    let a = c.args in
    let left = a.left.now in
    let right = a.right.now in
    let n = length left in
    let cut = n - a.o in
    let x = c.copy_part.new.out in
    let y = c.join_part.new.out in
    let z = c.copy_part-2.new.out in
    let f = pair_bytes a.mode (take (n - cut) (drop cut left)) 0 (take a.o right) 0 in
    let o : a.o ≡ 0 + a.o = omega arith in
    let x_long : length x ≡ cut = omega (arith, c.copy_part.ensures.stored.size, length-take cut a.out.now, c.requires) in
    let is_x : x ≡ values (from_on left 0) cut = all_copied x (from_on left 0) cut x_long c.copy_part.ensures.out_after in
    let part : length (take (n - cut) (drop cut (x ++ drop cut a.out.now))) ≡ a.o = omega (arith, x_long, length-take (n - cut) (drop cut (x ++ drop cut a.out.now)), length-drop cut (x ++ drop cut a.out.now), length-append x (drop cut a.out.now), length-drop cut a.out.now) in
    let is_y : y ≡ values (pair_bytes a.mode left (0 + cut) right 0) a.o = c.join_part.ensures ∙ ap (values f) part ∙ pairs_part a.mode left right cut (n - cut) a.o (omega arith) in
    let y_long : length y ≡ a.o = ap length is_y ∙ length-values (pair_bytes a.mode left (0 + cut) right 0) a.o in
    let z_long : length z ≡ length right - a.o = omega (arith, c.copy_part-2.ensures.stored.size, c.requires) in
    let is_z : z ≡ values (from_on right a.o) (length right - a.o) = all_copied z (from_on right a.o) (length right - a.o) z_long c.copy_part-2.ensures.out_after in
    three_written a.out.now x y z cut n (n - cut) x_long (omega (arith, y_long))
    ∙ ap₂ ◌++◌ is_x
    (ap₂ ◌++◌ is_y (is_z ∙ ap (λ (t : ℕ). values (from_on right t) (length right - a.o)) o))
