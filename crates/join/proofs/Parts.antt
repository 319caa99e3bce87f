-- A joined row in its three parts.
-- Assumes nothing.
use mathlib.Core.Path.{◌≡◌, refl, sym, ◌∙◌, ap, ap₂}
use mathlib.Core.List.{List, [], ◌++◌, append_assoc, append-nil}
use Prim.Native.Nat.{ℕ, ◌+◌, ◌-◌, ◌*◌, ◌≤◌, ◌<◌}
use native.Mathlib.Omega.{arith}
use lib.ListN.{length, take, drop, get_or, length-append, length-drop, drop_of_length-le}
use lib.Seq.{take-append_seam, take-length}
use borrow.Rule.Slice.PartMut.{put_mid}
use Rattle.std.proofs.lemmas.List.{get_or-take, get_or-drop}
use Rattle.std.proofs.lemmas.Slice.{take-put_mid}
use Rattle.ground.specs.Area.{values}
use Rattle.ground.proofs.Areas.{values-add, values_cong}
use Rattle.subchars.specs.declared.Mode.{Mode}
use Rattle.blocks.specs.Block.{exact_block}
use Rattle.blocks.specs.Writing.{from_on}
use Rattle.overlap.specs.Join.{joined_at, pair_byte}
use Rattle.overlap.proofs.Cells.{cell_left, cell_pair, cell_right}
use Rattle.join.specs.Writing.{pair_bytes, joined_row}

-- a part of a list, from its start
pub part_at : (s a : List ℕ) (at n : ℕ) → a ≡ take n (drop at s) → (k : ℕ) → k < n → from_on a 0 k ≡ from_on s at k
part_at s a at n e k l =
    let w : at + (0 + k) ≡ at + k = omega arith in
    ap (λ (x : List ℕ). get_or x (0 + k) 0) e ∙ get_or-take n (drop at s) (0 + k) 0 (omega arith) ∙ get_or-drop at s (0 + k) 0 ∙ ap (λ (t : ℕ). get_or s t 0) w

-- what pairs of two parts become, one behind `cut` and one at the start
pub pairs_part : (y : Mode) (left right : List ℕ) (cut n o : ℕ) → o ≤ n → values (pair_bytes y (take n (drop cut left)) 0 (take o right) 0) o ≡ values (pair_bytes y left (0 + cut) right 0) o
pairs_part y left right cut n o h =
    values_cong (pair_bytes y (take n (drop cut left)) 0 (take o right) 0) (pair_bytes y left (0 + cut) right 0) o λ k l.
    let w : cut + k ≡ 0 + cut + k = omega arith in
    ap₂ (pair_byte y) (part_at left (take n (drop cut left)) cut n refl k (omega arith) ∙ ap (λ (t : ℕ). get_or left t 0) w) (get_or-take o right (0 + k) 0 (omega arith))

-- of a row of each block
pub row_parts : (y : Mode) (o : ℕ) (left right : List ℕ) (n m r : ℕ) → o ≤ n → o ≤ m → (a b : List ℕ) → ((k : ℕ) → k < n → from_on a 0 k ≡ from_on left (r * n) k) → ((k : ℕ) → k < m → from_on b 0 k ≡ from_on right (r * m) k)
    → joined_row y o a 0 n b 0 m ≡ values (joined_at y o (exact_block n left) (exact_block m right) r) (n + m - o)
row_parts y o left right n m r u v a b is_a is_b =
    let cut = n - o in
    let rest = m - o in
    let c = exact_block n left in
    let d = exact_block m right in
    let f = joined_at y o c d r in
    let e : n + m - o ≡ cut + (o + rest) = omega arith in
    let x = values_cong f (from_on a 0) cut (λ k l. cell_left y o c d r k l ∙ sym (is_a k (omega arith))) in
    let p = values_cong (λ k. f (cut + k)) (pair_bytes y a (0 + cut) b 0) o
    (λ k l. let z : cut + k - cut ≡ k = omega arith in
    let w : 0 + (cut + k) ≡ 0 + cut + k = omega arith in
    cell_pair y o c d r (cut + k) (omega arith) (omega arith) ∙ ap₂ (pair_byte y) (sym (is_a (cut + k) (omega arith)) ∙ ap (λ (t : ℕ). get_or a t 0) w) (ap (λ (t : ℕ). get_or right (r * m + t) 0) z ∙ sym (is_b k (omega arith)))) in
    let q = values_cong (λ k. f (cut + (o + k))) (from_on b (0 + o)) rest
    (λ k l. let z : cut + (o + k) - cut ≡ o + k = omega arith in
    let w : 0 + (o + k) ≡ 0 + o + k = omega arith in
    cell_right y o c d r (cut + (o + k)) (omega arith) (omega arith) ∙ (ap (λ (t : ℕ). get_or right (r * m + t) 0) z ∙ (sym (is_b (o + k) (omega arith)) ∙ ap (λ (t : ℕ). get_or b t 0) w))) in
    sym (ap (values f) e ∙ (values-add f cut (o + rest) ∙ ap₂ ◌++◌ x (values-add (λ k. f (cut + k)) o rest ∙ ap₂ ◌++◌ p q)))

-- a list that was written whole
pub all_copied : (new : List ℕ) (f : ℕ → ℕ) (n : ℕ) → length new ≡ n → take (0 + n) new ≡ values f n → new ≡ values f n
all_copied new f n l e =
    let k : 0 + n ≡ length new = omega (arith, l) in
    sym (take-length new) ∙ ap (λ (j : ℕ). take j new) (sym k) ∙ e

-- a list whose three parts were written one after another
pub three_written : {A : Type 0} (out x y z : List A) (cut n k : ℕ) → length x ≡ cut → cut + length y ≡ n →
    (let l = put_mid cut k (x ++ drop cut out) y in put_mid n (length l - n) l z ≡ x ++ (y ++ z))
three_written {A} out x y z cut n k e f =
    let l = put_mid cut k (x ++ drop cut out) y in
    let none : drop (length l - n) (drop n l) ≡ [] = drop_of_length-le (drop n l) {i = length l - n} (omega (arith, length-drop n l)) in
    let front : take cut (x ++ drop cut out) ≡ x = ap (λ (j : ℕ). take j (x ++ drop cut out)) (sym e) ∙ take-append_seam x (drop cut out) in
    let both : take n l ≡ x ++ y = take-put_mid cut k (x ++ drop cut out) y n (sym f) (omega (arith, e, length-append x (drop cut out))) ∙ ap (λ (s : List A). s ++ y) front in
    ap₂ (λ (s t : List A). s ++ (z ++ t)) both none ∙ ap (λ (t : List A). (x ++ y) ++ t) (append-nil z) ∙ append_assoc x y z
