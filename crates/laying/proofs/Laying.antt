-- A FIGcharacter's rows laid on the line's: the parts of a row, and one row more.
-- Assumes nothing.
use mathlib.Core.Path.{◌≡◌, refl, sym, ◌∙◌, ap, ap₂, subst}
use mathlib.Core.Bool.{Bool, true, false, cond}
use mathlib.Core.Logic.{inl, inr}
use mathlib.Core.List.{List}
use Prim.Native.Nat.{ℕ, ◌+◌, ◌-◌, ◌*◌, ◌≤◌, ◌<◌}
use native.Mathlib.Omega.{arith}
use native.Mathlib.Decide.{dec_lt}
use lib.Dec.{eqb}
use lib.ListN.{length, get_or, set}
use borrow.Author.Tests.{eqb-true}
use Rattle.ground.specs.Limits.{max_line_width}
use Rattle.subchars.specs.declared.Direction.{Direction}
use Rattle.subchars.specs.declared.Direction.TheVariants.{LeftToRight, RightToLeft}
use Rattle.subchars.specs.declared.Mode.{Mode}
use Rattle.subchars.specs.Hardblank.{blank}
use Rattle.pairs.specs.Pair.{byte_of}
use Rattle.pairs.proofs.Joints.{blank_left, blank_right}
use Rattle.blocks.specs.Writing.{from_on, Stored}
use Rattle.blocks.proofs.Storing as put
use Rattle.laying.specs.Laying.{RowsIn, met_by, met, StoredRows, StoredTo, Parted, Laid, LaidRows}

pub same_at : (l : List ℕ) {i j : ℕ} → i ≡ j → get_or l i 0 ≡ get_or l j 0
same_at l e = ap (λ (k : ℕ). get_or l k 0) e

-- a blank leaves what lies there
met_by_blank : (d : Direction) (y : Mode) (l x : ℕ) → x ≡ blank → met_by d y l x ≡ l
met_by_blank LeftToRight y l x e = ap byte_of (blank_right y l x e)
met_by_blank RightToLeft y l x e = ap byte_of (blank_left y x l e)

pub met-blank : (y : Mode) (l x : ℕ) → x ≡ blank → met y l x ≡ l
unfolding met
met-blank y l x e = met_by_blank y.direction y l x e

-- where the others end
pub others_fit : (at p q o m stop : ℕ) → p + o ≤ m → Parted at p q o m stop → q + (m - o) ≤ m
others_fit at p q o m stop h (inl v) = omega (arith, v.1)
others_fit at p q o m stop h (inr v) = omega (arith, v.1)

-- rows that are less wide are within the list too
pub rows_narrower : (s starts : List ℕ) (m h w : ℕ) → w ≤ m → RowsIn s starts m h → RowsIn s starts w h
rows_narrower s starts m h w u q = record { many = q.many; within = λ r v. omega (arith, q.within r v) }

-- a store more, at place i
stored_at : (f : ℕ → ℕ) (at k n i x : ℕ) (old l : List ℕ) → i ≡ at + k → n ≡ k + 1 → i < length l → x ≡ f k → Stored f at k old l → Stored f at n old (set l i x)
stored_at f at k n i x old l e d h g s =
    subst (λ (j : ℕ). Stored f at j old (set l i x)) (sym d)
    (subst (λ (j : ℕ). Stored f at (k + 1) old (set l j x)) (sym e) (put.stored_next f at k x old l (omega arith) g s))

-- four stores more
stored_four : (f : ℕ → ℕ) (at k i : ℕ) (old l : List ℕ) (x y z w : ℕ) → i ≡ at + k → i + 4 ≤ length l → x ≡ f k → y ≡ f (k + 1) → z ≡ f (k + 2) → w ≡ f (k + 3) → Stored f at k old l →
    Stored f at (k + 4) old (set (set (set (set l i x) (i + 1) y) (i + 2) z) (i + 3) w)
stored_four f at k i old l x y z w e h p q r t s =
    let a = stored_at f at k (k + 1) i x old l e refl (omega arith) p s in
    let b = stored_at f at (k + 1) (k + 2) (i + 1) y old (set l i x) (omega arith) (omega arith) (omega (arith, a.size, s.size)) q a in
    let c = stored_at f at (k + 2) (k + 3) (i + 2) z old (set (set l i x) (i + 1) y) (omega arith) (omega arith) (omega (arith, b.size, s.size)) r b in
    stored_at f at (k + 3) (k + 4) (i + 3) w old (set (set (set l i x) (i + 1) y) (i + 2) z) (omega arith) (omega arith) (omega (arith, c.size, s.size)) t c

-- eight stores, four and four
pub stored_eight : (f : ℕ → ℕ) (at x : ℕ) (old mid new : List ℕ) → at + 8 ≤ length old → x ≡ f 0 → mid ≡ set (set (set (set old at x) (at + 1) (f 1)) (at + 2) (f 2)) (at + 3) (f 3) →
    new ≡ set (set (set (set mid (at + 4) (f 4)) (at + 4 + 1) (f 5)) (at + 4 + 2) (f 6)) (at + 4 + 3) (f 7) → Stored f at 8 old new
stored_eight f at x old mid new h e p q =
    let t : Stored f at 4 old mid = subst (Stored f at 4 old) (sym p) (stored_four f at 0 at old old x (f 1) (f 2) (f 3) (omega arith) (omega arith) e refl refl refl (put.stored_none f at old)) in
    subst (Stored f at 8 old) (sym q) (stored_four f at 4 (at + 4) old mid (f 4) (f 5) (f 6) (f 7) refl (omega (arith, t.size)) refl refl refl refl t)

-- no row yet
pub none_stored : (f : ℕ → ℕ → ℕ) (at w : ℕ) (l : List ℕ) → StoredTo f 0 at w l l
none_stored f at w l =
    record {
      rows = record { size = refl; inside = λ r j u v. absurd (omega arith); below = λ r k u v. refl; above = λ r k u v x. refl };
      rest = λ i u. refl;
    }

-- one row more
module _ (f : ℕ → ℕ → ℕ) (g : ℕ → ℕ) (r at w : ℕ) (old l new : List ℕ) (fits : at + w ≤ max_line_width) (t : Stored g (r * max_line_width + at) w l new) where
  keep : (i : ℕ) → i < r * max_line_width → get_or new i 0 ≡ get_or l i 0
  keep i h = t.below i (omega arith)

  pub row_stored : ((j : ℕ) → j < w → g j ≡ f r j) → StoredTo f r at w old l → StoredTo f (r + 1) at w old new
  row_stored same s =
      let u = s.rows in
      let rest = s.rest in
      record {
        rows = record {
          size = t.size ∙ u.size;
          inside = λ q j h k.
              elim (dec_lt q r) [
                | yes v ↦ keep (q * max_line_width + at + j) (omega arith) ∙ u.inside q j v k
                | no v ↦ let e : q ≡ r = omega arith in rw e (t.inside j k ∙ same j k)
              ];
          below = λ q k h v.
              elim (dec_lt q r) [
                | yes z ↦ keep (q * max_line_width + k) (omega arith) ∙ u.below q k z v
                | no z ↦ t.below (q * max_line_width + k) (omega arith) ∙ rest (q * max_line_width + k) (omega arith)
              ];
          above = λ q k h v x.
              elim (dec_lt q r) [
                | yes z ↦ keep (q * max_line_width + k) (omega arith) ∙ u.above q k z v x
                | no z ↦ t.above (q * max_line_width + k) (omega arith) ∙ rest (q * max_line_width + k) (omega arith)
              ];
        };
        rest = λ i h. t.above i (omega arith) ∙ rest i (omega arith);
      }

module _ (f : ℕ → ℕ → ℕ) (h at n w stop : ℕ) (old new : List ℕ) where
  -- fewer columns, and less that is as it was
  pub stored_fewer : (v : ℕ) → n ≤ w → v ≤ stop → StoredRows f h at w v old new → StoredRows f h at n stop old new
  stored_fewer v a b t =
      record { size = t.size; inside = λ r j u x. t.inside r j u (omega arith); below = t.below; above = λ r k u x z. t.above r k u (omega arith) z }

  -- some rows stored, of which nothing is told
  pub some_stored : (r : ℕ) → at + w ≤ stop → StoredTo f r at w old new → StoredRows f h at 0 stop old new
  some_stored r a t =
      record {
        size = t.rows.size;
        inside = λ q j v x. absurd (omega arith);
        below = λ q k v x. elim (dec_lt q r) [ yes z ↦ t.rows.below q k z x | no z ↦ t.rest (q * max_line_width + k) (omega arith) ];
        above = λ q k v x y. elim (dec_lt q r) [ yes z ↦ t.rows.above q k z (omega arith) y | no z ↦ t.rest (q * max_line_width + k) (omega arith) ];
      }

  -- all rows, where as many were counted
  pub counted_stored : (r : ℕ) → n ≤ w → at + w ≤ stop → StoredTo f r at w old new → StoredRows f h at (cond (eqb r h) n 0) stop old new
  counted_stored r a b t = go (eqb r h) refl
    where
      go : (v : Bool) → eqb r h ≡ v → StoredRows f h at (cond v n 0) stop old new
      go true e = stored_fewer (at + w) a b (subst (λ (k : ℕ). StoredRows f k at w (at + w) old new) (eqb-true r h e) t.rows)
      go false e = some_stored r b t

  pub as_told : (t v : Bool) → t ≡ v → StoredRows f h at (cond t n 0) stop old new → StoredRows f h at (cond v n 0) stop old new
  as_told t v e u = subst (λ (x : Bool). StoredRows f h at (cond x n 0) stop old new) e u

  -- some, and then all
  pub stored_after : (l : List ℕ) → at + n ≤ stop → StoredRows f h at 0 stop old l → StoredRows f h at n (at + n) l new → StoredRows f h at n stop old new
  stored_after l b t u =
      record {
        size = u.size ∙ t.size;
        inside = u.inside;
        below = λ r k v x. u.below r k v x ∙ t.below r k v x;
        above = λ r k v x y. u.above r k v (omega arith) y ∙ t.above r k v x y;
      }

-- Rows in two parts: what lies on the line, at their start or at their end, and the others.
module _ (y : Mode) (h at p q o m stop : ℕ) (s starts d b e : List ℕ) (fits : p + o ≤ m) (ends : at + m ≤ max_line_width)
    (t : StoredRows (λ (r j : ℕ). met y (from_on d (r * max_line_width + (at + p)) j) (from_on s (get_or starts r 0 + p) j)) h (at + p) o (at + p + o) d b)
    (u : StoredRows (λ (r j : ℕ). from_on s (get_or starts r 0 + q) j) h (at + q) (m - o) stop b e) where
  module _ (r : ℕ) (v : r < h) where
    abbrev from : ℕ
    from = get_or starts r 0

    laid_pair : (j : ℕ) → p ≤ j → j < p + o → get_or b (r * max_line_width + at + j) 0 ≡ met y (get_or d (r * max_line_width + at + j) 0) (get_or s (from + j) 0)
    laid_pair j g k =
        let i : r * max_line_width + at + j ≡ r * max_line_width + (at + p) + (j - p) = omega arith in
        let f : from + p + (j - p) ≡ from + j = omega arith in
        same_at b i ∙ (t.inside r (j - p) v (omega arith) ∙ ap₂ (met y) (same_at d (sym i)) (same_at s f))

    laid-other : (j : ℕ) → q ≤ j → j < q + (m - o) → get_or e (r * max_line_width + at + j) 0 ≡ get_or s (from + j) 0
    laid-other j g k =
        let i : r * max_line_width + at + j ≡ r * max_line_width + (at + q) + (j - q) = omega arith in
        let f : from + q + (j - q) ≡ from + j = omega arith in
        same_at e i ∙ (u.inside r (j - q) v (omega arith) ∙ same_at s f)

    -- a column of the row before and behind each part
    under : (i : ℕ) → r * max_line_width ≤ i → i < r * max_line_width + (at + q) → get_or e i 0 ≡ get_or b i 0
    under i g k = let z : i ≡ r * max_line_width + (i - r * max_line_width) = omega arith in same_at e z ∙ (u.below r (i - r * max_line_width) v (omega arith) ∙ same_at b (sym z))

    over : (i : ℕ) → r * max_line_width + stop ≤ i → i < r * max_line_width + max_line_width → get_or e i 0 ≡ get_or b i 0
    over i g k = let z : i ≡ r * max_line_width + (i - r * max_line_width) = omega arith in same_at e z ∙ (u.above r (i - r * max_line_width) v (omega arith) (omega arith) ∙ same_at b (sym z))

    under_pair : (i : ℕ) → r * max_line_width ≤ i → i < r * max_line_width + (at + p) → get_or b i 0 ≡ get_or d i 0
    under_pair i g k = let z : i ≡ r * max_line_width + (i - r * max_line_width) = omega arith in same_at b z ∙ (t.below r (i - r * max_line_width) v (omega arith) ∙ same_at d (sym z))

    over_pair : (i : ℕ) → r * max_line_width + (at + p + o) ≤ i → i < r * max_line_width + max_line_width → get_or b i 0 ≡ get_or d i 0
    over_pair i g k = let z : i ≡ r * max_line_width + (i - r * max_line_width) = omega arith in same_at b z ∙ (t.above r (i - r * max_line_width) v (omega arith) (omega arith) ∙ same_at d (sym z))

    laid-row : Parted at p q o m stop → Laid y p o m (from_on s from) (r * max_line_width + at) (r * max_line_width + stop) (r * max_line_width) (r * max_line_width + max_line_width) d e
    laid-row (inl w) =
        record {
          before = λ j k. absurd (omega (arith, w.0));
          paired = λ j g k. under (r * max_line_width + at + j) (omega arith) (omega (arith, w.0, w.1)) ∙ laid_pair j g k;
          behind = λ j g k. laid-other j (omega (arith, w.0, w.1)) (omega (arith, w.1));
          below = λ i g k. under i g (omega arith) ∙ under_pair i g (omega arith);
          above = λ i g x k. over i x k ∙ over_pair i (omega arith) k;
        }
    laid-row (inr w) =
        record {
          before = λ j k. laid-other j (omega (arith, w.1)) (omega (arith, w.0, w.1));
          paired = λ j g k. over (r * max_line_width + at + j) (omega (arith, w.2)) (omega arith) ∙ laid_pair j g k;
          behind = λ j g k. absurd (omega (arith, w.0));
          below = λ i g k. under i g (omega arith) ∙ under_pair i g (omega arith);
          above = λ i g x k. over i x k ∙ over_pair i (omega arith) k;
        }

  pub laid-rows : Parted at p q o m stop → LaidRows y h at p o m stop s starts d e
  laid-rows w = record { size = u.size ∙ t.size; rows = λ r v. laid-row r v w }
