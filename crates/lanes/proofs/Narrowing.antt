-- Lanes in which every pair has a blank do not matter: the overlaps are those of the lanes before them.
-- Assumes nothing.
use mathlib.Core.Path.{◌≡◌, ◌∙◌, ap}
use mathlib.Core.Bool.{Bool, true, cond, ◌&&◌}
use Prim.Native.Nat.{ℕ, suc, ◌+◌, ◌-◌, ◌≤◌, ◌<◌, min}
use native.Mathlib.Omega.{arith}
use native.Mathlib.Decide.{dec_lt}
use lib.Dec.{ltb}
use Rattle.ground.proofs.Counting.{reach_cong}
use Rattle.ground.proofs.Tests.{same_test}
use Rattle.lanes.specs.Blocks.{Cells}
use Rattle.lanes.specs.Overlap.{facing, has_blank, furthest, fitting, one_more, smushing}
use Rattle.lanes.proofs.Smushing.{facing-at, facing_of}

-- each pair that a and b can face from lane h up to lane h' has a blank
abbrev pub Blanks : ℕ → ℕ → Cells → Cells → Type 0
Blanks h h' a b = (r : ℕ) → h ≤ r → r < h' → (i j : ℕ) → has_blank (a r i) (b r j) ≡ true

module _ (h h' n m : ℕ) (a b : Cells) (few : h ≤ h') (blanks : Blanks h h' a b) where
  -- a test that a pair with a blank passes
  module _ (ok : ℕ → ℕ → Bool) (blank-passes : (l r : ℕ) → has_blank l r ≡ true → ok l r ≡ true) where
    facing-narrow : (o : ℕ) → facing ok h' n a b o ≡ facing ok h n a b o
    facing-narrow o =
        same_test (facing ok h' n a b o) (facing ok h n a b o)
        (λ e. facing_of ok h n a b o λ r i u v. facing-at ok h' n a b o e r i (omega arith) v)
        (λ e.
        facing_of ok h' n a b o λ r i u v.
        elim (dec_lt r h) [ yes l ↦ facing-at ok h n a b o e r i l v | no g ↦ blank-passes _ _ (blanks r (omega arith) u (n - o + i) i) ])

    pub furthest-narrow : furthest ok h' n m a b ≡ furthest ok h n m a b
    furthest-narrow = reach_cong (facing ok h' n a b) (facing ok h n a b) (min n m) λ k l. facing-narrow k

  pub fitting-narrow : fitting h' n m a b ≡ fitting h n m a b
  unfolding fitting
  fitting-narrow = furthest-narrow has_blank (λ l r e. e)

  pub smushing-narrow : (ok : ℕ → ℕ → Bool) → ((l r : ℕ) → has_blank l r ≡ true → ok l r ≡ true) → smushing ok h' n m a b ≡ smushing ok h n m a b
  unfolding smushing one_more
  smushing-narrow ok f =
      let o = fitting h' n m a b in
      ap (λ (t : Bool). cond (ltb o (min n m) && t) (suc o) o) (facing-narrow ok f (suc o)) ∙ ap (λ (x : ℕ). cond (ltb x (min n m) && facing ok h n a b (suc x)) (suc x) x) fitting-narrow
