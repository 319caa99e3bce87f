-- The test of an overlap row by row, as the code has it, is the test of each column; and the largest overlap that passes, counted up.
-- Assumes nothing.
use mathlib.Core.Path.{◌≡◌, sym, ◌∙◌, ap}
use mathlib.Core.Bool.{Bool, true, false}
use Prim.Native.Nat.{ℕ, ◌+◌, ◌-◌, ◌≤◌, ◌<◌, min}
use native.Mathlib.Omega.{arith}
use native.Mathlib.Decide.{dec_le}
use native.Mathlib.Numerals.{add-one}
use Rattle.ground.specs.Count.{every}
use Rattle.ground.proofs.Tests.{same_test}
use Rattle.ground.proofs.Counting.{every-at, every_of, reach-is}
use Rattle.lanes.specs.Blocks.{Cells}
use Rattle.lanes.specs.Overlap.{facing, furthest}
use Rattle.lanes.proofs.Fitting.{facing-none}
use Rattle.lanes.proofs.Smushing.{facing-at, facing_of}
use Rattle.columns.specs.Facing.{row_faces}

module _ (ok : ℕ → ℕ → Bool) (w n : ℕ) (a b : Cells) where
  pub rows-facing : (o : ℕ) → every (row_faces ok w n a b o) o ≡ facing ok w n a b o
  rows-facing o =
      same_test (every (row_faces ok w n a b o) o) (facing ok w n a b o)
      (λ e. facing_of ok w n a b o λ c i u v. every-at (λ k. ok (a k (n - o + i)) (b k i)) w (every-at (row_faces ok w n a b o) o e i v) c u)
      (λ e. every_of (row_faces ok w n a b o) o λ i v. every_of (λ k. ok (a k (n - o + i)) (b k i)) w λ c u. facing-at ok w n a b o e c i u v)

module _ (ok : ℕ → ℕ → Bool) (w n m : ℕ) (a b : Cells) where
  -- no overlap passes, and with each one more all up to it
  pub far_none : (k : ℕ) → k ≤ 0 → facing ok w n a b k ≡ true
  far_none k u = let e : k ≡ 0 = omega arith in ap (facing ok w n a b) e ∙ facing-none n m a b ok w

  pub far_next : (o : ℕ) → ((k : ℕ) → k ≤ o → facing ok w n a b k ≡ true) → facing ok w n a b (o + 1) ≡ true → (k : ℕ) → k ≤ o + 1 → facing ok w n a b k ≡ true
  far_next o f e k u = elim (dec_le k o) [ yes l ↦ f k l | no g ↦ let z : k ≡ o + 1 = omega arith in ap (facing ok w n a b) z ∙ e ]

  pub far_is : (o : ℕ) → o ≤ min n m → ((k : ℕ) → k ≤ o → facing ok w n a b k ≡ true) → (o < min n m → facing ok w n a b (o + 1) ≡ false) → o ≡ furthest ok w n m a b
  far_is o u f g = sym (reach-is (facing ok w n a b) (facing-none n m a b ok w) (min n m) o u f λ l. ap (facing ok w n a b) (sym (add-one o)) ∙ g l)
