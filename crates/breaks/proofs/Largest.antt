-- The laws of the largest number at which a test holds, and of the bytes of a run.
-- Assumes nothing.
use mathlib.Core.Path.{◌≡◌, refl, sym, ◌∙◌, ap}
use mathlib.Core.Bool.{Bool, true, false, cond}
use mathlib.Core.List.{List, [], ◌∷◌}
use Prim.Native.Nat.{ℕ, zero, suc, ◌≤◌, ◌<◌}
use native.Mathlib.Omega.{arith}
use native.Mathlib.Decide.{dec_le}
use lib.ListN.{length, get_or}
use Rattle.ground.specs.Runs.{run}
use Rattle.ground.proofs.Tests.{never_both}
use Rattle.breaks.specs.Breaking.{largest}

module _ (p : ℕ → Bool) where
  pub largest_next : (n : ℕ) (t : Bool) → p (suc n) ≡ t → largest p (suc n) ≡ cond t (suc n) (largest p n)
  unfolding largest
  largest_next n t e = rw e

  pub largest_le : (n : ℕ) → largest p n ≤ n
  unfolding largest
  largest_le zero = omega arith
  largest_le (suc n) = go (p (suc n)) (largest_le n)
    where
      go : (t : Bool) → largest p n ≤ n → cond t (suc n) (largest p n) ≤ suc n
      go true h = omega arith
      go false h = omega arith

  pub largest-holds : (n : ℕ) → 0 < largest p n → p (largest p n) ≡ true
  unfolding largest
  largest-holds zero h = absurd (omega arith)
  largest-holds (suc n) h = go (p (suc n)) refl (largest-holds n) h
    where
      go : (t : Bool) → p (suc n) ≡ t → (0 < largest p n → p (largest p n) ≡ true) → 0 < cond t (suc n) (largest p n) → p (cond t (suc n) (largest p n)) ≡ true
      go true e old h = e
      go false e old h = old h

  pub largest-max : (n k : ℕ) → 0 < k → k ≤ n → p k ≡ true → k ≤ largest p n
  unfolding largest
  largest-max zero k a b e = absurd (omega arith)
  largest-max (suc n) k a b e = go (p (suc n)) refl (λ h. largest-max n k a h e)
    where
      go : (t : Bool) → p (suc n) ≡ t → (k ≤ n → k ≤ largest p n) → k ≤ cond t (suc n) (largest p n)
      go true f old = b
      go false f old =
          elim (dec_le k n) [
            | yes h ↦ old h
            | no g ↦ let z : k ≡ suc n = omega arith in absurd (never_both (p (suc n)) (ap p (sym z) ∙ e) f)
          ]

  -- each byte of a run passes, and the one behind it does not
  pub run_at : (t : List ℕ) (i : ℕ) → i < run p t → p (get_or t i 0) ≡ true
  unfolding run
  run_at [] i h = absurd (omega arith)
  run_at (x ∷ xs) i h = go (p x) refl i (run_at xs) h
    where
      go : (b : Bool) → p x ≡ b → (i : ℕ) → ((j : ℕ) → j < run p xs → p (get_or xs j 0) ≡ true) → i < cond b (suc (run p xs)) 0 → p (get_or (x ∷ xs) i 0) ≡ true
      go true e zero old h = e
      go true e (suc j) old h = old j (omega arith)
      go false e i old h = absurd (omega arith)

  pub run_end : (t : List ℕ) → run p t < length t → p (get_or t (run p t) 0) ≡ false
  unfolding run
  run_end [] h = absurd (omega arith)
  run_end (x ∷ xs) h = go (p x) refl (run_end xs) h
    where
      go : (b : Bool) → p x ≡ b → (run p xs < length xs → p (get_or xs (run p xs) 0) ≡ false) → cond b (suc (run p xs)) 0 < suc (length xs) → p (get_or (x ∷ xs) (cond b (suc (run p xs)) 0) 0) ≡ false
      go true e old h = old (omega arith)
      go false e old h = e
