-- A list that is overwritten by another, element after element from the start: what it holds after i of them.
-- Assumes nothing.
use mathlib.Core.Path.{◌≡◌, refl, sym, ap, ◌∙◌}
use mathlib.Core.List.{List, [], ◌∷◌, ◌++◌, append-nil}
use Prim.Native.Nat.{ℕ, zero, suc, ◌-◌, ◌≤◌, ◌<◌}
use native.Mathlib.Omega.{arith}
use lib.ListN.{length, take, drop, set, get_or, replicate, length-append, length-drop}
use lib.Seq.{drop-cons, set_at, append_snoc, take-suc, take_all, length-take-le, drop-length}

abbrev pub moved : {A : Type 0} → List A → List A → ℕ → List A
moved t ys i = take i t ++ drop i ys

module _ {A : Type 0} (z : A) (t ys : List A) where
  pub moved_next : (i : ℕ) → i < length t → i < length ys → set (moved t ys i) i (get_or t i z) ≡ moved t ys (suc i)
  moved_next i h g =
      ap (λ (r : List A). set (take i t ++ r) i (get_or t i z)) (drop-cons ys i z g) ∙
      set_at (take i t) (get_or ys i z) (drop (suc i) ys) (get_or t i z) i (length-take-le i t (omega arith)) ∙
      sym (append_snoc (take i t) (get_or t i z) (drop (suc i) ys)) ∙
      ap (λ (r : List A). r ++ drop (suc i) ys) (sym (take-suc t i z h))

  pub moved_length : (i : ℕ) → i ≤ length t → i ≤ length ys → length (moved t ys i) ≡ length ys
  moved_length i h g = omega (arith, length-append (take i t) (drop i ys), length-take-le i t h, length-drop i ys)

  pub moved_all : length t ≡ length ys → moved t ys (length ys) ≡ t
  moved_all e =
      ap (λ (r : List A). take (length ys) t ++ r) (drop-length ys) ∙ append-nil (take (length ys) t) ∙ take_all (length ys) t (omega arith)

-- An element of a list with zeros behind it is the list's, or zero.
module _ {A : Type 0} (z : A) where
  none-there : (k i : ℕ) → get_or (replicate k z) i z ≡ z
  none-there zero i = refl
  none-there (suc k) zero = refl
  none-there (suc k) (suc i) = none-there k i

  pub zero-behind : (xs : List A) (k i : ℕ) → get_or (xs ++ replicate k z) i z ≡ get_or xs i z
  zero-behind [] k i = none-there k i
  zero-behind (x ∷ xs) k zero = refl
  zero-behind (x ∷ xs) k (suc i) = zero-behind xs k i

  pub zeros_left : (n i : ℕ) → i ≤ n → drop i (replicate n z) ≡ replicate (n - i) z
  zeros_left n zero h = let e : n ≡ n - 0 = omega arith in ap (λ (k : ℕ). replicate k z) e
  zeros_left zero (suc i) h = absurd (omega arith)
  zeros_left (suc n) (suc i) h = let e : n - i ≡ suc n - suc i = omega arith in zeros_left n i (omega arith) ∙ ap (λ (k : ℕ). replicate k z) e
