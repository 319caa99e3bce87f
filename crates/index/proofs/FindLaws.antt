-- The last place of a code, also as the code finds it; and that it is a place of the code with none behind it.
-- Assumes nothing.
use mathlib.Core.Path.{◌≡◌, refl, sym, ap, ◌∙◌, subst}
use mathlib.Core.Bool.{Bool, true, false, cond, true≢false}
use mathlib.Core.List.{List, [], ◌∷◌, ◌++◌}
use mathlib.Core.Logic.{⊎_elim}
use Prim.Native.Nat.{ℕ, zero, suc, ◌+◌, ◌<◌}
use native.Mathlib.Omega.{arith}
use lib.IntN.{ℤ, pos}
use lib.ListN.{length, get_or, take}
use lib.Seq.{take-suc, length-take-le}
use Rattle.std.specs.Ordering.{int_eq}
use Rattle.std.specs.Prelude.{Option, Some, None, MatchOption}
use Rattle.ground.proofs.Tests.{clash, below_or_not}
use Rattle.chars.specs.Codes.{same_number}
use Rattle.chars.proofs.CodeLaws.{int_same}
use Rattle.index.specs.LookUp.{or_here, last_at}

last_snoc : (z : ℤ) (xs : List ℤ) (x : ℤ) → last_at z (xs ++ (x ∷ [])) ≡ cond (same_number x z) (Some (length xs)) (last_at z xs)
unfolding last_at
last_snoc z [] x = refl
last_snoc z (y ∷ ys) x = ap (λ (r : Option ℕ). or_here r (same_number y z)) (last_snoc z ys x) ∙ go (same_number x z)
  where
    go : (b : Bool) → or_here (cond b (Some (length ys)) (last_at z ys)) (same_number y z) ≡ cond b (Some (suc (length ys))) (or_here (last_at z ys) (same_number y z))
    go true = refl
    go false = refl

-- the last place among one code more
pub last_next :
    (z : ℤ) (l : List ℤ) (i : ℕ) →
    i < length l → last_at z (take (i + 1) l) ≡ cond (same_number (get_or l i (pos 0)) z) (Some i) (last_at z (take i l))
last_next z l i h =
    let e : i + 1 ≡ suc i = omega arith in
    let x = get_or l i (pos 0) in
    ap (λ (j : ℕ). last_at z (take j l)) e ∙ ap (last_at z) (take-suc l i (pos 0) h) ∙ last_snoc z (take i l) x ∙
    ap (λ (j : ℕ). cond (same_number x z) (Some j) (last_at z (take i l))) (length-take-le i l (omega arith))

-- No place has the code.
unfoldable pub NoneHas : ℤ → List ℤ → Type 0
NoneHas z l = (j : ℕ) → j < length l → same_number (get_or l j (pos 0)) z ≡ false

-- "When codes repeat, the last is used."
pub record Last (z : ℤ) (l : List ℤ) (k : ℕ) : Type 0 where
  pub inside : k < length l
  pub same : same_number (get_or l k (pos 0)) z ≡ true
  pub later : (j : ℕ) → k < j → j < length l → same_number (get_or l j (pos 0)) z ≡ false

none_more : (z x : ℤ) (xs : List ℤ) → same_number x z ≡ false → NoneHas z xs → NoneHas z (x ∷ xs)
unfolding NoneHas
none_more z x xs e n zero h = e
none_more z x xs e n (suc j) h = n j (omega arith)

pub nowhere_none : (z : ℤ) (l : List ℤ) → last_at z l ≡ None → NoneHas z l
unfolding last_at NoneHas
nowhere_none z [] e = λ j h. absurd (omega arith)
nowhere_none z (x ∷ xs) e = go (last_at z xs) refl (same_number x z) refl e (nowhere_none z xs)
  where
    go : (r : Option ℕ) → last_at z xs ≡ r → (b : Bool) → same_number x z ≡ b → or_here r b ≡ None → (last_at z xs ≡ None → NoneHas z xs) → NoneHas z (x ∷ xs)
    go (Some k) p b q y more = clash (cc)
    go None p true q y more = clash (cc)
    go None p false q y more = none_more z x xs q (more p)

pub at_last : (z : ℤ) (l : List ℤ) (k : ℕ) → last_at z l ≡ Some k → Last z l k
unfolding last_at NoneHas
at_last z [] k e = clash (cc)
at_last z (x ∷ xs) k e = go (last_at z xs) refl (same_number x z) refl e (λ m p. at_last z xs m p)
  where
    go : (r : Option ℕ) → last_at z xs ≡ r → (b : Bool) → same_number x z ≡ b → or_here r b ≡ Some k → ((m : ℕ) → last_at z xs ≡ Some m → Last z xs m) → Last z (x ∷ xs) k
    go (Some m) p b q y more =
        let s = more m p in
        let f : suc m ≡ k = cc in
        subst (Last z (x ∷ xs)) f (record { inside = omega (arith, s.inside); same = s.same; later = behind m s.later })
      where
        behind : (m : ℕ) → ((j : ℕ) → m < j → j < length xs → same_number (get_or xs j (pos 0)) z ≡ false) → (j : ℕ) → suc m < j → j < suc (length xs) → same_number (get_or (x ∷ xs) j (pos 0)) z ≡ false
        behind m f zero a b = absurd (omega arith)
        behind m f (suc j) a b = f j (omega arith) (omega arith)
    go None p true q y more =
        let f : 0 ≡ k = cc in
        subst (Last z (x ∷ xs)) f (record { inside = omega arith; same = q; later = first (nowhere_none z xs p) })
      where
        first : NoneHas z xs → (j : ℕ) → 0 < j → j < suc (length xs) → same_number (get_or (x ∷ xs) j (pos 0)) z ≡ false
        first n zero a b = absurd (omega arith)
        first n (suc j) a b = n j (omega arith)
    go None p false q y more = clash (cc)

-- The last place, by what the code finds of it and behind it.
module _ (z : ℤ) (l : List ℤ) where
  abbrev here : ℕ → Bool
  here j = int_eq (get_or l j (pos 0)) z

  as_same : (j : ℕ) (b : Bool) → here j ≡ b → same_number (get_or l j (pos 0)) z ≡ b
  as_same j b e = sym (int_same (get_or l j (pos 0)) z) ∙ e

  pub last_found : (r : Option ℕ) →
      MatchOption r ((j : ℕ) → j < length l → here j ≡ false) (λ k. (k < length l) × (here k ≡ true) × ((j : ℕ) → k < j → j < length l → here j ≡ false)) → r ≡ last_at z l
  unfolding NoneHas
  last_found r h = go r (last_at z l) refl h
    where
      go : (r x : Option ℕ) → last_at z l ≡ x →
          MatchOption r ((j : ℕ) → j < length l → here j ≡ false) (λ k. (k < length l) × (here k ≡ true) × ((j : ℕ) → k < j → j < length l → here j ≡ false)) → r ≡ x
      go None None e h = refl
      go None (Some k) e h = let s = at_last z l k e in absurd (true≢false (sym s.same ∙ as_same k false (h k s.inside)))
      go (Some k) None e h = absurd (true≢false (sym (as_same k true h.1) ∙ nowhere_none z l e k h.0))
      go (Some k) (Some j) e h =
          let s = at_last z l j e in
          ⊎_elim (λ q. absurd (true≢false (sym s.same ∙ as_same j false (h.2 j q s.inside))))
          (λ q. ⊎_elim (λ w. absurd (true≢false (sym (as_same k true h.1) ∙ s.later k w h.0))) (λ w. ap Some (omega arith)) (below_or_not j k)) (below_or_not k j)
