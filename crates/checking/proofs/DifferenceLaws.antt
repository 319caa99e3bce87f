-- Where two lists first differ, spelled out: they are the same exactly if no place is named, and a place is named exactly if they differ there first.
-- Assumes nothing.
use mathlib.Core.Path.{◌≡◌, refl, ap, ap₂}
use mathlib.Core.Bool.{Bool, true, false, cond}
use mathlib.Core.List.{List, [], ◌∷◌}
use mathlib.Core.Logic.{◌↔◌}
use Prim.Native.Nat.{ℕ, zero, suc, ◌≤◌, ◌<◌}
use native.Mathlib.Omega.{arith}
use native.Mathlib.Decide.{dec_lt}
use lib.Dec.{eqb}
use lib.ListN.{length, get_or}
use borrow.Author.Tests.{eqb-true, eqb-false}
use Rattle.ground.proofs.Tests.{clash}
use Rattle.std.specs.Prelude.{Option, Some, None}
use Rattle.checking.specs.Difference.{further, first_difference}

-- Place k parts two lists: what they have there differs, or one of them ends there and the other goes on.
pub data Parts (k : ℕ) (xs ys : List ℕ) : Type 0 where
  differ : k < length xs → k < length ys → (get_or xs k 0 ≡ get_or ys k 0 → ⊥) → Parts k xs ys
  first_ends : k ≡ length xs → k < length ys → Parts k xs ys
  second-ends : k < length xs → k ≡ length ys → Parts k xs ys

-- "The first wrong byte": place k parts them, and all before it are equal.
pub record PartsFirst (k : ℕ) (xs ys : List ℕ) : Type 0 where
  pub here : Parts k xs ys
  pub before : (i : ℕ) → i < k → get_or xs i 0 ≡ get_or ys i 0

-- no place named is behind a list's end
pub within : (k : ℕ) (xs ys : List ℕ) → Parts k xs ys → (k ≤ length xs) × (k ≤ length ys)
within k xs ys (differ a b n) = (omega arith, omega arith)
within k xs ys (first_ends a b) = (omega arith, omega arith)
within k xs ys (second-ends a b) = (omega arith, omega arith)

-- what a comparison came to
pub data Outcome (xs ys : List ℕ) : Option ℕ → Type 0 where
  same : xs ≡ ys → Outcome xs ys None
  parted : (k : ℕ) → PartsFirst k xs ys → Outcome xs ys (Some k)

module _ (x y : ℕ) (xs ys : List ℕ) where
  parts_longer : (k : ℕ) → Parts k xs ys → Parts (suc k) (x ∷ xs) (y ∷ ys)
  parts_longer k (differ a b n) = differ (omega arith) (omega arith) n
  parts_longer k (first_ends a b) = first_ends (ap suc a) (omega arith)
  parts_longer k (second-ends a b) = second-ends (omega arith) (ap suc b)

  before_longer : (k : ℕ) → x ≡ y → PartsFirst k xs ys → (i : ℕ) → i < suc k → get_or (x ∷ xs) i 0 ≡ get_or (y ∷ ys) i 0
  before_longer k e f zero l = e
  before_longer k e f (suc i) l = f.before i (omega arith)

  longer : {d : Option ℕ} → x ≡ y → Outcome xs ys d → Outcome (x ∷ xs) (y ∷ ys) (further d)
  longer e (same p) = same (ap₂ ◌∷◌ e p)
  longer e (parted k f) = parted (suc k) (record { here = parts_longer k f.here; before = before_longer k e f })

  unequal : (x ≡ y → ⊥) → Outcome (x ∷ xs) (y ∷ ys) (Some 0)
  unequal n = parted 0 (record { here = differ (omega arith) (omega arith) n; before = λ i l. absurd (omega arith) })

pub outcome : (xs ys : List ℕ) → Outcome xs ys (first_difference xs ys)
unfolding first_difference
outcome [] [] = same refl
outcome [] (y ∷ ys) = parted 0 (record { here = first_ends refl (omega arith); before = λ i l. absurd (omega arith) })
outcome (x ∷ xs) [] = parted 0 (record { here = second-ends (omega arith) refl; before = λ i l. absurd (omega arith) })
outcome (x ∷ xs) (y ∷ ys) = go (eqb x y) refl (outcome xs ys)
  where
    go : {d : Option ℕ} (t : Bool) → eqb x y ≡ t → Outcome xs ys d → Outcome (x ∷ xs) (y ∷ ys) (cond t (further d) (Some 0))
    go true e o = longer x y xs ys (eqb-true x y e) o
    go false e o = unequal x y xs ys (eqb-false x y e)

-- of two places that part two lists first, neither is the earlier one
not_earlier : (j k : ℕ) (xs ys : List ℕ) → Parts j xs ys → PartsFirst k xs ys → j < k → ⊥
not_earlier j k xs ys (differ a b n) f l = n (f.before j l)
not_earlier j k xs ys (first_ends a b) f l = omega (arith, within k xs ys f.here)
not_earlier j k xs ys (second-ends a b) f l = omega (arith, within k xs ys f.here)

one_place : (j k : ℕ) (xs ys : List ℕ) → PartsFirst j xs ys → PartsFirst k xs ys → j ≡ k
one_place j k xs ys f g =
    elim (dec_lt j k) [
      | yes l ↦ absurd (not_earlier j k xs ys f.here g l)
      | no a ↦ elim (dec_lt k j) [
        | yes l ↦ absurd (not_earlier k j xs ys g.here f l)
        | no b ↦ omega arith
      ]
    ]

-- a list is not parted from itself
whole : (k : ℕ) (xs : List ℕ) → Parts k xs xs → ⊥
whole k xs (differ a b n) = n refl
whole k xs (first_ends a b) = omega arith
whole k xs (second-ends a b) = omega arith

module _ (xs ys : List ℕ) where
  -- no place is named exactly if the lists are the same
  pub same_exactly : first_difference xs ys ≡ None ↔ xs ≡ ys
  same_exactly = (to (outcome xs ys), from (outcome xs ys))
    where
      to : {d : Option ℕ} → Outcome xs ys d → d ≡ None → xs ≡ ys
      to (same p) e = p
      to (parted k f) e = clash (cc)

      from : {d : Option ℕ} → Outcome xs ys d → xs ≡ ys → d ≡ None
      from (same q) p = refl
      from (parted k f) p = absurd (whole k ys (rw p at f.here))

  -- a place is named exactly if it is the first that parts them
  pub differs_exactly : (k : ℕ) → first_difference xs ys ≡ Some k ↔ PartsFirst k xs ys
  differs_exactly k = (to (outcome xs ys), from (outcome xs ys))
    where
      to : {d : Option ℕ} → Outcome xs ys d → d ≡ Some k → PartsFirst k xs ys
      to (same p) e = clash (cc)
      to (parted j f) e = let q : j ≡ k = cc in rw q at f

      from : {d : Option ℕ} → Outcome xs ys d → PartsFirst k xs ys → d ≡ Some k
      from (same p) f = absurd (whole k ys (rw p at f.here))
      from (parted j g) f = ap Some (one_place j k xs ys g f)
