-- Two lists compared place by place: what is known before place i, and what ends the comparison there.
-- Assumes nothing.
use mathlib.Core.Path.{◌≡◌, sym}
use mathlib.Core.List.{List}
use Prim.Native.Nat.{ℕ, ◌+◌, ◌*◌, ◌≤◌, ◌<◌, min}
use native.Mathlib.Nat.{mul-le-mul_right}
use native.Mathlib.Omega.{arith}
use native.Mathlib.Decide.{dec_lt}
use lib.ListN.{length, get_or}
use lib.Seq.{ext_get_or}
use Rattle.std.specs.Prelude.{Some, None}
use Rattle.checking.specs.Difference.{first_difference}
use Rattle.checking.proofs.DifferenceLaws.{Parts, differ, first_ends, second-ends, same_exactly, differs_exactly}

-- All before place i are equal.
abbrev pub EqualBefore : ℕ → List ℕ → List ℕ → Type 0
EqualBefore i xs ys = (j : ℕ) → j < i → get_or xs j 0 ≡ get_or ys j 0

module _ (xs ys : List ℕ) (i : ℕ) (equal : EqualBefore i xs ys) where
  pub differs_here : i < length xs → i < length ys → (get_or xs i 0 ≡ get_or ys i 0 → ⊥) → Some i ≡ first_difference xs ys
  differs_here a b n = sym ((differs_exactly xs ys i).1 (record { here = differ a b n; before = equal }))

  pub all_same : i ≡ length xs → length xs ≡ length ys → None ≡ first_difference xs ys
  all_same a b = sym ((same_exactly xs ys).1 (ext_get_or 0 xs ys b (λ j l. equal j (omega arith))))

  -- "where one FIGure is the start of the other, that is the shorter one's end"
  pub shorter_ends : i ≡ min (length xs) (length ys) → (length xs ≡ length ys → ⊥) → Some i ≡ first_difference xs ys
  shorter_ends e n = sym ((differs_exactly xs ys i).1 (record { here = ends; before = equal }))
    where
      ends : Parts i xs ys
      ends =
          elim (dec_lt (length xs) (length ys)) [
            | yes l ↦ first_ends (omega arith) (omega arith)
            | no l ↦ second-ends (omega arith) (omega arith)
          ]

-- a place before the end of h rows is in one of them
pub row_below : (r n k h : ℕ) → r * n + k < h * n → r < h
row_below r n k h l =
    elim (dec_lt r h) [
      | yes u ↦ u
      | no u ↦ let v : h ≤ r = omega arith in absurd (omega (arith, mul-le-mul_right n v))
    ]
