-- Numbers of 32 bits with and without their sign, as what is printed.
-- Assumes nothing.
use mathlib.Core.Bool.{Bool, true, false, true≢false}
use mathlib.Core.Path.{◌≡◌, sym, ap, ◌∙◌}
use native.Mathlib.Omega.{arith}
use mir.Syntax.{w32, w64}
use mir.Val.{SFits, Fits, to_z, of_z}
use mir.ValLaws.{to_z-of_z}
use lib.Dec.{T}
use lib.IntN.{ℤ, pos, negsuc, nat_abs, ◌-ℤ◌}
use lib.Signed.{lt_z, non_neg}
use borrow.Author.Tests.{ltb-true}

abbrev pub Natural : ℤ → Type 0
Natural z = T (non_neg z) × Fits w64 (nat_abs z)

-- what is left of a negative number without its sign
pub less_sign : (z : ℤ) → SFits w32 z → lt_z z (pos 0) ≡ true → SFits w64 (pos 0 -ℤ z) × Natural (pos 0 -ℤ z)
less_sign (pos n) f e = absurd (omega (arith, ltb-true n 0 e))
less_sign (negsuc n) f e = (record { sfits = omega (arith, f.sfits) }, (tt, record { fits = omega (arith, f.sfits) }))

pub not_negative : (z : ℤ) → SFits w32 z → lt_z z (pos 0) ≡ false → Natural z
not_negative (pos n) f e = (tt, record { fits = omega (arith, f.sfits) })
not_negative (negsuc n) f e = absurd (true≢false e)

pub test_is : (z : ℤ) (b : Bool) → SFits w32 z → lt_z (to_z w32 (of_z w32 z)) (pos 0) ≡ b → lt_z z (pos 0) ≡ b
test_is z b f e = sym (ap (λ (x : ℤ). lt_z x (pos 0)) (to_z-of_z w32 z f)) ∙ e
