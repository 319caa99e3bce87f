-- The row of two fonts is the part of a font that the request tells.
-- Assumes nothing.
use mathlib.Core.Path.{◌≡◌, sym, ap, ◌∙◌}
use mathlib.Core.List.{List}
use Prim.Native.Nat.{ℕ, ◌+◌, ◌-◌, ◌≤◌}
use native.Mathlib.Omega.{arith}
use lib.ListN.{length, take, drop}
use Rattle.subchars.specs.declared.Code.{Code}
use Rattle.fontlists.specs.declared.two.Which.{Which}
use Rattle.fontlists.specs.declared.two.Which.TheVariants.{First, Second}
use Rattle.fontlists.specs.TwoFonts.{bytes_in}
use Rattle.twofonts.specs.declared.RequestedOfTwo.TheVariants.{Row}
use Rattle.twofonts.specs.RowOfTwo.{row_of_two}
use Rattle.wattleslate.specs.RowOfTwoCall.{part_of_two, row_of_two_bytes}

-- The bytes of one of two fonts are no more than those of both.
pub either_short : (w : Which) (s t : List ℕ) → length (bytes_in w s t) ≤ length s + length t
either_short First s t = omega arith
either_short Second s t = omega arith

module _ (s t : List ℕ) (c : Code) (r : ℕ) where
  -- the part from a place to the place behind its width, in the font that is named
  pub two_part : (w v : Which) (p n : ℕ) → Row w p n ≡ row_of_two s t c r → w ≡ v → take (p + n - p) (drop p (bytes_in v s t)) ≡ row_of_two_bytes s t c r
  unfolding row_of_two_bytes
  two_part w v p n e f =
      let m : p + n - p ≡ n = omega arith in
      ap (λ (j : ℕ). take j (drop p (bytes_in v s t))) m ∙ ap (λ (x : Which). take n (drop p (bytes_in x s t))) (sym f) ∙ ap (part_of_two s t) e
