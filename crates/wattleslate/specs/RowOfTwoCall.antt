-- The calls `row_of_two` and `row_of_two_refusal`: what the first answers beside the second, which tells the request itself, for every input.
-- Assumes nothing.
use Rattle.std.specs.Prelude.{◌≡◌, ℕ, ◌+◌, List, [], take, drop}
use Rattle.std.specs.Borrow.{Bor}
use Rattle.subchars.specs.declared.Code.{Code}
use Rattle.fontlists.specs.declared.two.Which.{Which}
use Rattle.fontlists.specs.declared.two.Which.TheVariants.{First, Second}
use Rattle.fontlists.specs.TwoFonts.{bytes_in}
use Rattle.twofonts.specs.declared.RequestedOfTwo.{RequestedOfTwo}
use Rattle.twofonts.specs.declared.RequestedOfTwo.TheVariants.{Row, Refused}
use Rattle.twofonts.specs.RowOfTwo.{row_of_two}

-- 02, Q-7: "The row handed back is a part of whichever font had it." A refused row is empty.
abbrev pub part_of_two : List ℕ → List ℕ → RequestedOfTwo → List ℕ
part_of_two s t (Row w place width) = take width (drop place (bytes_in w s t))
part_of_two s t (Refused q) = []

unfoldable pub row_of_two_bytes : List ℕ → List ℕ → Code → ℕ → List ℕ
row_of_two_bytes s t c r = part_of_two s t (row_of_two s t c r)

-- The part itself, and not a place with equal bytes: it lies in the same memory as the font that is named, as far behind its start as the request says.
abbrev pub lent_in : Which → Bor (List ℕ) → Bor (List ℕ) → Bor (List ℕ)
lent_in First first second = first
lent_in Second first second = second

pub record LiesInOne (first second : Bor (List ℕ)) (x : RequestedOfTwo) (part : Bor (List ℕ)) : Type 0 where
  pub there : (w : Which) (place width : ℕ) → x ≡ Row w place width → (part.ref_ptr.0 ≡ (lent_in w first second).ref_ptr.0) × (part.ref_ptr.1 ≡ place + (lent_in w first second).ref_ptr.1)
