-- Codes: whether two are the same, those of the required characters, and those of tags.
-- Assumes nothing.
use mathlib.Core.Path.{◌≡◌, refl, sym, ap, ◌∙◌}
use mathlib.Core.Bool.{true, false, true≢false}
use mathlib.Core.List.{List, [], ◌∷◌, ◌++◌}
use Prim.Native.Nat.{ℕ, zero, suc, ◌+◌, ◌-◌, ◌≤◌, ◌<◌}
use native.Mathlib.Omega.{arith}
use lib.Dec.{ltb}
use lib.IntN.{ℤ, pos, negsuc}
use lib.ListN.{length, get_or, drop, drop_of_length-le, get_or-append}
use lib.Seq.{get_or-append-add, drop-cons}
use borrow.Author.Tests.{eq-eqb, eqb-true, ltb-true}
use Rattle.std.specs.Bool.{one_answer}
use Rattle.std.specs.Ordering.{int_eq}
use Rattle.std.specs.Cmp.{signed_Decides}
use Rattle.std.specs.Prelude.{Option, Some, None}
use Rattle.ground.specs.Runs.{all}
use Rattle.ground.proofs.Tests.{and_left, and_right}
use Rattle.subchars.specs.declared.Code.{Code}
use Rattle.lines.specs.Words.{first_word}
use Rattle.lines.specs.Numbers.{code_number}
use Rattle.chars.specs.Codes.{count, ascii_count, ascii, deutsch, required_codes, required_count, same_number, same_code, no_code, tag_code, tag_of}

-- The same by the equality that the code compares with.
same_so : (x y : ℤ) → same_number x y ≡ true → x ≡ y
same_so (pos a) (pos b) e = ap pos (eqb-true a b e)
same_so (pos a) (negsuc b) e = absurd (true≢false (sym e))
same_so (negsuc a) (pos b) e = absurd (true≢false (sym e))
same_so (negsuc a) (negsuc b) e = ap negsuc (eqb-true a b e)

same_self : (x : ℤ) → same_number x x ≡ true
same_self (pos a) = eq-eqb a a refl
same_self (negsuc a) = eq-eqb a a refl

pub int_same : (x y : ℤ) → int_eq x y ≡ same_number x y
int_same x y = one_answer _ _ (signed_Decides x y) (same_so x y, λ p. ap (same_number x) (sym p) ∙ same_self x)

-- The required codes by their places.
count-length : (k n : ℕ) → length (count k n) ≡ n
unfolding count
count-length k zero = refl
count-length k (suc n) = ap suc (count-length (suc k) n)

count_at : (k n i : ℕ) → i < n → get_or (count k n) i 0 ≡ i + k
unfolding count
count_at k zero i h = absurd (omega arith)
count_at k (suc n) zero h = omega arith
count_at k (suc n) (suc i) h = omega (arith, count_at (suc k) n i (omega arith))

pub first_codes : (k : ℕ) → k < ascii_count → k + 32 ≡ get_or required_codes k 0
unfolding required_codes
first_codes k h = sym (get_or-append ascii deutsch 0 k (omega (arith, count-length 32 ascii_count)) ∙ count_at 32 ascii_count k h)

pub last_codes : (k : ℕ) → ascii_count ≤ k → get_or deutsch (k - ascii_count) 0 ≡ get_or required_codes k 0
unfolding required_codes
last_codes k h =
    let e : length ascii + (k - ascii_count) ≡ k = omega (arith, count-length 32 ascii_count) in
    sym (get_or-append-add ascii deutsch (k - ascii_count) 0) ∙ ap (λ (j : ℕ). get_or (ascii ++ deutsch) j 0) e

pub codes_length : length required_codes ≡ required_count
unfolding required_codes count
codes_length = refl

pub still_required : (n : ℕ) → n < required_count → drop n required_codes ≡ get_or required_codes n 0 ∷ drop (suc n) required_codes
still_required n h = drop-cons required_codes n 0 (omega (arith, codes_length))

pub none_required : (n : ℕ) → required_count ≤ n → drop n required_codes ≡ []
none_required n h = drop_of_length-le required_codes {i = n} (omega (arith, codes_length))

all_small : (l : List ℕ) (i : ℕ) → all (λ x. ltb x 256) l ≡ true → get_or l i 0 < 256
unfolding all
all_small [] i e = omega arith
all_small (x ∷ l) zero e = ltb-true x 256 (and_left (ltb x 256) (all (λ y. ltb y 256) l) e)
all_small (x ∷ l) (suc i) e = all_small l i (and_right (ltb x 256) (all (λ y. ltb y 256) l) e)

pub codes_small : (k : ℕ) → get_or required_codes k 0 < 256
unfolding required_codes count all
codes_small k = all_small required_codes k refl

-- A tag, by what its first word is.
module _ (t : List ℕ) (m : Option Code) (p : m ≡ code_number (first_word t)) where
  tag_is : tag_code m ≡ tag_of t
  unfolding tag_of
  tag_is = ap tag_code p

  pub tag_none : m ≡ None → None ≡ tag_of t
  tag_none e = sym (ap tag_code e) ∙ tag_is

  pub tag_bad : (c : Code) → m ≡ Some c → same_code c no_code ≡ true → None ≡ tag_of t
  tag_bad c e q = sym (ap tag_code e ∙ simp q) ∙ tag_is

  pub tag_good : (c : Code) → m ≡ Some c → same_code c no_code ≡ false → Some c ≡ tag_of t
  tag_good c e q = sym (ap tag_code e ∙ simp q) ∙ tag_is
