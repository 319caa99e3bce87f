-- A good set is a sum of one to five of the rules, and Full_Layout gives no other.
-- Assumes nothing.
use mathlib.Core.Path.{◌≡◌, refl, sym, ◌∙◌, ap}
use mathlib.Core.Bool.{Bool, true, false, cond, ◌&&◌}
use mathlib.Core.List.{List, [], ◌∷◌}
use Prim.Native.Nat.{ℕ, ◌+◌, ◌*◌, ◌/◌, ◌%◌, ◌≤◌}
use native.Mathlib.Omega.{arith}
use lib.Dec.{eqb, leb}
use borrow.Author.Tests.{eq-eqb, eqb-true, eqb-false, leb-true, le-leb}
use Rattle.ground.proofs.Tests.{and_left, and_right, and_both}
use Rattle.subchars.specs.declared.VerticalSmushing.TheVariants.{Universal, Controlled}
use Rattle.subchars.specs.declared.VerticalLayout.TheVariants.{FullHeight, Fitting, Smushing}
use Rattle.subchars.specs.Layouts.{has, vertical_values, full_vertical}
use Rattle.vertical.specs.VerticalPair.{VerticalRule, EqualCharacter, Underscore, Hierarchy, HorizontalLine, VerticalLine, vertical_rules, rule_value, set_has, good_set, good_vertical}

-- the sum of the code values of those chosen
abbrev pub sum_of : (VerticalRule → Bool) → List VerticalRule → ℕ
sum_of chosen [] = 0
sum_of chosen (rule ∷ more) = cond (chosen rule) (rule_value rule) 0 + sum_of chosen more

-- "A sum of one to five of the rules."
pub record SumOfRules (set : ℕ) : Type 0 where
  pub chosen : VerticalRule → Bool
  pub one : VerticalRule
  pub its_chosen : chosen one ≡ true
  pub sum : set ≡ sum_of chosen vertical_rules

-- ------------------------------------------------------------------ a good set is a sum

-- a code value that is in the sum or not, as a product
abbrev times : Bool → ℕ
times t = cond t 1 0

product : (t : Bool) (v : ℕ) → cond t v 0 ≡ times t * v
product true v = omega arith
product false v = omega arith

-- whether a number has a code value, as a digit
digit : (n : ℕ) → times (eqb (n % 2) 1) ≡ n % 2
digit n = go (eqb (n % 2) 1) refl
  where
    go : (t : Bool) → eqb (n % 2) 1 ≡ t → times t ≡ n % 2
    go true e = sym (eqb-true (n % 2) 1 e)
    go false e = omega (arith, eqb-false (n % 2) 1 e)

-- a sum of the rules, as a sum of products
products : (chosen : VerticalRule → Bool) → sum_of chosen vertical_rules ≡ times (chosen EqualCharacter) * 256 + (times (chosen Underscore) * 512 + (times (chosen Hierarchy) * 1024 + (times (chosen HorizontalLine) * 2048 + (times (chosen VerticalLine) * 4096 + 0))))
products chosen =
    rw (product (chosen EqualCharacter) 256, product (chosen Underscore) 512, product (chosen Hierarchy) 1024, product (chosen HorizontalLine) 2048, product (chosen VerticalLine) 4096)

module _ (set : ℕ) (good : good_set set ≡ true) where
  from : 256 ≤ set
  from = leb-true 256 set (and_left (leb 256 set) (leb set 7936) (and_left (leb 256 set && leb set 7936) (eqb (set % 256) 0) good))

  to : set ≤ 7936
  to = leb-true set 7936 (and_right (leb 256 set) (leb set 7936) (and_left (leb 256 set && leb set 7936) (eqb (set % 256) 0) good))

  steps : set % 256 ≡ 0
  steps = eqb-true (set % 256) 0 (and_right (leb 256 set && leb set 7936) (eqb (set % 256) 0) good)

  is_sum : set ≡ sum_of (set_has set) vertical_rules
  is_sum =
      let a : set ≡ set / 256 * 256 = omega (arith, steps) in
      let b : set / 256 ≡ set / 256 % 2 + set / 512 * 2 = omega arith in
      let c : set / 512 ≡ set / 512 % 2 + set / 1024 * 2 = omega arith in
      let d : set / 1024 ≡ set / 1024 % 2 + set / 2048 * 2 = omega arith in
      let e : set / 2048 ≡ set / 2048 % 2 + set / 4096 * 2 = omega arith in
      let f : set / 4096 ≡ set / 4096 % 2 = omega (arith, to) in
      let sum : set ≡ set / 256 % 2 * 256 + (set / 512 % 2 * 512 + (set / 1024 % 2 * 1024 + (set / 2048 % 2 * 2048 + (set / 4096 % 2 * 4096 + 0)))) = omega (arith, a, b, c, d, e, f) in
      omega (arith, sum, products (set_has set), digit (set / 256), digit (set / 512), digit (set / 1024), digit (set / 2048), digit (set / 4096))

  -- one of the rules is in it
  some_rule : (a b c d e : Bool) → set_has set EqualCharacter ≡ a → set_has set Underscore ≡ b → set_has set Hierarchy ≡ c → set_has set HorizontalLine ≡ d → set_has set VerticalLine ≡ e → SumOfRules set
  some_rule true b c d e p q r s t = record { chosen = set_has set; one = EqualCharacter; its_chosen = p; sum = is_sum }
  some_rule false true c d e p q r s t = record { chosen = set_has set; one = Underscore; its_chosen = q; sum = is_sum }
  some_rule false false true d e p q r s t = record { chosen = set_has set; one = Hierarchy; its_chosen = r; sum = is_sum }
  some_rule false false false true e p q r s t = record { chosen = set_has set; one = HorizontalLine; its_chosen = s; sum = is_sum }
  some_rule false false false false true p q r s t = record { chosen = set_has set; one = VerticalLine; its_chosen = t; sum = is_sum }
  some_rule false false false false false p q r s t = let z : set ≡ 0 = is_sum ∙ rw (p, q, r, s, t) in absurd (omega (arith, from))

  -- "A sum of one to five of the rules" is what is tested ..
  pub good_sum : SumOfRules set
  good_sum = some_rule _ _ _ _ _ refl refl refl refl refl

-- ------------------------------------------------------------------ a sum is a good set

at_most_once : (t : Bool) → times t ≤ 1
at_most_once true = omega arith
at_most_once false = omega arith

module _ (chosen : VerticalRule → Bool) where
  -- how many are chosen
  abbrev count : ℕ
  count = times (chosen EqualCharacter) + times (chosen Underscore) + times (chosen Hierarchy) + times (chosen HorizontalLine) + times (chosen VerticalLine)

  at_least_one : (one : VerticalRule) → chosen one ≡ true → 1 ≤ count
  at_least_one EqualCharacter i = rw i (omega arith)
  at_least_one Underscore i = rw i (omega arith)
  at_least_one Hierarchy i = rw i (omega arith)
  at_least_one HorizontalLine i = rw i (omega arith)
  at_least_one VerticalLine i = rw i (omega arith)

  sum_is_good : 1 ≤ count → good_set (sum_of chosen vertical_rules) ≡ true
  sum_is_good h =
      let n = sum_of chosen vertical_rules in
      and_both (leb 256 n && leb n 7936) (eqb (n % 256) 0)
      (and_both (leb 256 n) (leb n 7936) (le-leb 256 n (omega (arith, h, products chosen))) (le-leb n 7936 most))
      (eq-eqb (n % 256) 0 (omega (arith, products chosen)))
    where
      most : sum_of chosen vertical_rules ≤ 7936
      most =
          omega (arith, products chosen, at_most_once (chosen EqualCharacter), at_most_once (chosen Underscore), at_most_once (chosen Hierarchy), at_most_once (chosen HorizontalLine), at_most_once (chosen VerticalLine))

-- .. and every such sum passes.
pub sum_good : (set : ℕ) → SumOfRules set → good_set set ≡ true
sum_good set s = rw s.sum (sum_is_good s.chosen (at_least_one s.chosen s.one s.its_chosen))

-- ------------------------------------------------------------------ Full_Layout

module _ (full : ℕ) where
  -- "Vertical values (256 to 4096 for rules ..) are kept": the set has a rule if Full_Layout has its code value.
  pub full_rules : (rule : VerticalRule) → set_has (vertical_values full) rule ≡ has full (rule_value rule)
  full_rules EqualCharacter = let e : full / 256 % 32 * 256 / 256 % 2 ≡ full / 256 % 2 = omega arith in ap (λ (x : ℕ). eqb x 1) e
  full_rules Underscore = let e : full / 256 % 32 * 256 / 512 % 2 ≡ full / 512 % 2 = omega arith in ap (λ (x : ℕ). eqb x 1) e
  full_rules Hierarchy = let e : full / 256 % 32 * 256 / 1024 % 2 ≡ full / 1024 % 2 = omega arith in ap (λ (x : ℕ). eqb x 1) e
  full_rules HorizontalLine = let e : full / 256 % 32 * 256 / 2048 % 2 ≡ full / 2048 % 2 = omega arith in ap (λ (x : ℕ). eqb x 1) e
  full_rules VerticalLine = let e : full / 256 % 32 * 256 / 4096 % 2 ≡ full / 4096 % 2 = omega arith in ap (λ (x : ℕ). eqb x 1) e

  -- Full_Layout gives no layout that 17 refuses ..
  pub full_good : good_vertical (full_vertical full) ≡ true
  unfolding full_vertical
  full_good = go (has full 16384) (has full 8192) (eqb (vertical_values full) 0) refl
    where
      good : (vertical_values full ≡ 0 → ⊥) → good_set (vertical_values full) ≡ true
      good n =
          let k = vertical_values full in
          and_both (leb 256 k && leb k 7936) (eqb (k % 256) 0) (and_both (leb 256 k) (leb k 7936) (le-leb 256 k (omega arith)) (le-leb k 7936 (omega arith))) (eq-eqb (k % 256) 0 (omega arith))

      go : (s t n : Bool) → eqb (vertical_values full) 0 ≡ n → good_vertical (cond s (Smushing (cond n Universal (Controlled (vertical_values full)))) (cond t Fitting FullHeight)) ≡ true
      go true t true e = refl
      go true t false e = good (eqb-false (vertical_values full) 0 e)
      go false true n e = refl
      go false false n e = refl

  -- .. and so no set but a sum of one to five of the rules.
  pub full_sum : (set : ℕ) → full_vertical full ≡ Smushing (Controlled set) → SumOfRules set
  full_sum set e = good_sum set (sym (ap good_vertical e) ∙ full_good)
