-- The sum of the rules that join a pair, and a set: what they have in common is the rule by which controlled smushing joins it, or nothing.
-- Assumes nothing.
use mathlib.Core.Path.{◌≡◌, refl, sym, ◌∙◌, ap}
use mathlib.Core.Bool.{Bool, true, false, cond, not}
use Rattle.std.specs.Prelude.{Some, None}
use Prim.Native.Nat.{ℕ, ◌+◌, ◌*◌, ◌/◌, ◌%◌, ◌<◌}
use native.Mathlib.Nat.{one-mul, zero-mul}
use native.Mathlib.Omega.{arith}
use lib.Dec.{eqb}
use lib.Bits.{bit_and, and_high, and_zero_r}
use borrow.Author.Tests.{eq-eqb, ne_eqb, eqb-true, eqb-false}
use Rattle.ground.proofs.Tests.{same_test, never_both}
use Rattle.rules.specs.declared.Rule.{Rule}
use Rattle.rules.specs.declared.Rule.TheVariants.{EqualCharacter, Underscore, Hierarchy, OppositePair, BigX, Hardblank}
use Rattle.rules.specs.Rules.{is_some, by_rule, rule_number, rules}
use Rattle.rules.proofs.Rules.{is-some, joined_by_only}
use Rattle.rules.proofs.Deciding.{same_number}
use Rattle.kinds.specs.Kinds.{rules_joining}
use Rattle.pairs.specs.declared.Joint.TheVariants.{Unjoinable}
use Rattle.pairs.specs.Pair.{in_set, controlled, is_joined, byte_of}
use Rattle.pairs.specs.Steps.{its_rule, kept_by_set}
use Rattle.pairs.proofs.Sets.{listed, by, every_rule, Tried, joined, unjoined, by_any, controlled-by, kept-all}

-- what a set and a rule's number have in common
shared : (set : ℕ) (p : Rule) → bit_and set (rule_number p) ≡ set / rule_number p % 2 * rule_number p
shared set EqualCharacter = and_high set 1 0
shared set Underscore = and_high set 1 1
shared set Hierarchy = and_high set 1 2
shared set OppositePair = and_high set 1 3
shared set BigX = and_high set 1 4
shared set Hardblank = and_high set 1 5

positive : (p : Rule) → 0 < rule_number p
positive EqualCharacter = omega arith
positive Underscore = omega arith
positive Hierarchy = omega arith
positive OppositePair = omega arith
positive BigX = omega arith
positive Hardblank = omega arith

pub positive_not : (p : Rule) → rule_number p ≡ 0 → ⊥
positive_not p e = omega (arith, positive p)

no_bit : (n : ℕ) → (n % 2 ≡ 1 → ⊥) → n % 2 ≡ 0
no_bit n f = omega arith

-- of the rules' numbers, one is the rule's own
alone : (p : Rule) → cond (eqb 1 (rule_number p)) 1 0 + (cond (eqb 2 (rule_number p)) 2 0 + (cond (eqb 4 (rule_number p)) 4 0 + (cond (eqb 8 (rule_number p)) 8 0 + (cond (eqb 16 (rule_number p)) 16 0 + (cond (eqb 32 (rule_number p)) 32 0 + 0))))) ≡ rule_number p
alone EqualCharacter = refl
alone Underscore = refl
alone Hierarchy = refl
alone OppositePair = refl
alone BigX = refl
alone Hardblank = refl

module _ (h l r : ℕ) where
  -- the sum has one rule at most
  one_number : (p : Rule) (x : ℕ) → by_rule p h l r ≡ Some x → rules_joining h l r ≡ rule_number p
  unfolding rules_joining
  one_number p x e = rw (test EqualCharacter, test Underscore, test Hierarchy, test OppositePair, test BigX, test Hardblank) (alone p)
    where
      test : (q : Rule) → is_some (by_rule q h l r) ≡ eqb (rule_number q) (rule_number p)
      test q =
          same_test (is_some (by_rule q h l r)) (eqb (rule_number q) (rule_number p))
          (λ t. eq-eqb (rule_number q) (rule_number p) (ap rule_number (joined_by_only h l r q t ∙ sym (joined_by_only h l r p (is-some (by_rule p h l r) x e)))))
          (λ t. ap (λ (s : Rule). is_some (by_rule s h l r)) (same_number q p (eqb-true (rule_number q) (rule_number p) t)) ∙ is-some (by_rule p h l r) x e)

  no_number : ((p : Rule) → by_rule p h l r ≡ None) → rules_joining h l r ≡ 0
  unfolding rules_joining is_some
  no_number n = rw (n EqualCharacter, n Underscore, n Hierarchy, n OppositePair, n BigX, n Hardblank)

  module _ (set : ℕ) where
    -- what a set and the sum have in common: the number of the rule by which controlled smushing joins the pair, or nothing
    pub data Masked (n : ℕ) : Type 0 where
      ruled : (p : Rule) (x : ℕ) → n ≡ rule_number p → by_rule p h l r ≡ Some x → by p x ≡ controlled set h l r → Masked n
      unruled : n ≡ 0 → Unjoinable ≡ controlled set h l r → Masked n

    pub masked : Masked (bit_and set (rules_joining h l r))
    unfolding kept_by_set
    masked = go (by_any h l r)
      where
        kept_by : (p : Rule) (x : ℕ) → by_rule p h l r ≡ Some x → its_rule h l r ≡ by p x → (t : Bool) → in_set set p ≡ t → Masked (bit_and set (rules_joining h l r))
        kept_by p x e i true t =
            let bit = eqb-true (set / rule_number p % 2) 1 t in
            ruled p x (ap (bit_and set) (one_number p x e) ∙ (shared set p ∙ (ap (λ (b : ℕ). b * rule_number p) bit ∙ one-mul (rule_number p)))) e (sym (controlled-by set h l r p x t e))
        kept_by p x e i false t =
            let bit : set / rule_number p % 2 ≡ 0 = no_bit (set / rule_number p) (eqb-false (set / rule_number p % 2) 1 t) in
            unruled (ap (bit_and set) (one_number p x e) ∙ (shared set p ∙ (ap (λ (b : ℕ). b * rule_number p) bit ∙ zero-mul (rule_number p))))
            (sym (kept-all h l r set ∙ (ap (kept_by_set set) i ∙ rw t)))

        go : Tried every_rule h l r rules (its_rule h l r) → Masked (bit_and set (rules_joining h l r))
        go (joined p x w e i) = kept_by p x e i (in_set set p) refl
        go (unjoined n i) = unruled (ap (bit_and set) (no_number (λ p. n p (listed p) refl)) ∙ and_zero_r set) (sym (kept-all h l r set ∙ ap (kept_by_set set) i))

    -- whether they have anything in common
    pub mask_joins : not (eqb (bit_and set (rules_joining h l r)) 0) ≡ is_joined (controlled set h l r)
    mask_joins = go masked
      where
        go : Masked (bit_and set (rules_joining h l r)) → not (eqb (bit_and set (rules_joining h l r)) 0) ≡ is_joined (controlled set h l r)
        go (ruled p x m e j) = rw (ne_eqb (bit_and set (rules_joining h l r)) 0 (λ z. positive_not p (sym m ∙ z))) (ap is_joined j)
        go (unruled m j) = rw (eq-eqb (bit_and set (rules_joining h l r)) 0 m) (ap is_joined j)

    -- of a pair that joins, the byte is what its rule makes of it
    pub ruled_joint : (z : ℕ) → ((x : ℕ) (p : Rule) → by_rule p h l r ≡ Some x → z ≡ x) → is_joined (controlled set h l r) ≡ true → z ≡ byte_of (controlled set h l r)
    ruled_joint z f t = go masked
      where
        go : Masked (bit_and set (rules_joining h l r)) → z ≡ byte_of (controlled set h l r)
        go (ruled p x m e j) = f x p e ∙ ap byte_of j
        go (unruled m j) = absurd (never_both (is_joined (controlled set h l r)) t (sym (ap is_joined j)))
