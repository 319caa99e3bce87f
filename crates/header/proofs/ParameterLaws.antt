-- The parameters that the numbers of a text are, as the reader finds them one by one, and that a legal height is one of 1 to 32.
-- Assumes nothing.
use mathlib.Core.Path.{◌≡◌, refl, sym, ap, ◌∙◌}
use mathlib.Core.Bool.{Bool, true, false, ◌&&◌, false≢true}
use mathlib.Core.List.{List, [], ◌∷◌}
use Prim.Native.Nat.{ℕ, zero, suc, ◌≤◌, ◌<◌}
use native.Mathlib.Omega.{arith}
use lib.Dec.{T, leb}
use lib.IntN.{ℤ, pos, negsuc, nat_abs}
use lib.ListN.{length}
use lib.Signed.{non_neg}
use borrow.Author.Tests.{leb-true}
use Rattle.std.specs.Prelude.{Option, Some, None}
use Rattle.ground.proofs.Tests.{and_left, and_right}
use Rattle.ground.specs.Limits.{max_height, max_length_limit, max_rules, max_comment_lines, max_full_layout, max_direction}
use Rattle.lines.specs.Words.{first_word}
use Rattle.lines.specs.Numbers.{header_number, highest}
use Rattle.lines.specs.Numbers as Numbers
use Rattle.ground.specs.Runs as Runs
use Rattle.header.specs.declared.Parameters.{Parameters}
use Rattle.header.specs.Header.{numbers, parameter_numbers, parameter, parameters, min_old_layout, within, allowed, legal_parameters}
use Rattle.header.specs.Steps.{behind}

-- Under five numbers.
pub too_few : (zs : List ℤ) → length zs < 5 → None ≡ parameters zs
unfolding parameters
too_few [] h = refl
too_few (a ∷ []) h = refl
too_few (a ∷ b ∷ []) h = refl
too_few (a ∷ b ∷ c ∷ []) h = refl
too_few (a ∷ b ∷ c ∷ d ∷ []) h = refl
too_few (a ∷ b ∷ c ∷ d ∷ e ∷ zs) h = absurd (omega arith)

-- What a range with a lower bound of 0 or more says.
pub not_negative_lem : (k : ℕ) (high z : ℤ) → within (pos k) high z ≡ true → T (non_neg z)
unfolding within
not_negative_lem k high (pos n) e = tt
not_negative_lem k high (negsuc n) e = absurd (false≢true e)

-- What the reader finds at t: r is the number there, and u is what is left then.
pub record Next (t : List ℕ) (r : Option ℤ) (u : List ℕ) : Type 0 where
  pub number : r ≡ header_number (first_word t)
  pub rest : u ≡ behind r t

none_left : (k : ℕ) (t : List ℕ) → header_number (first_word t) ≡ None → numbers k t ≡ []
unfolding numbers
none_left zero t e = refl
none_left (suc k) t e = simp e

pub one_more : (k : ℕ) (t : List ℕ) (z : ℤ) (u : List ℕ) → Next t (Some z) u → numbers (suc k) t ≡ z ∷ numbers k u
unfolding numbers
one_more k t z u n = simp (sym n.number) (ap (λ (l : List ℕ). z ∷ numbers k l) (sym n.rest))

pub no_more : (k : ℕ) (t : List ℕ) (u : List ℕ) → Next t None u → numbers k t ≡ []
no_more k t u n = none_left k t (sym n.number)

none_of_nothing : (k : ℕ) → numbers k [] ≡ []
unfolding header_number Numbers.minus_length first_word Runs.run Numbers.number Numbers.are_digits
none_of_nothing k = none_left k [] refl

-- The number found is the first of those left, and a later one stands in what is left then.
module _ (k : ℕ) (t : List ℕ) where
  pub first_parameter : (r : Option ℤ) (u : List ℕ) → Next t r u → parameter 0 (numbers (suc k) t) ≡ r
  unfolding parameter
  first_parameter (Some z) u n = ap (parameter 0) (one_more k t z u n)
  first_parameter None u n = ap (parameter 0) (no_more (suc k) t u n)

  pub later_parameter : (j : ℕ) (r : Option ℤ) (u : List ℕ) → Next t r u → parameter (suc j) (numbers (suc k) t) ≡ parameter j (numbers k u)
  unfolding parameter
  later_parameter j (Some z) u n = ap (parameter (suc j)) (one_more k t z u n)
  later_parameter j None u n =
      ap (parameter (suc j)) (no_more (suc k) t u n) ∙ sym (ap (parameter j) (ap (numbers k) n.rest ∙ none_of_nothing k))

-- The numbers of a text t, one after the other: what is left after each of the five that are required, and the parameters then.
module _ (t : List ℕ) where
  pub no_height : (u : List ℕ) → Next t None u → None ≡ parameters (parameter_numbers t)
  unfolding parameter_numbers parameters
  no_height u n = sym (ap parameters (no_more 8 t u n))

  module _ (a : ℤ) (t1 : List ℕ) (n1 : Next t (Some a) t1) where
    one : parameter_numbers t ≡ a ∷ numbers 7 t1
    unfolding parameter_numbers
    one = one_more 7 t a t1 n1

    pub no_baseline : (u : List ℕ) → Next t1 None u → None ≡ parameters (parameter_numbers t)
    unfolding parameters
    no_baseline u n = sym (ap parameters (one ∙ ap (λ (l : List ℤ). a ∷ l) (no_more 7 t1 u n)))

    module _ (b : ℤ) (t2 : List ℕ) (n2 : Next t1 (Some b) t2) where
      two : parameter_numbers t ≡ a ∷ b ∷ numbers 6 t2
      two = one ∙ ap (λ (l : List ℤ). a ∷ l) (one_more 6 t1 b t2 n2)

      pub no_length : (u : List ℕ) → Next t2 None u → None ≡ parameters (parameter_numbers t)
      unfolding parameters
      no_length u n = sym (ap parameters (two ∙ ap (λ (l : List ℤ). a ∷ b ∷ l) (no_more 6 t2 u n)))

      module _ (c : ℤ) (t3 : List ℕ) (n3 : Next t2 (Some c) t3) where
        three : parameter_numbers t ≡ a ∷ b ∷ c ∷ numbers 5 t3
        three = two ∙ ap (λ (l : List ℤ). a ∷ b ∷ l) (one_more 5 t2 c t3 n3)

        pub no_layout : (u : List ℕ) → Next t3 None u → None ≡ parameters (parameter_numbers t)
        unfolding parameters
        no_layout u n = sym (ap parameters (three ∙ ap (λ (l : List ℤ). a ∷ b ∷ c ∷ l) (no_more 5 t3 u n)))

        module _ (d : ℤ) (t4 : List ℕ) (n4 : Next t3 (Some d) t4) where
          four : parameter_numbers t ≡ a ∷ b ∷ c ∷ d ∷ numbers 4 t4
          four = three ∙ ap (λ (l : List ℤ). a ∷ b ∷ c ∷ l) (one_more 4 t3 d t4 n4)

          pub no_comments : (u : List ℕ) → Next t4 None u → None ≡ parameters (parameter_numbers t)
          unfolding parameters
          no_comments u n = sym (ap parameters (four ∙ ap (λ (l : List ℤ). a ∷ b ∷ c ∷ d ∷ l) (no_more 4 t4 u n)))

          module _ (e : ℤ) (t5 : List ℕ) (n5 : Next t4 (Some e) t5) (f g h : Option ℤ) (t6 t7 t8 : List ℕ) (n6 : Next t5 f t6) (n7 : Next t6 g t7) (n8 : Next t7 h t8) where
            five : parameter_numbers t ≡ a ∷ b ∷ c ∷ d ∷ e ∷ numbers 3 t5
            five = four ∙ ap (λ (l : List ℤ). a ∷ b ∷ c ∷ d ∷ l) (one_more 3 t4 e t5 n5)

            -- the three that may be missing
            direction : parameter 0 (numbers 3 t5) ≡ f
            direction = first_parameter 2 t5 f t6 n6

            full : parameter 1 (numbers 3 t5) ≡ g
            full = later_parameter 2 t5 0 f t6 n6 ∙ first_parameter 1 t6 g t7 n7

            tags : parameter 2 (numbers 3 t5) ≡ h
            tags = later_parameter 2 t5 1 f t6 n6 ∙ later_parameter 1 t6 0 g t7 n7 ∙ first_parameter 0 t7 h t8 n8

            pub all_named : Some (record { height = a; baseline = b; max_length = c; old_layout = d; comment_lines = e; print_direction = f; full_layout = g; codetag_count = h }) ≡ parameters (parameter_numbers t)
            unfolding parameters
            all_named = sym (ap parameters five ∙ simp (direction, full, tags))

-- "Height 1 to 32."
abbrev pub High : ℕ → Type 0
High n = (1 ≤ n) × (n ≤ max_height)

-- the first of a chain of tests
first_test : (a b c d e f g h : Bool) → (a && b && c && d && e && f && g && h) ≡ true → a ≡ true
first_test true b c d e f g h t = refl
first_test false b c d e f g h t = t

pub high : (p : Parameters) → legal_parameters p ≡ true → High (nat_abs p.height)
unfolding within legal_parameters
high p e =
    by p.height
    (first_test (within (pos 1) (pos max_height) p.height) (within (pos 1) p.height p.baseline) (within (pos 1) (pos max_length_limit) p.max_length)
    (within min_old_layout (pos max_rules) p.old_layout) (within (pos 0) (pos max_comment_lines) p.comment_lines) (allowed (pos max_direction) p.print_direction)
    (allowed (pos max_full_layout) p.full_layout) (allowed highest p.codetag_count) e)
  where
    by : (z : ℤ) → within (pos 1) (pos max_height) z ≡ true → High (nat_abs z)
    by (pos n) t = (leb-true 1 n (and_left (leb 1 n) (leb n max_height) t), leb-true n max_height (and_right (leb 1 n) (leb n max_height) t))
    by (negsuc n) t = absurd (false≢true t)
