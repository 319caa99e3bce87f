-- A list of overlaps compared as the characters are drawn: one right overlap more, and what is known at the end.
-- Assumes nothing.
use mathlib.Core.Path.{◌≡◌, refl, sym, ◌∙◌, ap}
use mathlib.Core.Bool.{Bool, true, false, cond}
use mathlib.Core.List.{List, [], ◌∷◌, ◌++◌}
use Prim.Native.Nat.{ℕ, zero, suc, ◌+◌, ◌-◌, ◌≤◌, ◌<◌}
use native.Mathlib.Omega.{arith}
use lib.Dec.{eqb}
use lib.ListN.{length, get_or, take, drop, length-append, drop_of_length-le}
use lib.Seq.{drop-cons, take-length}
use borrow.Author.Tests.{eq-eqb, ne_eqb}
use Rattle.ground.specs.Refusals.{refusal, wrong_length}
use Rattle.std.specs.Prelude.{Option, Some, None, Ok, Err}
use Rattle.checking.specs.declared.Tally.{Tally}
use Rattle.checking.specs.Difference.{further, first_difference}
use Rattle.checking.specs.Verdict.{after_first, named, verdict}
use Rattle.checking.specs.Steps.{so_far, first_wrong_of, tallied}

-- n places further on
abbrev shifted : ℕ → Option ℕ → Option ℕ
shifted zero d = d
shifted (suc n) d = further (shifted n d)

shifted_same : (n : ℕ) → shifted n None ≡ None
shifted_same zero = refl
shifted_same (suc n) = ap further (shifted_same n)

shifted_first : (n : ℕ) → shifted n (Some 0) ≡ Some n
shifted_first zero = refl
shifted_first (suc n) = ap further (shifted_first n)

-- how two lists compare whose first n were compared, and then what is behind them
abbrev behind : Option ℕ → ℕ → Option ℕ → Option ℕ
behind None n d = shifted n d
behind (Some k) n d = Some k

behind-same : (c : Option ℕ) (n : ℕ) → behind c n None ≡ c
behind-same None n = shifted_same n
behind-same (Some k) n = refl

behind-first : (c : Option ℕ) (n : ℕ) → behind c n (Some 0) ≡ first_wrong_of c n
behind-first None n = shifted_first n
behind-first (Some k) n = refl

further-behind : (c : Option ℕ) (n : ℕ) (d : Option ℕ) → further (behind c n d) ≡ behind (further c) (suc n) d
further-behind None n d = refl
further-behind (Some k) n d = refl

module _ (x : ℕ) where
  one_more : (xs ys : List ℕ) → so_far (xs ++ (x ∷ [])) ys ≡ behind (so_far xs ys) (length xs) (first_difference (x ∷ []) (take 1 (drop (length xs) ys)))
  unfolding first_difference
  one_more [] ys = refl
  one_more (z ∷ zs) [] = refl
  one_more (z ∷ zs) (y ∷ ys) = go (so_far zs ys) (first_difference (x ∷ []) (take 1 (drop (length zs) ys))) (eqb z y) (one_more zs ys)
    where
      go : {a : Option ℕ} (c d : Option ℕ) (t : Bool) → a ≡ behind c (length zs) d → cond t (further a) (Some 0) ≡ behind (cond t (further c) (Some 0)) (suc (length zs)) d
      go c d true e = ap further e ∙ further-behind c (length zs) d
      go c d false e = refl

  -- a right overlap leaves what is known, and a wrong one, or one that the list has not, is named if it is the first
  module _ (xs ys : List ℕ) where
    next : {d : Option ℕ} → first_difference (x ∷ []) (take 1 (drop (length xs) ys)) ≡ d → behind (so_far xs ys) (length xs) d ≡ so_far (xs ++ (x ∷ [])) ys
    next {d} e = sym (one_more xs ys ∙ ap (behind (so_far xs ys) (length xs)) e)

    pub next_right : length xs < length ys → get_or ys (length xs) 0 ≡ x → so_far xs ys ≡ so_far (xs ++ (x ∷ [])) ys
    unfolding first_difference
    next_right l e = sym (behind-same (so_far xs ys) (length xs)) ∙ next (rw (drop-cons ys (length xs) 0 l) (simp (eq-eqb x (get_or ys (length xs) 0) (sym e))))

    pub next_wrong : length xs < length ys → (get_or ys (length xs) 0 ≡ x → ⊥) → first_wrong_of (so_far xs ys) (length xs) ≡ so_far (xs ++ (x ∷ [])) ys
    unfolding first_difference
    next_wrong l n = sym (behind-first (so_far xs ys) (length xs)) ∙ next (rw (drop-cons ys (length xs) 0 l) (simp (ne_eqb x (get_or ys (length xs) 0) (λ q. n (sym q)))))

    pub list_ended : length ys ≤ length xs → first_wrong_of (so_far xs ys) (length xs) ≡ so_far (xs ++ (x ∷ [])) ys
    unfolding first_difference
    list_ended l = sym (behind-first (so_far xs ys) (length xs)) ∙ next (rw (drop_of_length-le ys l))

-- One character more, with overlap o.
module _ (ys : List ℕ) (o : ℕ) where
  -- the first has none to compare
  pub first-tallied : (trace : List ℕ) → length trace ≡ 0 → record { drawn = 1; wrong = None } ≡ tallied ys (trace ++ (o ∷ []))
  unfolding first_difference
  first-tallied [] e = refl
  first-tallied (t ∷ ts) e = absurd (omega arith)

  pub next_tallied : (trace : List ℕ) (n : ℕ) (w : Option ℕ) → n ≡ length trace → (n ≡ 0 → ⊥) → w ≡ so_far (after_first trace ++ (o ∷ [])) ys → record { drawn = n + 1; wrong = w } ≡ tallied ys (trace ++ (o ∷ []))
  next_tallied [] n w e z s = absurd (z e)
  next_tallied (t ∷ ts) n w e z s =
      let many : n + 1 ≡ length ((t ∷ ts) ++ (o ∷ [])) = omega (arith, length-append (t ∷ ts) (o ∷ [])) in
      ap (λ (k : ℕ). record { drawn = k; wrong = w }) many ∙ ap (λ (c : Option ℕ). record { drawn = length ((t ∷ ts) ++ (o ∷ [])); wrong = c }) s

-- as many as the characters after the first
pub after_first_lem : (trace : List ℕ) → length (after_first trace) ≡ length trace - 1
after_first_lem [] = refl
after_first_lem (o ∷ os) = omega arith

-- in a list of the right length it is the first wrong overlap
all-tallied : (right overlaps : List ℕ) → length overlaps ≡ length right → so_far right overlaps ≡ first_difference right overlaps
all-tallied right overlaps e = ap (first_difference right) (ap (λ (n : ℕ). take n overlaps) (sym e) ∙ take-length overlaps)

-- The verdict, from what was tallied of the whole trace.
module _ (trace overlaps drawing figure : List ℕ) (tally : Tally) (so : tally ≡ tallied overlaps trace) where
  right_many : length (after_first trace) ≡ tally.drawn - 1
  right_many = after_first_lem trace ∙ ap (λ (t : Tally). t.drawn - 1) (sym so)

  pub tally_25 : (length overlaps ≡ tally.drawn - 1 → ⊥) → Err (refusal wrong_length 0) ≡ verdict (after_first trace) drawing overlaps figure
  unfolding verdict
  tally_25 n = rw (ne_eqb (length overlaps) (length (after_first trace)) (λ e. n (e ∙ right_many)))

  pub tally_judged : length overlaps ≡ tally.drawn - 1 → Ok (named tally.wrong (first_difference drawing figure)) ≡ verdict (after_first trace) drawing overlaps figure
  unfolding verdict
  tally_judged e =
      let same-many : length overlaps ≡ length (after_first trace) = e ∙ sym right_many in
      rw (eq-eqb (length overlaps) (length (after_first trace)) same-many)
      (ap (λ (w : Option ℕ). Ok (named w (first_difference drawing figure))) (ap (λ (t : Tally). t.wrong) so ∙ all-tallied (after_first trace) overlaps same-many))
