-- The vertical decision by the horizontal one: blanks, universal smushing and the shared rules are those of a pair side by side, with blank for the
-- hardblank; the rules for lines follow.
-- Assumes nothing.
use mathlib.Core.Path.{◌≡◌, refl, sym, ◌∙◌, ap, ap₂}
use mathlib.Core.Logic.{◌⊎◌, inl, inr}
use mathlib.Core.Bool.{Bool, true, false, cond, ◌&&◌}
use Rattle.std.specs.Prelude.{Option, Some, None}
use Prim.Native.Nat.{ℕ, ◌/◌, ◌%◌}
use native.Mathlib.Omega.{arith}
use lib.Dec.{eqb}
use borrow.Author.Tests.{ne_eqb, eqb-false}
use Rattle.ground.specs.Text.{byte}
use Rattle.ground.proofs.Tests.{or_left}
use Rattle.subchars.specs.declared.Direction.TheVariants.{LeftToRight}
use Rattle.subchars.specs.declared.SubCharacter.{SubCharacter}
use Rattle.subchars.specs.declared.Layout.{Layout}
use Rattle.subchars.specs.declared.VerticalSmushing.TheVariants.{Universal, Controlled}
use Rattle.subchars.specs.declared.VerticalLayout.{VerticalLayout}
use Rattle.subchars.specs.declared.VerticalLayout.TheVariants.{FullHeight, Fitting, Smushing}
use Rattle.subchars.specs.Layouts.{has}
use Rattle.subchars.specs.Hardblank.{blank}
use Rattle.rules.specs.declared.Rule.{Rule}
use Rattle.rules.specs.declared.Rule.TheVariants as horizontal
use Rattle.rules.specs.Rules.{joined_if, or_else, equal_character, underscore, hierarchy, opposite_pair, big_x, unless_hardblank, reads, either_order}
use Rattle.pairs.specs.declared.Joint.{Joint}
use Rattle.pairs.specs.declared.Joint.TheVariants.{ByBlank, ByUniversal, ByRule, Unjoinable}
use Rattle.pairs.specs.Pair as horizontal-pair
use Rattle.pairs.specs.Pair.{joined_by, controlled, universal, joint}
use Rattle.vertical.specs.VerticalPair.{set_has, two_bars, first_merging, without_blank, merge, barred}
use Rattle.vertical.specs.Steps.{shared_sum, sideways_layout, sideways, rules_of, shared_rules, line_rules}
use Rattle.vertical.proofs.VerticalRules.{first-append}

-- ------------------------------------------------------------------ the shared rules

-- what a joint makes of its pair
abbrev pub made_of : Joint → Option ℕ
made_of (ByBlank x) = Some x.0
made_of (ByUniversal x) = Some x.0
made_of (ByRule rule x) = Some x.0
made_of Unjoinable = None

step : (rule : Rule) (o : Option ℕ) (next : Joint) → made_of (joined_by rule o next) ≡ or_else o (made_of next)
unfolding or_else
step rule (Some x) next = refl
step rule None next = refl

module _ (u l : ℕ) (first : u ≡ blank → ⊥) (second : l ≡ blank → ⊥) where
  module _ (set : ℕ) where
    abbrev low : ℕ
    low = shared_sum set

    seen : (o : Option ℕ) → unless_hardblank blank u l o ≡ o
    seen o = rw (ne_eqb u blank first, ne_eqb l blank second)

    wanted : (m n : ℕ) (o : Option ℕ) → m ≡ n → cond (eqb m 1) (unless_hardblank blank u l o) None ≡ cond (eqb n 1) o None
    wanted m n o e = ap₂ (λ (x : ℕ) (y : Option ℕ). cond (eqb x 1) y None) e (seen o)

    out : (n : ℕ) → n ≡ 0 → eqb (n % 2) 1 ≡ false
    out n e = rw e

    -- the set has no rule but the first three
    rest : made_of (joined_by horizontal.OppositePair (cond (has low 8) (unless_hardblank blank u l (opposite_pair u l)) None) (joined_by horizontal.BigX (cond (has low 16) (unless_hardblank blank u l (big_x u l)) None) (joined_by horizontal.Hardblank (cond (has low 32) (joined_if (eqb u blank && eqb l blank) blank) None) Unjoinable))) ≡ None
    rest = rw (out (low / 8) (omega arith), out (low / 16) (omega arith), out (low / 32) (omega arith))

    -- "Same as horizontal smushing rule 1", "2", "3"
    three : made_of (controlled low blank u l) ≡ first_merging (set_has set) shared_rules u l
    unfolding controlled
    three =
        step _ _ _ ∙ ap₂ or_else (wanted _ _ (equal_character u l) e1)
        (step _ _ _ ∙ ap₂ or_else (wanted _ _ (underscore u l) e2)
        (step _ _ _ ∙ ap₂ or_else (wanted _ _ (hierarchy u l) e4) rest))
      where
        e1 : low / 1 % 2 ≡ set / 256 % 2
        e1 = omega arith

        e2 : low / 2 % 2 ≡ set / 512 % 2
        e2 = omega arith

        e4 : low / 4 % 2 ≡ set / 1024 % 2
        e4 = omega arith

    by-rules : or_else (made_of (controlled low blank u l)) (first_merging (set_has set) line_rules u l) ≡ without_blank (Smushing (Controlled set)) u l
    by-rules = ap (λ (o : Option ℕ). or_else o (first_merging (set_has set) line_rules u l)) three ∙ sym (first-append (set_has set) u l shared_rules line_rules)

  by_layout : (layout : VerticalLayout) → or_else (made_of (horizontal-pair.without_blank (sideways_layout layout) LeftToRight blank u l)) (first_merging (set_has (rules_of layout)) line_rules u l) ≡ without_blank layout u l
  unfolding or_else universal
  by_layout FullHeight = refl
  by_layout Fitting = refl
  by_layout (Smushing Universal) = rw (ne_eqb u blank first, ne_eqb l blank second)
  by_layout (Smushing (Controlled set)) = by-rules set

module _ (layout : VerticalLayout) (u l : ℕ) where
  abbrev behind : Option ℕ
  behind = first_merging (set_has (rules_of layout)) line_rules u l

  -- what a pair becomes: by the horizontal decision, and if that does not join it, by the rules for lines
  by-sideways : or_else (made_of (joint (sideways (sideways_layout layout)) u l)) behind ≡ merge layout u l
  unfolding joint merge or_else
  by-sideways = go (eqb u blank) refl (eqb l blank) refl
    where
      go : (s : Bool) → eqb u blank ≡ s → (t : Bool) → eqb l blank ≡ t → or_else (made_of (cond s (ByBlank (record { 0 = l })) (cond t (ByBlank (record { 0 = u })) (horizontal-pair.without_blank (sideways_layout layout) LeftToRight blank u l)))) behind ≡ cond s (Some l) (cond t (Some u) (without_blank layout u l))
      go true e t f = refl
      go false e true f = refl
      go false e false f = by_layout u l (eqb-false u blank e) (eqb-false l blank f) layout

  -- .. as the code finds it
  module _ (y : Layout) (q : y ≡ sideways_layout layout) where
    found : (j : Joint) → j ≡ joint (sideways y) u l → or_else (made_of j) behind ≡ merge layout u l
    found j e = ap (λ (i : Joint). or_else (made_of i) behind) e ∙ (ap (λ (z : Layout). or_else (made_of (joint (sideways z) u l)) behind) q ∙ by-sideways)

    pub by_joint : (j : Joint) (x : SubCharacter) → (j ≡ ByBlank x) ⊎ ((j ≡ ByUniversal x) ⊎ ((rule : Rule) × (j ≡ ByRule rule x))) → j ≡ joint (sideways y) u l → Some x.0 ≡ merge layout u l
    unfolding or_else
    by_joint j x (inl e) f = found _ (sym e ∙ f)
    by_joint j x (inr (inl e)) f = found _ (sym e ∙ f)
    by_joint j x (inr (inr (rule, e))) f = found _ (sym e ∙ f)

    pub by_lines : (o : Option ℕ) → Unjoinable ≡ joint (sideways y) u l → o ≡ behind → o ≡ merge layout u l
    unfolding or_else
    by_lines o e f = f ∙ found Unjoinable e

-- ------------------------------------------------------------------ the two pairs of the rules for lines, as they are tested

-- a pair reads as a text of two
read : (a b u l : ℕ) → (eqb u a && eqb l b) ≡ (eqb u a && (eqb l b && true))
read a b u l = ap (◌&&◌ (eqb u a)) (go (eqb l b))
  where
    go : (t : Bool) → t ≡ (t && true)
    go true = refl
    go false = refl

module _ (u l : ℕ) where
  abbrev pub hyphen_above_lem : Bool
  hyphen_above_lem = eqb u (byte "-") && eqb l (byte "_")

  abbrev pub hyphen_below : Bool
  hyphen_below = eqb l (byte "-") && eqb u (byte "_")

  pub tested_above : hyphen_above_lem ≡ true → true ≡ either_order "-_" u l
  tested_above e = sym (or_left (reads "-_" u l) (reads "-_" l u) (sym (read (byte "-") (byte "_") u l) ∙ e))

  pub tested_below : hyphen_above_lem ≡ false → hyphen_below ≡ either_order "-_" u l
  tested_below e = rw (sym (read (byte "-") (byte "_") u l) ∙ e) (read (byte "-") (byte "_") l u)

  pub both_bars : (eqb u (byte "|") && eqb l (byte "|")) ≡ two_bars u l
  unfolding two_bars
  both_bars = read (byte "|") (byte "|") u l

  -- a pair without a blank is barred if it is of two bars
  pub barred_bars : (u ≡ blank → ⊥) → (l ≡ blank → ⊥) → two_bars u l ≡ barred u l
  unfolding barred
  barred_bars m n = rw (ne_eqb u blank m, ne_eqb l blank n)
