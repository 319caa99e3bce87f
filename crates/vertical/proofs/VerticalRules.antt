-- The laws of the vertical rules: blanks yield, which rules join which pairs, and what a larger set joins.
-- Assumes nothing.
use mathlib.Core.Path.{◌≡◌, refl, sym, ◌∙◌, ap, ap₂}
use mathlib.Core.Bool.{Bool, true, false, cond, ◌||◌, false≢true}
use mathlib.Core.List.{List, [], ◌∷◌, ◌++◌}
use mathlib.Core.Logic.{◌⊎◌, inl, inr, ⊎_elim}
use Rattle.std.specs.Prelude.{Option, Some, None, unwrap_or}
use Prim.Native.Nat.{ℕ, suc, ◌+◌, ◌/◌, ◌%◌}
use native.Mathlib.Omega.{arith}
use lib.Dec.{eqb}
use borrow.Author.Tests.{eq-eqb, ne_eqb, eqb-true}
use Rattle.ground.specs.Text.{byte}
use Rattle.ground.proofs.Tests.{or_left, or_right, or_elim, clash}
use Rattle.subchars.specs.declared.VerticalSmushing.TheVariants.{Universal, Controlled}
use Rattle.subchars.specs.declared.VerticalLayout.{VerticalLayout}
use Rattle.subchars.specs.declared.VerticalLayout.TheVariants.{FullHeight, Fitting, Smushing}
use Rattle.subchars.specs.Hardblank.{blank}
use Rattle.rules.specs.declared.Rule.{Rule}
use Rattle.rules.specs.declared.Rule.TheVariants as horizontal
use Rattle.rules.specs.Rules as horizontal-rules
use Rattle.rules.specs.Rules.{joined_if, or_else, is_some, equal_character, underscore, hierarchy, class_of, reads, either_order}
use Rattle.rules.proofs.Rules as horizontally
use Rattle.rules.proofs.Rules.{is-some, joined_if_lem, as_text}
use Rattle.vertical.specs.VerticalPair.{VerticalRule, EqualCharacter, Underscore, Hierarchy, HorizontalLine, VerticalLine, vertical_rules, set_has, horizontal_line, two_bars, rule_merges, first_merging, without_blank, merge, merges, merged_byte, barred, other_rules, EveryVerticalRuleOf}

abbrev pub controlled_by : ℕ → VerticalLayout
controlled_by set = Smushing (Controlled set)

-- ------------------------------------------------------------------ blanks

module _ (layout : VerticalLayout) (u l : ℕ) where
  upper_yields : u ≡ blank → merge layout u l ≡ Some l
  unfolding merge
  upper_yields e = rw (eq-eqb u blank e)

  lower_yields : l ≡ blank → merge layout u l ≡ Some u
  unfolding merge
  lower_yields e = rw (eq-eqb l blank e) (go (eqb u blank) refl)
    where
      go : (t : Bool) → eqb u blank ≡ t → cond t (Some l) (Some u) ≡ Some u
      go true s = let q : l ≡ u = e ∙ sym (eqb-true u blank s) in ap (λ (x : ℕ). Some x) q
      go false s = refl

  -- "A blank yields to its partner", in every layout.
  pub upper_blank : u ≡ blank → merged_byte layout u l ≡ l
  unfolding merged_byte
  upper_blank e = rw (upper_yields e)

  pub lower_blank : l ≡ blank → merged_byte layout u l ≡ u
  unfolding merged_byte
  lower_blank e = rw (lower_yields e)

  -- "A pair with a blank joins in every mode."
  pub upper_blank_merges : u ≡ blank → merges layout u l ≡ true
  unfolding merges is_some
  upper_blank_merges e = rw (upper_yields e)

  pub lower_blank_merges : l ≡ blank → merges layout u l ≡ true
  unfolding merges is_some
  lower_blank_merges e = rw (lower_yields e)

  -- every other pair is for the layout
  pub no_blank : (u ≡ blank → ⊥) → (l ≡ blank → ⊥) → merge layout u l ≡ without_blank layout u l
  unfolding merge
  no_blank m n = rw (ne_eqb u blank m, ne_eqb l blank n)

-- "Pairs with a blank or of two bars."
pub upper_blank_barred : (u l : ℕ) → u ≡ blank → barred u l ≡ true
unfolding barred
upper_blank_barred u l e = rw (eq-eqb u blank e)

pub lower_blank_barred : (u l : ℕ) → l ≡ blank → barred u l ≡ true
unfolding barred
lower_blank_barred u l e = or_left (eqb u blank || eqb l blank) (two_bars u l) (or_right (eqb u blank) (eqb l blank) (eq-eqb l blank e))

-- ------------------------------------------------------------------ full height, fitting, universal

-- Only smushing joins a pair without a blank.
pub full_height_merges : (u l : ℕ) → merges FullHeight u l ≡ (eqb u blank || eqb l blank)
unfolding merges merge is_some
full_height_merges u l = go (eqb u blank) (eqb l blank)
  where
    go : (s t : Bool) → is_some (cond s (Some l) (cond t (Some u) None)) ≡ (s || t)
    go true t = refl
    go false true = refl
    go false false = refl

pub fitting-merges : (u l : ℕ) → merges Fitting u l ≡ (eqb u blank || eqb l blank)
unfolding merges merge
fitting-merges u l = full_height_merges u l

-- Universal joins every pair.
pub universal-merges : (u l : ℕ) → merges (Smushing Universal) u l ≡ true
unfolding merges merge is_some
universal-merges u l = go (eqb u blank) (eqb l blank)
  where
    go : (s t : Bool) → is_some (cond s (Some l) (cond t (Some u) (Some l))) ≡ true
    go true t = refl
    go false true = refl
    go false false = refl

-- "For universal the lower block is the later one": the lower one stands, unless it is a blank.
pub universal_lower_stands : (u l : ℕ) → (l ≡ blank → ⊥) → merged_byte (Smushing Universal) u l ≡ l
unfolding merged_byte merge
universal_lower_stands u l n = rw (ne_eqb l blank n) (go (eqb u blank))
  where
    go : (t : Bool) → unwrap_or (cond t (Some l) (Some l)) 0 ≡ l
    go true = refl
    go false = refl

-- ------------------------------------------------------------------ no pair is joined by two of the four

-- which horizontal rule a vertical one is, and back
abbrev across : VerticalRule → Rule
across EqualCharacter = horizontal.EqualCharacter
across Underscore = horizontal.Underscore
across Hierarchy = horizontal.Hierarchy
across HorizontalLine = horizontal.BigX
across VerticalLine = horizontal.BigX

abbrev back : Rule → VerticalRule
back horizontal.EqualCharacter = EqualCharacter
back horizontal.Underscore = Underscore
back horizontal.Hierarchy = Hierarchy
back horizontal.OppositePair = VerticalLine
back horizontal.BigX = VerticalLine
back horizontal.Hardblank = VerticalLine

-- a hyphen and an underscore are for 2048
abbrev OnlyLine : ℕ → ℕ → Type 0
OnlyLine u l = (p : VerticalRule) (x : ℕ) → rule_merges p u l ≡ Some x → p ≡ HorizontalLine

only_line : OnlyLine (byte "-") (byte "_")
unfolding joined_if or_else equal_character underscore hierarchy class_of two_bars
only_line EqualCharacter y e = clash cc
only_line Underscore y e = clash cc
only_line Hierarchy y e = clash cc
only_line HorizontalLine y e = refl
only_line VerticalLine y e = clash cc

only_line' : OnlyLine (byte "_") (byte "-")
unfolding joined_if or_else equal_character underscore hierarchy class_of two_bars
only_line' EqualCharacter y e = clash cc
only_line' Underscore y e = clash cc
only_line' Hierarchy y e = clash cc
only_line' HorizontalLine y e = refl
only_line' VerticalLine y e = clash cc

line_only : (u l x : ℕ) → horizontal_line u l ≡ Some x → OnlyLine u l
unfolding horizontal_line
line_only u l x e =
    or_elim (reads "-_" u l) (reads "-_" l u) (joined_if_lem (either_order "-_" u l) (byte "=") (is-some _ x e))
    (as_text OnlyLine (byte "-") (byte "_") only_line u l)
    (as_text (λ (b a : ℕ). OnlyLine a b) (byte "-") (byte "_") only_line' l u)

module _ (u l : ℕ) where
  -- a hardblank that neither of the two is
  abbrev other : ℕ
  other = suc (u + l)

  seen : (o : Option ℕ) → horizontal-rules.unless_hardblank other u l o ≡ o
  seen o = rw (ne_eqb u other (λ e. omega arith), ne_eqb l other (λ e. omega arith))

  -- one of the four is 2048, or a horizontal rule
  which : (p : VerticalRule) (x : ℕ) → (p ≡ VerticalLine → ⊥) → rule_merges p u l ≡ Some x → (p ≡ HorizontalLine) ⊎ ((horizontal-rules.by_rule (across p) other u l ≡ Some x) × (p ≡ back (across p)))
  which EqualCharacter x i a = inr (seen (equal_character u l) ∙ a, refl)
  which Underscore x i a = inr (seen (underscore u l) ∙ a, refl)
  which Hierarchy x i a = inr (seen (hierarchy u l) ∙ a, refl)
  which HorizontalLine x i a = inl refl
  which VerticalLine x i a = absurd (i refl)

  same_line : (p q : VerticalRule) (x y : ℕ) → p ≡ HorizontalLine → rule_merges p u l ≡ Some x → rule_merges q u l ≡ Some y → p ≡ q
  same_line p q x y e a b = e ∙ sym (line_only u l x (rw e at a) q y b)

  -- "No pair is joined by two of the four": those but 4096.
  pub no_two_rules : (p q : VerticalRule) (x y : ℕ) → (p ≡ VerticalLine → ⊥) → (q ≡ VerticalLine → ⊥) → rule_merges p u l ≡ Some x → rule_merges q u l ≡ Some y → p ≡ q
  no_two_rules p q x y i j a b =
      ⊎_elim (λ e. same_line p q x y e a b)
      (λ v.
      ⊎_elim (λ e. sym (same_line q p y x e b a))
      (λ w. v.1 ∙ (ap back (horizontally.one_rule other u l (across p) (across q) x y v.0 w.0) ∙ sym w.1))
      (which q y j b))
      (which p x i a)

-- ------------------------------------------------------------------ the rules of a list

else_second : (a b : Option ℕ) → is_some b ≡ true → is_some (or_else a b) ≡ true
unfolding or_else is_some
else_second (Some x) b e = refl
else_second None b e = e

else_assoc : (a b c : Option ℕ) → or_else (or_else a b) c ≡ or_else a (or_else b c)
unfolding or_else
else_assoc (Some x) b c = refl
else_assoc None b c = refl

else_none : (a : Option ℕ) → or_else a None ≡ a
unfolding or_else
else_none (Some x) = refl
else_none None = refl

module _ (wanted : VerticalRule → Bool) (u l : ℕ) where
  -- the rules of one list are tried before those of the next
  pub first-append : (rs more : List VerticalRule) → first_merging wanted (rs ++ more) u l ≡ or_else (first_merging wanted rs u l) (first_merging wanted more u l)
  unfolding or_else
  first-append [] more = refl
  first-append (rule ∷ rs) more =
      ap (or_else (cond (wanted rule) (rule_merges rule u l) None)) (first-append rs more) ∙ sym (else_assoc (cond (wanted rule) (rule_merges rule u l) None) _ _)

module _ (v w : VerticalRule → Bool) (u l : ℕ) where
  first_more : ((rule : VerticalRule) → v rule ≡ true → w rule ≡ true) → (rs : List VerticalRule) → is_some (first_merging v rs u l) ≡ true → is_some (first_merging w rs u l) ≡ true
  unfolding or_else is_some
  first_more more [] e = e
  first_more more (rule ∷ rs) e = go (v rule) refl (rule_merges rule u l) refl e (first_more more rs)
    where
      rest : Option ℕ
      rest = first_merging w rs u l

      go : (t : Bool) → v rule ≡ t → (o : Option ℕ) → rule_merges rule u l ≡ o → is_some (or_else (cond t o None) (first_merging v rs u l)) ≡ true → (is_some (first_merging v rs u l) ≡ true → is_some rest ≡ true) → is_some (or_else (cond (w rule) (rule_merges rule u l) None) rest) ≡ true
      go true a (Some x) b e old = rw (more rule a, b)
      go true a None b e old = else_second (cond (w rule) (rule_merges rule u l) None) rest (old e)
      go false a o b e old = else_second (cond (w rule) (rule_merges rule u l) None) rest (old e)

-- ------------------------------------------------------------------ sets of rules

-- "If one controlled set has every rule of another": it joins every pair that the other joins.
pub more-rules : (p q : ℕ) → EveryVerticalRuleOf p q → (u l : ℕ) → merges (controlled_by p) u l ≡ true → merges (controlled_by q) u l ≡ true
unfolding merges merge is_some
more-rules p q w u l = go (eqb u blank) (eqb l blank)
  where
    go : (s t : Bool) → is_some (cond s (Some l) (cond t (Some u) (first_merging (set_has p) vertical_rules u l))) ≡ true → is_some (cond s (Some l) (cond t (Some u) (first_merging (set_has q) vertical_rules u l))) ≡ true
    go true t e = refl
    go false true e = refl
    go false false e = first_more (set_has p) (set_has q) u l w vertical_rules e

-- ------------------------------------------------------------------ "the other rules"

-- the four but 4096
abbrev four : List VerticalRule
four = EqualCharacter ∷ Underscore ∷ Hierarchy ∷ HorizontalLine ∷ []

module _ (set : ℕ) where
  -- "The other rules" have no 4096 ..
  pub others_without_4096 : set_has (other_rules set) VerticalLine ≡ false
  others_without_4096 = let e : other_rules set / 4096 % 2 ≡ 0 = omega arith in ap (λ (x : ℕ). eqb x 1) e

  -- .. and are the rest of the set.
  pub others_equal : (rule : VerticalRule) → (rule ≡ VerticalLine → ⊥) → set_has (other_rules set) rule ≡ set_has set rule
  others_equal EqualCharacter n = let e : other_rules set / 256 % 2 ≡ set / 256 % 2 = omega arith in ap (λ (x : ℕ). eqb x 1) e
  others_equal Underscore n = let e : other_rules set / 512 % 2 ≡ set / 512 % 2 = omega arith in ap (λ (x : ℕ). eqb x 1) e
  others_equal Hierarchy n = let e : other_rules set / 1024 % 2 ≡ set / 1024 % 2 = omega arith in ap (λ (x : ℕ). eqb x 1) e
  others_equal HorizontalLine n = let e : other_rules set / 2048 % 2 ≡ set / 2048 % 2 = omega arith in ap (λ (x : ℕ). eqb x 1) e
  others_equal VerticalLine n = absurd (n refl)

  pub others_in : (rule : VerticalRule) → set_has (other_rules set) rule ≡ true → set_has set rule ≡ true
  others_in EqualCharacter e = sym (others_equal EqualCharacter (λ z. clash cc)) ∙ e
  others_in Underscore e = sym (others_equal Underscore (λ z. clash cc)) ∙ e
  others_in Hierarchy e = sym (others_equal Hierarchy (λ z. clash cc)) ∙ e
  others_in HorizontalLine e = sym (others_equal HorizontalLine (λ z. clash cc)) ∙ e
  others_in VerticalLine e = absurd (false≢true (sym others_without_4096 ∙ e))

  -- The set joins what the other rules join.
  pub other_rules_merge : (u l : ℕ) → merges (controlled_by (other_rules set)) u l ≡ true → merges (controlled_by set) u l ≡ true
  other_rules_merge = more-rules (other_rules set) set others_in

-- ------------------------------------------------------------------ two bars

nothing : (t : Bool) → ◌≡◌ {A = Option ℕ} (cond t None None) None
nothing true = refl
nothing false = refl

-- Two bars are for 256 and 4096 alone, and become a bar.
pub two_bars_lem : (set u l : ℕ) → two_bars u l ≡ true → merge (controlled_by set) u l ≡ joined_if (set_has set EqualCharacter || set_has set VerticalLine) (byte "|")
unfolding two_bars merge joined_if or_else equal_character underscore hierarchy class_of horizontal_line
two_bars_lem set = as_text (λ (u l : ℕ). merge (controlled_by set) u l ≡ joined_if (set_has set EqualCharacter || set_has set VerticalLine) (byte "|")) (byte "|") (byte "|") bars
  where
    go : (a b : Bool) → or_else (cond a (Some (byte "|")) None) (or_else (cond b (Some (byte "|")) None) None) ≡ cond (a || b) (Some (byte "|")) None
    go true b = refl
    go false true = refl
    go false false = refl

    bars : merge (controlled_by set) (byte "|") (byte "|") ≡ joined_if (set_has set EqualCharacter || set_has set VerticalLine) (byte "|")
    bars = rw (nothing (set_has set Underscore), nothing (set_has set Hierarchy), nothing (set_has set HorizontalLine)) (go (set_has set EqualCharacter) (set_has set VerticalLine))

module _ (set u l : ℕ) where
  -- "Two bars there need 256": of the other rules only 256 joins two bars.
  pub bars_need_256 : two_bars u l ≡ true → merges (controlled_by (other_rules set)) u l ≡ set_has set EqualCharacter
  unfolding merges is_some joined_if
  bars_need_256 e =
      ap is_some (two_bars_lem (other_rules set) u l e)
      ∙ (ap₂ (λ (a b : Bool). is_some (joined_if (a || b) (byte "|"))) (others_equal set EqualCharacter (λ z. clash cc)) (others_without_4096 set) ∙ go (set_has set EqualCharacter))
    where
      go : (t : Bool) → is_some (joined_if (t || false) (byte "|")) ≡ t
      go true = refl
      go false = refl

  -- "Two bars become a bar": a set with 4096 makes them one.
  bars_are : set_has set VerticalLine ≡ true → two_bars u l ≡ true → merge (controlled_by set) u l ≡ Some (byte "|")
  unfolding joined_if
  bars_are i e = two_bars_lem set u l e ∙ ap (λ (t : Bool). joined_if t (byte "|")) (or_right (set_has set EqualCharacter) (set_has set VerticalLine) i)

  pub bars_become_a_bar : set_has set VerticalLine ≡ true → two_bars u l ≡ true → merged_byte (controlled_by set) u l ≡ byte "|"
  unfolding merged_byte
  bars_become_a_bar i e = rw (bars_are i e)

  -- "Faces only pairs with a blank or of two bars": a set with 4096 joins each of them.
  pub barred-merges : set_has set VerticalLine ≡ true → barred u l ≡ true → merges (controlled_by set) u l ≡ true
  unfolding barred merges is_some
  barred-merges i e =
      or_elim (eqb u blank || eqb l blank) (two_bars u l) e
      (λ b. or_elim (eqb u blank) (eqb l blank) b
      (λ t. upper_blank_merges (controlled_by set) u l (eqb-true u blank t))
      (λ t. lower_blank_merges (controlled_by set) u l (eqb-true l blank t)))
      bars
    where
      bars : two_bars u l ≡ true → merges (controlled_by set) u l ≡ true
      bars t = rw (bars_are i t)

  -- Of any other pair 4096 makes nothing: what it becomes, it becomes by the other rules.
  pub other_pairs : two_bars u l ≡ false → merge (controlled_by set) u l ≡ merge (controlled_by (other_rules set)) u l
  unfolding merge joined_if or_else
  other_pairs e =
      ap (λ (o : Option ℕ). cond (eqb u blank) (Some l) (cond (eqb l blank) (Some u) o)) (without set ∙ (sym same ∙ sym (without (other_rules set))))
    where
      never : (t : Bool) → or_else (cond t (joined_if false (byte "|")) None) None ≡ None
      never true = refl
      never false = refl

      last : (s : ℕ) → first_merging (set_has s) (VerticalLine ∷ []) u l ≡ None
      last s = rw e (never (set_has s VerticalLine))

      without : (s : ℕ) → first_merging (set_has s) vertical_rules u l ≡ first_merging (set_has s) four u l
      without s = first-append (set_has s) u l four (VerticalLine ∷ []) ∙ (ap (or_else (first_merging (set_has s) four u l)) (last s) ∙ else_none _)

      same : first_merging (set_has (other_rules set)) four u l ≡ first_merging (set_has set) four u l
      same =
          rw (others_equal set EqualCharacter (λ z. clash cc), others_equal set Underscore (λ z. clash cc), others_equal set Hierarchy (λ z. clash cc), others_equal set HorizontalLine (λ z. clash cc))

  -- The byte of a pair that the other rules join is theirs, with 4096 or without.
  pub other_rules_byte : merges (controlled_by (other_rules set)) u l ≡ true → merged_byte (controlled_by set) u l ≡ merged_byte (controlled_by (other_rules set)) u l
  unfolding merged_byte joined_if
  other_rules_byte m = go (two_bars u l) refl
    where
      by_256 : (s : ℕ) → set_has s EqualCharacter ≡ true → two_bars u l ≡ true → merge (controlled_by s) u l ≡ Some (byte "|")
      by_256 s i e = two_bars_lem s u l e ∙ rw i

      go : (t : Bool) → two_bars u l ≡ t → unwrap_or (merge (controlled_by set) u l) 0 ≡ unwrap_or (merge (controlled_by (other_rules set)) u l) 0
      go true e =
          let i = sym (bars_need_256 e) ∙ m in
          ap (λ (o : Option ℕ). unwrap_or o 0) (by_256 set i e ∙ sym (by_256 (other_rules set) (others_equal set EqualCharacter (λ z. clash cc) ∙ i) e))
      go false e = ap (λ (o : Option ℕ). unwrap_or o 0) (other_pairs e)

-- ------------------------------------------------------------------ a hyphen and an underscore

-- "It does not matter which is found above the other."
pub hyphen_above : (set : ℕ) → set_has set HorizontalLine ≡ true → merge (controlled_by set) (byte "-") (byte "_") ≡ Some (byte "=")
unfolding merge joined_if or_else equal_character underscore hierarchy class_of horizontal_line
hyphen_above set i = rw (nothing (set_has set EqualCharacter), nothing (set_has set Underscore), nothing (set_has set Hierarchy), i)

pub underscore-above : (set : ℕ) → set_has set HorizontalLine ≡ true → merge (controlled_by set) (byte "_") (byte "-") ≡ Some (byte "=")
unfolding merge joined_if or_else equal_character underscore hierarchy class_of horizontal_line
underscore-above set i = rw (nothing (set_has set EqualCharacter), nothing (set_has set Underscore), nothing (set_has set Hierarchy), i)
