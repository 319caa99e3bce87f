-- What the rule that joins a pair makes of it, case by case of the code's tests.
-- Assumes nothing.
use mathlib.Core.Path.{◌≡◌, refl, sym, ◌∙◌, ap}
use mathlib.Core.Bool.{Bool, true, false, cond, ◌&&◌, ◌||◌, and-true}
use Rattle.std.specs.Prelude.{Option, Some, None}
use Prim.Native.Nat.{ℕ, ◌<◌}
use native.Mathlib.Omega.{arith}
use lib.Dec.{eqb, ltb}
use borrow.Author.Tests.{eq-eqb, ne_eqb, eqb-true, eqb-false, le-ltb}
use Rattle.ground.specs.Text.{byte, among}
use Rattle.ground.proofs.Tests.{and_left, and_right, and_right_false, never_both, clash}
use Rattle.rules.specs.declared.Rule.{Rule}
use Rattle.rules.specs.declared.Rule.TheVariants.{EqualCharacter, Underscore, Hierarchy, OppositePair, BigX, Hardblank}
use Rattle.rules.specs.declared.Mark.{Mark}
use Rattle.rules.specs.Rules.{eleven, joined_if, or_else, is_some, equal_character, yields, underscore, class_of, earlier, hierarchy, opposite, opposite_pair, big_x, unless_hardblank, by_rule, rule_number}
use Rattle.rules.specs.Marks.{Marked}
use Rattle.rules.proofs.Rules.{is-some, joined_if_lem, joined_or, one_rule, two_classes, opposite_cases, big_x_cases}

-- ------------------------------------------------------------------ what is left of a definition by a test

or_nothing : (t : Bool) (x : ℕ) → or_else (joined_if t x) None ≡ joined_if t x
unfolding or_else joined_if
or_nothing true x = refl
or_nothing false x = refl

-- the byte of a rule that has one test
its_byte : (t : Bool) (y x : ℕ) → joined_if t y ≡ Some x → y ≡ x
unfolding joined_if
its_byte true y x e = cc
its_byte false y x e = clash cc

-- the byte of a rule that has two, where one fails
first_byte : (s t : Bool) (y z x : ℕ) → t ≡ false → or_else (joined_if s y) (joined_if t z) ≡ Some x → y ≡ x
unfolding or_else joined_if
first_byte true t y z x f e = cc
first_byte false true y z x f e = clash cc
first_byte false false y z x f e = clash cc

second-byte : (s t : Bool) (y z x : ℕ) → s ≡ false → or_else (joined_if s y) (joined_if t z) ≡ Some x → z ≡ x
unfolding or_else joined_if
second-byte true t y z x f e = clash cc
second-byte false true y z x f e = cc
second-byte false false y z x f e = clash cc

-- ------------------------------------------------------------------ the rule of a number

abbrev numbered : ℕ → Rule
numbered n =
    cond (eqb n 1) EqualCharacter
    (cond (eqb n 2) Underscore (cond (eqb n 4) Hierarchy (cond (eqb n 8) OppositePair (cond (eqb n 16) BigX Hardblank))))

numbered_by : (p : Rule) → numbered (rule_number p) ≡ p
numbered_by EqualCharacter = refl
numbered_by Underscore = refl
numbered_by Hierarchy = refl
numbered_by OppositePair = refl
numbered_by BigX = refl
numbered_by Hardblank = refl

pub same_number : (p q : Rule) → rule_number p ≡ rule_number q → p ≡ q
same_number p q e = sym (numbered_by p) ∙ (ap numbered e ∙ numbered_by q)

-- ------------------------------------------------------------------ a pair that a rule joins

module _ (h l r : ℕ) where
  -- a rule for visible sub-characters makes the same of them whatever the hardblank is
  visibly : (o : Option ℕ) (x : ℕ) → unless_hardblank h l r o ≡ Some x → o ≡ Some x
  visibly o x = go (eqb l h) (eqb r h)
    where
      go : (a b : Bool) → cond (a || b) None o ≡ Some x → o ≡ Some x
      go true b e = clash cc
      go false true e = clash cc
      go false false e = e

module _ (h l r x : ℕ) (p : Rule) (joins : by_rule p h l r ≡ Some x) where
  -- another rule that joins the pair is the same, and makes the same of it
  alike-byte : (q : Rule) (y : ℕ) → by_rule q h l r ≡ Some y → y ≡ x
  alike-byte q y e =
      let same : q ≡ p = one_rule h l r q p y x e joins in
      let value : Some y ≡ Some x = sym e ∙ (ap (λ (t : Rule). by_rule t h l r) same ∙ joins) in
      cc

  -- equal sub-characters give themselves, as two hardblanks do
  pub of_equal : l ≡ r → l ≡ x
  unfolding equal_character joined_if
  of_equal e = go (eqb l h) refl
    where
      go : (t : Bool) → eqb l h ≡ t → l ≡ x
      go true t = eqb-true l h t ∙ alike-byte Hardblank h (rw (t, sym (ap (λ (y : ℕ). eqb y h) e) ∙ t))
      go false t = alike-byte EqualCharacter l (rw (t, sym (ap (λ (y : ℕ). eqb y h) e) ∙ t, eq-eqb l r e))

  -- an underscore yields
  by-underscore : rule_number p ≡ 2 → underscore l r ≡ Some x
  by-underscore n = visibly h l r (underscore l r) x (ap (λ (q : Rule). by_rule q h l r) (same_number Underscore p (sym n)) ∙ joins)

  left_stands : rule_number p ≡ 2 → r ≡ byte "_" → l ≡ x
  unfolding underscore
  left_stands n e =
      second-byte (yields l r) (yields r l) r l x (and_right_false (eqb l (byte "_")) (among eleven r) (ap (among eleven) e)) (by-underscore n)

  right_stands : rule_number p ≡ 2 → (r ≡ byte "_" → ⊥) → r ≡ x
  unfolding underscore
  right_stands n f = first_byte (yields l r) (yields r l) r l x (rw (ne_eqb r (byte "_") f)) (by-underscore n)

  -- rule 2 makes nothing of two that are none
  pub no_underscore : (l ≡ byte "_" → ⊥) → (r ≡ byte "_" → ⊥) → rule_number p ≡ 2 → ⊥
  unfolding underscore
  no_underscore m n two =
      joined_or (joined_if (yields l r) r) (joined_if (yields r l) l) (is-some _ x (by-underscore two))
      (λ a. m (eqb-true l (byte "_") (and_left (eqb l (byte "_")) _ (joined_if_lem (yields l r) r a))))
      (λ b. n (eqb-true r (byte "_") (and_left (eqb r (byte "_")) _ (joined_if_lem (yields r l) l b))))

-- ------------------------------------------------------------------ two marks

-- what rules 4, 8 and 16 make of a pair
pub data OfMarks (l r x : ℕ) : Type 0 where
  by-class : hierarchy l r ≡ Some x → OfMarks l r x
  by-partner : opposite l r ≡ true → byte "|" ≡ x → OfMarks l r x
  by_big_x : big_x l r ≡ Some x → OfMarks l r x

-- a pair of two that differ, joined by another rule than 2, is joined by one of these
pub of_marks : (h l r x : ℕ) (p : Rule) → by_rule p h l r ≡ Some x → (l ≡ r → ⊥) → (rule_number p ≡ 2 → ⊥) → OfMarks l r x
unfolding equal_character opposite_pair
of_marks h l r x EqualCharacter e differ n =
    absurd (differ (eqb-true l r (joined_if_lem (eqb l r) l (is-some _ x (visibly h l r (equal_character l r) x e)))))
of_marks h l r x Underscore e differ n = absurd (n refl)
of_marks h l r x Hierarchy e differ n = by-class (visibly h l r (hierarchy l r) x e)
of_marks h l r x OppositePair e differ n =
    let o = visibly h l r (opposite_pair l r) x e in
    by-partner (joined_if_lem (opposite l r) (byte "|") (is-some _ x o)) (its_byte (opposite l r) (byte "|") x o)
of_marks h l r x BigX e differ n = by_big_x (visibly h l r (big_x l r) x e)
of_marks h l r x Hardblank e differ n =
    let t = joined_if_lem (eqb l h && eqb r h) h (is-some _ x e) in
    absurd (differ (eqb-true l h (and_left (eqb l h) (eqb r h) t) ∙ sym (eqb-true r h (and_right (eqb l h) (eqb r h) t))))

-- both are members of one class
abbrev OneClass : ℕ → ℕ → Type 0
OneClass l r = (class_of l ≡ class_of r) × (0 < class_of l) × (0 < class_of r)

of_opposite : (l r : ℕ) → opposite l r ≡ true → OneClass l r
unfolding class_of
of_opposite =
    let p : (◌≡◌ {A = ℕ} 3 3) × (0 < 3) × (0 < 3) = (refl, omega arith, omega arith) in
    let q : (◌≡◌ {A = ℕ} 4 4) × (0 < 4) × (0 < 4) = (refl, omega arith, omega arith) in
    let s : (◌≡◌ {A = ℕ} 5 5) × (0 < 5) × (0 < 5) = (refl, omega arith, omega arith) in
    opposite_cases OneClass p p q q s s

of_big_x : (l r : ℕ) → is_some (big_x l r) ≡ true → OneClass l r × (opposite l r ≡ false)
unfolding class_of opposite
of_big_x =
    let p : ((◌≡◌ {A = ℕ} 2 2) × (0 < 2) × (0 < 2)) × (false ≡ false) = ((refl, omega arith, omega arith), refl) in
    let q : ((◌≡◌ {A = ℕ} 6 6) × (0 < 6) × (0 < 6)) × (false ≡ false) = ((refl, omega arith, omega arith), refl) in
    big_x_cases (λ l r. OneClass l r × (opposite l r ≡ false)) p p q

-- an underscore is in no class, so that no other rule than 2 joins it with another
marks_classed : (l r x : ℕ) → OfMarks l r x → (0 < class_of l) × (0 < class_of r)
marks_classed l r x (by-class e) = let c = two_classes l r (is-some _ x e) in (c.0, c.1)
marks_classed l r x (by-partner o v) = let c = of_opposite l r o in (c.1, c.2)
marks_classed l r x (by_big_x e) = let c = of_big_x l r (is-some _ x e) in (c.0.1, c.0.2)

unclassed : (z : ℕ) → z ≡ byte "_" → class_of z ≡ 0
unfolding class_of
unclassed z e = rw e

module _ (h l r x : ℕ) (p : Rule) (joins : by_rule p h l r ≡ Some x) (differ : l ≡ r → ⊥) where
  pub underscore_right : r ≡ byte "_" → l ≡ x
  underscore_right u = go (eqb (rule_number p) 2) refl
    where
      go : (t : Bool) → eqb (rule_number p) 2 ≡ t → l ≡ x
      go true t = left_stands h l r x p joins (eqb-true (rule_number p) 2 t) u
      go false t = absurd (omega (arith, marks_classed l r x (of_marks h l r x p joins differ (eqb-false (rule_number p) 2 t)), unclassed r u))

  pub underscore_left : l ≡ byte "_" → (r ≡ byte "_" → ⊥) → r ≡ x
  underscore_left u n = go (eqb (rule_number p) 2) refl
    where
      go : (t : Bool) → eqb (rule_number p) 2 ≡ t → r ≡ x
      go true t = right_stands h l r x p joins (eqb-true (rule_number p) 2 t) n
      go false t = absurd (omega (arith, marks_classed l r x (of_marks h l r x p joins differ (eqb-false (rule_number p) 2 t)), unclassed l u))

module _ (l r x : ℕ) where
  pub later_right : class_of l < class_of r → OfMarks l r x → r ≡ x
  unfolding hierarchy
  later_right s (by-class e) =
      first_byte (earlier l r) (earlier r l) r l x (and_right_false (ltb 0 (class_of r)) (ltb (class_of r) (class_of l)) (le-ltb (class_of r) (class_of l) (omega arith))) e
  later_right s (by-partner o v) = let c = of_opposite l r o in absurd (omega (arith, c.0))
  later_right s (by_big_x e) = let c = of_big_x l r (is-some _ x e) in absurd (omega (arith, c.0.0))

  pub later_left : class_of r < class_of l → OfMarks l r x → l ≡ x
  unfolding hierarchy
  later_left s (by-class e) =
      second-byte (earlier l r) (earlier r l) r l x (and_right_false (ltb 0 (class_of l)) (ltb (class_of l) (class_of r)) (le-ltb (class_of l) (class_of r) (omega arith))) e
  later_left s (by-partner o v) = let c = of_opposite l r o in absurd (omega (arith, c.0))
  later_left s (by_big_x e) = let c = of_big_x l r (is-some _ x e) in absurd (omega (arith, c.0.0))

  -- two of one class, of which the code's table has the left one's partner
  module _ (m : Mark) (marked : Marked l m) (same : class_of l ≡ class_of r) where
    pub partners : eqb m.partner.0 r ≡ true → OfMarks l r x → byte "|" ≡ x
    partners t (by-class e) = absurd ((two_classes l r (is-some _ x e)).2 same)
    partners t (by-partner o v) = v
    partners t (by_big_x e) =
        let c = of_big_x l r (is-some _ x e) in
        absurd (never_both (opposite l r) (sym (marked.partner c.0.1 r c.0.2) ∙ t) c.1)

    pub no_partners : eqb m.partner.0 r ≡ false → OfMarks l r x → big_x l r ≡ Some x
    no_partners t (by-class e) = absurd ((two_classes l r (is-some _ x e)).2 same)
    no_partners t (by-partner o v) =
        let c = of_opposite l r o in
        absurd (never_both (opposite l r) o (sym (marked.partner c.1 r c.2) ∙ t))
    no_partners t (by_big_x e) = e

-- ------------------------------------------------------------------ rule 16 by its left sub-character

module _ (l r x : ℕ) (e : big_x l r ≡ Some x) where
  pub slash : l ≡ byte "/" → byte "|" ≡ x
  unfolding big_x or_else joined_if
  slash s =
      let w : joined_if (eqb r (byte "\\")) (byte "|") ≡ big_x l r = rw (s, and-true (eqb r (byte "\\"))) (sym (or_nothing (eqb r (byte "\\")) (byte "|"))) in
      its_byte (eqb r (byte "\\")) (byte "|") x (w ∙ e)

  pub backslash : l ≡ byte "\\" → byte "Y" ≡ x
  unfolding big_x or_else joined_if
  backslash s =
      let w : joined_if (eqb r (byte "/")) (byte "Y") ≡ big_x l r = rw (s, and-true (eqb r (byte "/"))) (sym (or_nothing (eqb r (byte "/")) (byte "Y"))) in
      its_byte (eqb r (byte "/")) (byte "Y") x (w ∙ e)

  pub no_slash : (l ≡ byte "/" → ⊥) → (l ≡ byte "\\" → ⊥) → byte "X" ≡ x
  unfolding big_x or_else joined_if
  no_slash m n =
      let w : joined_if (eqb l (byte ">") && eqb r (byte "<")) (byte "X") ≡ big_x l r = rw (ne_eqb l (byte "/") m, ne_eqb l (byte "\\") n, and-true (eqb r (byte "<"))) in
      its_byte (eqb l (byte ">") && eqb r (byte "<")) (byte "X") x (w ∙ e)
