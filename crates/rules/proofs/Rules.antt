-- The law of the rules: no pair is joined by two of them.
-- Assumes nothing.
use mathlib.Core.Path.{◌≡◌, refl, sym, ◌∙◌, ap, subst}
use mathlib.Core.Bool.{Bool, true, false, cond, ◌&&◌, ◌||◌, false≢true}
use Rattle.std.specs.Prelude.{Option, Some, None}
use Prim.Native.Nat.{ℕ, ◌<◌}
use native.Mathlib.Omega.{arith}
use lib.Dec.{eqb, ltb}
use borrow.Author.Tests.{ne_eqb, eqb-true, ltb-true}
use Rattle.ground.specs.Text.{byte, among}
use Rattle.ground.proofs.Tests.{and_left, and_right, or_right, or_elim}
use Rattle.rules.specs.declared.Rule.{Rule}
use Rattle.rules.specs.declared.Rule.TheVariants.{EqualCharacter, Underscore, Hierarchy, OppositePair, BigX, Hardblank}
use Rattle.rules.specs.Rules.{eleven, joined_if, or_else, is_some, equal_character, yields, underscore, class_of, earlier, hierarchy, reads, either_order, opposite, opposite_pair, big_x, unless_hardblank, by_rule}

abbrev J : Option ℕ → Type 0
J o = is_some o ≡ true

pub is-some : (o : Option ℕ) (x : ℕ) → o ≡ Some x → J o
unfolding is_some
is-some o x e = rw e

pub joined_if_lem : (t : Bool) (x : ℕ) → J (joined_if t x) → t ≡ true
unfolding joined_if is_some
joined_if_lem true x e = refl
joined_if_lem false x e = e

pub joined_or {ℓ} : {X : Type ℓ} (a b : Option ℕ) → J (or_else a b) → (J a → X) → (J b → X) → X
unfolding or_else is_some
joined_or (Some x) b e f g = f refl
joined_or None b e f g = g e

-- ------------------------------------------------------------------ no pair is joined by two rules

-- the only rule that can join two visible sub-characters, and the only one that can join a pair
unfoldable pub only_visible : ℕ → ℕ → Rule
only_visible l r =
    cond (eqb l r) EqualCharacter
    (cond (eqb l (byte "_") || eqb r (byte "_")) Underscore
    (cond (eqb (class_of l) (class_of r)) (cond (opposite l r) OppositePair BigX) Hierarchy))

unfoldable pub only : ℕ → ℕ → ℕ → Rule
only h l r = cond (eqb l h) Hardblank (only_visible l r)

-- what holds of the pair that a text of two sub-characters is, holds of a pair that reads so
pub as_text {ℓ} : (P : ℕ → ℕ → Type ℓ) (a b : ℕ) → P a b → (l r : ℕ) → (eqb l a && (eqb r b && true)) ≡ true → P l r
as_text P a b p l r e =
    let u = eqb-true l a (and_left (eqb l a) _ e) in
    let v = eqb-true r b (and_left (eqb r b) true (and_right (eqb l a) _ e)) in
    subst (λ (x : ℕ). P x r) (sym u) (subst (P a) (sym v) p)

-- an opposite pair is one of six
pub opposite_cases {ℓ} : (P : ℕ → ℕ → Type ℓ) → P (byte "[") (byte "]") → P (byte "]") (byte "[") → P (byte "{") (byte "}") → P (byte "}") (byte "{") → P (byte "(") (byte ")") → P (byte ")") (byte "(") → (l r : ℕ) → opposite l r ≡ true → P l r
unfolding opposite
opposite_cases P a a' b b' c c' l r e =
    or_elim (either_order "[]" l r || either_order "{}" l r) (either_order "()" l r) e
    (λ u. or_elim (either_order "[]" l r) (either_order "{}" l r) u (either (byte "[") (byte "]") a a') (either (byte "{") (byte "}") b b'))
    (either (byte "(") (byte ")") c c')
  where
    either : (x y : ℕ) → P x y → P y x → (eqb l x && (eqb r y && true) || eqb r x && (eqb l y && true)) ≡ true → P l r
    either x y p q e =
        or_elim (eqb l x && (eqb r y && true)) (eqb r x && (eqb l y && true)) e (as_text P x y p l r) (as_text (λ s t. P t s) x y q r l)

-- a big X is one of three
pub big_x_cases {ℓ} : (P : ℕ → ℕ → Type ℓ) → P (byte "/") (byte "\\") → P (byte "\\") (byte "/") → P (byte ">") (byte "<") → (l r : ℕ) → J (big_x l r) → P l r
unfolding big_x
big_x_cases P a b c l r e =
    joined_or (joined_if (reads "/\\" l r) (byte "|")) (or_else (joined_if (reads "\\/" l r) (byte "Y")) (joined_if (reads "><" l r) (byte "X"))) e
    (λ u. as_text P (byte "/") (byte "\\") a l r (joined_if_lem (reads "/\\" l r) (byte "|") u))
    (λ v. joined_or (joined_if (reads "\\/" l r) (byte "Y")) (joined_if (reads "><" l r) (byte "X")) v
    (λ u. as_text P (byte "\\") (byte "/") b l r (joined_if_lem (reads "\\/" l r) (byte "Y") u))
    (λ u. as_text P (byte ">") (byte "<") c l r (joined_if_lem (reads "><" l r) (byte "X") u)))

module _ (l r : ℕ) where
  only_equal : J (equal_character l r) → EqualCharacter ≡ only_visible l r
  unfolding equal_character only_visible
  only_equal e = rw (joined_if_lem (eqb l r) l e)

  -- an underscore is none of the eleven, and in no class
  apart : (x y : ℕ) → yields x y ≡ true → x ≡ y → ⊥
  apart x y e q =
      let u = eqb-true x (byte "_") (and_left (eqb x (byte "_")) _ e) in
      let m = and_right (eqb x (byte "_")) (among eleven y) e in
      let v : y ≡ byte "_" = omega arith in
      false≢true (rw v at m)

  only_underscore : J (underscore l r) → Underscore ≡ only_visible l r
  unfolding underscore only_visible
  only_underscore e =
      joined_or (joined_if (yields l r) r) (joined_if (yields r l) l) e
      (λ a. let t = joined_if_lem (yields l r) r a in
      rw (ne_eqb l r (apart l r t), and_left (eqb l (byte "_")) _ t))
      (λ b. let t = joined_if_lem (yields r l) l b in
      rw (ne_eqb l r (λ q. apart r l t (sym q)), or_right (eqb l (byte "_")) (eqb r (byte "_")) (and_left (eqb r (byte "_")) _ t)))

  class-underscore : (x : ℕ) → 0 < class_of x → eqb x (byte "_") ≡ false
  unfolding class_of
  class-underscore x h = ne_eqb x (byte "_") λ e. let z = rw e at h in absurd (omega arith)

  -- a pair that rule 4 joins is of two classes
  pub two_classes : J (hierarchy l r) → (0 < class_of l) × (0 < class_of r) × (class_of l ≡ class_of r → ⊥)
  unfolding hierarchy
  two_classes e =
      joined_or (joined_if (earlier l r) r) (joined_if (earlier r l) l) e
      (λ a. rising l r (joined_if_lem (earlier l r) r a))
      (λ b. let w = rising r l (joined_if_lem (earlier r l) l b) in (w.1, w.0, λ q. w.2 (sym q)))
    where
      rising : (x y : ℕ) → earlier x y ≡ true → (0 < class_of x) × (0 < class_of y) × (class_of x ≡ class_of y → ⊥)
      rising x y t =
          let u = ltb-true 0 (class_of x) (and_left (ltb 0 (class_of x)) _ t) in
          let v = ltb-true (class_of x) (class_of y) (and_right (ltb 0 (class_of x)) _ t) in
          (u, omega arith, λ q. omega arith)

  only_hierarchy : J (hierarchy l r) → Hierarchy ≡ only_visible l r
  unfolding only_visible
  only_hierarchy e =
      let w = two_classes e in
      rw (ne_eqb l r (λ q. w.2 (ap class_of q)), class-underscore l w.0, class-underscore r w.1, ne_eqb (class_of l) (class_of r) w.2)

  only_opposite : J (opposite_pair l r) → OppositePair ≡ only_visible l r
  unfolding opposite_pair only_visible class_of opposite
  only_opposite e =
      opposite_cases (λ l r. OppositePair ≡ only_visible l r) refl refl refl refl refl refl l r (joined_if_lem (opposite l r) (byte "|") e)

  only_big_x : J (big_x l r) → BigX ≡ only_visible l r
  unfolding only_visible class_of opposite
  only_big_x e = big_x_cases (λ l r. BigX ≡ only_visible l r) refl refl refl l r e

module _ (h l r : ℕ) where
  -- a rule for visible sub-characters joins a pair without a hardblank
  visible_only : (rule : Rule) (j : Option ℕ) → (J j → rule ≡ only_visible l r) → J (unless_hardblank h l r j) → rule ≡ only h l r
  unfolding only is_some
  visible_only rule j f = go (eqb l h) (eqb r h)
    where
      go : (a b : Bool) → J (cond (a || b) None j) → rule ≡ cond a Hardblank (only_visible l r)
      go true b e = absurd (false≢true e)
      go false true e = absurd (false≢true e)
      go false false e = f e

  pub joined_by_only : (rule : Rule) → J (by_rule rule h l r) → rule ≡ only h l r
  unfolding only
  joined_by_only EqualCharacter = visible_only EqualCharacter (equal_character l r) (only_equal l r)
  joined_by_only Underscore = visible_only Underscore (underscore l r) (only_underscore l r)
  joined_by_only Hierarchy = visible_only Hierarchy (hierarchy l r) (only_hierarchy l r)
  joined_by_only OppositePair = visible_only OppositePair (opposite_pair l r) (only_opposite l r)
  joined_by_only BigX = visible_only BigX (big_x l r) (only_big_x l r)
  joined_by_only Hardblank = λ e. rw (and_left (eqb l h) (eqb r h) (joined_if_lem (eqb l h && eqb r h) h e))

  -- "No pair is joined by two rules", whatever the hardblank is.
  pub one_rule : (p q : Rule) (x y : ℕ) → by_rule p h l r ≡ Some x → by_rule q h l r ≡ Some y → p ≡ q
  one_rule p q x y a b = joined_by_only p (is-some _ x a) ∙ sym (joined_by_only q (is-some _ y b))
