-- The laws of a pair's joint that other crates cite.
-- Assumes nothing.
use mathlib.Core.Path.{◌≡◌, refl, sym, ◌∙◌, ap}
use mathlib.Core.Bool.{Bool, true, false, cond, ◌||◌}
use Prim.Native.Nat.{ℕ}
use lib.Dec.{eqb}
use borrow.Author.Tests.{eq-eqb, ne_eqb, eqb-true}
use Rattle.ground.proofs.Tests.{or_elim}
use Rattle.subchars.specs.declared.Direction.{Direction}
use Rattle.subchars.specs.declared.Layout.TheVariants.{Smushing}
use Rattle.subchars.specs.declared.Smushing.TheVariants.{Universal, Controlled}
use Rattle.subchars.specs.declared.SubCharacter.{SubCharacter}
use Rattle.subchars.specs.declared.Mode.{Mode}
use Rattle.subchars.specs.Hardblank.{blank}
use Rattle.pairs.specs.declared.Joint.TheVariants.{ByBlank}
use Rattle.pairs.specs.Pair.{controlled, universal, without_blank, joint, is_joined, joins, EveryRuleOf}
use Rattle.pairs.proofs.Sets.{controlled-more}

module _ (y : Mode) (l r : ℕ) where
  -- "A blank yields to its partner."
  pub blank_left : l ≡ blank → joint y l r ≡ ByBlank (record { 0 = r })
  unfolding joint
  blank_left e = rw (eq-eqb l blank e)

  pub blank_right : r ≡ blank → joint y l r ≡ ByBlank (record { 0 = l })
  unfolding joint
  blank_right e = rw (eq-eqb r blank e) (go (eqb l blank) refl)
    where
      go : (t : Bool) → eqb l blank ≡ t → cond t (ByBlank (record { 0 = r })) (ByBlank (record { 0 = l })) ≡ ByBlank (record { 0 = l })
      go true s = let q : r ≡ l = e ∙ sym (eqb-true l blank s) in ap (λ (x : ℕ). ByBlank (record { 0 = x })) q
      go false s = refl

  pub no_blank : (l ≡ blank → ⊥) → (r ≡ blank → ⊥) → joint y l r ≡ without_blank y.layout y.direction y.hardblank.0 l r
  unfolding joint
  no_blank m n = rw (ne_eqb l blank m, ne_eqb r blank n)

-- "A pair with a blank joins in every mode."
pub blank-joins : (y : Mode) (l r : ℕ) → (eqb l blank || eqb r blank) ≡ true → joins y l r ≡ true
unfolding joins
blank-joins y l r e =
    or_elim (eqb l blank) (eqb r blank) e
    (λ t. ap is_joined (blank_left y l r (eqb-true l blank t)))
    (λ t. ap is_joined (blank_right y l r (eqb-true r blank t)))

module _ (direction : Direction) (hardblank : SubCharacter) where
  abbrev pub universally : Mode
  universally = record { layout = Smushing Universal; direction = direction; hardblank = hardblank }

  abbrev pub controlled_by : ℕ → Mode
  controlled_by set = record { layout = Smushing (Controlled set); direction = direction; hardblank = hardblank }

  -- "Universal joins every pair."
  pub universal-joins : (l r : ℕ) → joins universally l r ≡ true
  unfolding joins joint universal
  universal-joins l r = go (eqb l blank) (eqb r blank)
    where
      go : (s t : Bool) → is_joined (cond s (ByBlank (record { 0 = r })) (cond t (ByBlank (record { 0 = l })) (universal direction hardblank.0 l r))) ≡ true
      go true t = refl
      go false true = refl
      go false false = refl

  -- a set that has every rule of another joins every pair that the other joins
  pub more-rules : (p q : ℕ) → EveryRuleOf p q → (l r : ℕ) → joins (controlled_by p) l r ≡ true → joins (controlled_by q) l r ≡ true
  unfolding joins joint
  more-rules p q w l r = go (eqb l blank) (eqb r blank)
    where
      go : (s t : Bool) → is_joined (cond s (ByBlank (record { 0 = r })) (cond t (ByBlank (record { 0 = l })) (controlled p hardblank.0 l r))) ≡ true → is_joined (cond s (ByBlank (record { 0 = r })) (cond t (ByBlank (record { 0 = l })) (controlled q hardblank.0 l r))) ≡ true
      go true t e = refl
      go false true e = refl
      go false false e = controlled-more p q w hardblank.0 l r e
