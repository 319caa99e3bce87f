-- Blocks with their hardblanks as blanks.
-- Assumes nothing.
use mathlib.Core.Path.{◌≡◌, refl, sym}
use mathlib.Core.Bool.{Bool, true, false, cond}
use Prim.Native.Nat.{ℕ}
use lib.Dec.{eqb}
use borrow.Author.Tests.{ne_eqb, eqb-true}
use Rattle.subchars.specs.Hardblank.{blank, blanked}
use Rattle.lanes.specs.Blocks.{Cells, blanked_cells}
use Rattle.lanes.specs.Overlap.{fitting}
use Rattle.lanes.proofs.Agreeing.{fitting_cong}

module _ (hardblank x : ℕ) where
  -- a blank stays one
  pub blank_stays : x ≡ blank → blanked hardblank x ≡ blank
  blank_stays e = go (eqb x hardblank)
    where
      go : (t : Bool) → cond t blank x ≡ blank
      go true = refl
      go false = e

  -- any other is one exactly if it is the hardblank
  pub blank_if_hard : (x ≡ blank → ⊥) → eqb x hardblank ≡ eqb (blanked hardblank x) blank
  blank_if_hard n = go (eqb x hardblank)
    where
      go : (t : Bool) → t ≡ eqb (cond t blank x) blank
      go true = refl
      go false = sym (ne_eqb x blank n)

  -- a sub-character that is not the hardblank stays as it is
  pub other_stays : (x ≡ hardblank → ⊥) → blanked hardblank x ≡ x
  other_stays n = simp (ne_eqb x hardblank n)

-- Where the hardblank is the blank, nothing changes:
pub nothing_hard : (x : ℕ) → blanked blank x ≡ x
nothing_hard x = go (eqb x blank) refl
  where
    go : (t : Bool) → eqb x blank ≡ t → cond t blank x ≡ x
    go true e = sym (eqb-true x blank e)
    go false e = refl

-- the fitting overlap is that of the blocks as they are.
pub plain-fitting : (h n m : ℕ) (a b : Cells) → fitting h n m (blanked_cells blank a) (blanked_cells blank b) ≡ fitting h n m a b
plain-fitting h n m a b = fitting_cong h n m (blanked_cells blank a) a (blanked_cells blank b) b (λ r k u v. nothing_hard (a r k)) (λ r k u v. nothing_hard (b r k))
