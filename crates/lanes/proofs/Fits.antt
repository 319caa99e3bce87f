-- The fitting overlap as it is found, lane after lane, with the last lane that allowed less.
-- Assumes nothing.
use mathlib.Core.Path.{◌≡◌, sym, ◌∙◌, ap, subst}
use Prim.Native.Nat.{ℕ, ◌+◌, ◌-◌, ◌≤◌, ◌<◌, min}
use native.Mathlib.Omega.{arith}
use native.Mathlib.Numerals.{add-one}
use Rattle.subchars.specs.Hardblank.{blank}
use Rattle.lanes.specs.Blocks.{Cells, blanked_cells}
use Rattle.lanes.specs.Overlap.{has_blank, free, fitting}
use Rattle.lanes.specs.Blanks.{Leading, Trailing}
use Rattle.lanes.specs.Fits.{Fitted}
use Rattle.lanes.proofs.Fitting.{fitting-none, fitting-lane, fitting_less}
use Rattle.lanes.proofs.Smushing.{fitting-free}
use Rattle.lanes.proofs.Agreeing.{facing_cong}
use Rattle.lanes.proofs.Blanking.{nothing_hard, plain-fitting}
use Rattle.lanes.specs.declared.Fit.{Fit}

abbrev of : ℕ → ℕ → Fit
of o k = record { overlap = o; lane = k }

module _ (n m : ℕ) (a b : Cells) where
  pub fitted_none : (x : ℕ) → x ≡ min n m → Fitted 0 n m a b (of x 0)
  fitted_none x e = record { overlap = e ∙ sym (fitting-none n m a b); within = omega arith; before = λ l. absurd (omega arith) }

  -- no lane takes anything from 0
  pub fitted_zero : (r h best k : ℕ) → r ≤ h → best ≡ 0 → Fitted r n m a b (of best k) → Fitted h n m a b (of 0 k)
  fitted_zero r h best k u z f =
      record {
        overlap = omega (arith, f.overlap, fitting_less n m a b r h u);
        within = omega (arith, f.within);
        before = λ l. ap (λ (x : ℕ). free k n a b (x + 1)) (sym z) ∙ f.before (omega arith);
      }

  module _ (r best k t l : ℕ) (f : Fitted r n m a b (of best k)) (tr : Trailing (a r) n best t) (ld : Leading (b r) (best - t) l) where
    next : fitting (r + 1) n m a b ≡ t + l
    next =
        rw add-one
        (fitting-lane n m a b r t l (subst (λ (x : ℕ). Trailing (a r) n x t) f.overlap tr) (subst (λ (x : ℕ). Leading (b r) (x - t) l) f.overlap ld))

    -- a lane that allows less is the one to start from; any other leaves it where it was
    pub fitted_less : t + l < best → Fitted (r + 1) n m a b (of (t + l) r)
    fitted_less p = record { overlap = sym next; within = omega arith; before = λ q. fitting-free r n m a b (t + l + 1) (omega (arith, f.overlap)) }

    pub fitted_same : best ≤ t + l → Fitted (r + 1) n m a b (of (t + l) k)
    fitted_same p =
        let z : best ≡ t + l = omega (arith, tr.within, ld.within) in
        record { overlap = sym next; within = omega (arith, f.within); before = λ q. ap (λ (x : ℕ). free k n a b (x + 1)) (sym z) ∙ f.before (omega arith) }

-- Where the hardblank is the blank, the same is found of the blocks as they are.
pub plain_fitted : (h n m : ℕ) (a b : Cells) (f : Fit) → Fitted h n m (blanked_cells blank a) (blanked_cells blank b) f → Fitted h n m a b f
plain_fitted h n m a b f w =
    record {
      overlap = w.overlap ∙ plain-fitting h n m a b;
      within = w.within;
      before = λ l.
          sym (facing_cong f.lane n m (blanked_cells blank a) a (blanked_cells blank b) b (λ r k u v. nothing_hard (a r k)) (λ r k u v. nothing_hard (b r k)) has_blank (f.overlap + 1) (omega arith) (omega arith))
          ∙ w.before l;
    }
