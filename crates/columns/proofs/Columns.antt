-- The columns of a block as lanes: hardblanks as blanks, blanks on the right of it, and where they lie.
-- Assumes nothing.
use mathlib.Core.Path.{◌≡◌, sym, ◌∙◌, ap}
use mathlib.Core.List.{List}
use Prim.Native.Nat.{ℕ, ◌+◌, ◌*◌, ◌≤◌, ◌<◌, min, max}
use native.Mathlib.Omega.{arith}
use native.Mathlib.Decide.{dec_lt}
use lib.ListN.{get_or}
use borrow.Author.Tests.{lt-ltb, le-ltb}
use Rattle.subchars.specs.Hardblank.{blank, blanked}
use Rattle.lanes.specs.declared.View.{View}
use Rattle.lanes.specs.Blocks.{cells_of, blanked_cells, Inside, Agree}
use Rattle.lanes.proofs.Fitting.{has_left, has_right}
use Rattle.lanes.proofs.Narrowing.{Blanks}
use Rattle.blocks.specs.Block.{Block}
use Rattle.blocks.specs.Writing.{RowAfterRow, Like}
use Rattle.columns.specs.declared.Placed.{Placed}
use Rattle.columns.specs.Stack.{upright}
use Rattle.columns.specs.Placing.{placed_block, placed_columns}

module _ (hardblank : ℕ) (a : Block) (c r : ℕ) where
  -- "Hardblanks are first made blanks",
  pub cell_inside : c < a.width → upright hardblank a c r ≡ blanked hardblank (a.cells r c)
  unfolding upright
  cell_inside u = simp (lt-ltb c a.width u)

  -- "the narrower block is filled with blanks on the right".
  pub cell_beyond : a.width ≤ c → upright hardblank a c r ≡ blank
  unfolding upright
  cell_beyond u = simp (le-ltb c a.width u)

-- beyond the narrower block every pair has a blank
pub beyond_narrower : (hardblank : ℕ) (a b : Block) → Blanks (min a.width b.width) (max a.width b.width) (upright hardblank a) (upright hardblank b)
beyond_narrower hardblank a b c u v i j =
    elim (dec_lt c a.width) [
      | yes l ↦ has_right _ _ (cell_beyond hardblank b c j (omega arith))
      | no g ↦ has_left _ _ (cell_beyond hardblank a c i (omega arith))
    ]

-- blocks that are alike have the same columns
pub upright-like : (hardblank n w : ℕ) (a b : Block) → Like n a b → Agree w n (upright hardblank a) (upright hardblank b)
upright-like hardblank n w a b e c r u v =
    elim (dec_lt c a.width) [
      | yes l ↦
          cell_inside hardblank a c r l ∙ (ap (blanked hardblank) (e.cells r c v l) ∙ sym (cell_inside hardblank b c r (omega (arith, e.width))))
      | no g ↦ cell_beyond hardblank a c r (omega arith) ∙ sym (cell_beyond hardblank b c r (omega (arith, e.width)))
    ]

-- the columns of a block that lies in a list
abbrev pub view_of : Placed → View
view_of p = record { base = p.base; along = p.stride; len = p.height }

module _ (starts : List ℕ) (p : Placed) (w : ℕ) (q : RowAfterRow 1 w starts) (narrow : w ≤ p.width) where
  pub columns_inside : Inside p.bytes.now starts (view_of p) w
  columns_inside =
      record {
        lanes = q.many;
        begin = λ c u. omega (arith, q.at c u, p.lies.within 0 (omega (arith, p.lies.some-rows)));
        cells = λ c r u v. omega (arith, q.at c u, p.lies.within r v);
      }

  pub columns_seen : (hardblank : ℕ) → Agree w p.height (blanked_cells hardblank (cells_of p.bytes.now starts (view_of p))) (placed_columns hardblank p)
  columns_seen hardblank c r u v =
      let e : p.base + get_or starts c 0 + r * p.stride ≡ r * p.stride + p.base + c = omega (arith, q.at c u) in
      ap (λ (i : ℕ). blanked hardblank (get_or p.bytes.now i 0)) e ∙ sym (cell_inside hardblank (placed_block p) c r (omega arith))
