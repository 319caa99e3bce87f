-- "Hardblanks are first made blanks, the narrower block is filled with blanks on the right", and nothing else is changed.
-- Assumes nothing.
use mathlib.Core.Path.{◌≡◌, ◌∙◌}
use Prim.Native.Nat.{ℕ, ◌<◌, ◌≤◌}
use native.Mathlib.Omega.{arith}
use borrow.Author.Tests.{eq-eqb}
use Rattle.subchars.specs.Hardblank.{blank}
use Rattle.lanes.specs.Blocks.{Agree}
use Rattle.lanes.proofs.Blanking.{other_stays}
use Rattle.blocks.specs.Block.{Block}
use Rattle.columns.specs.Stack.{upright, wider}
use Rattle.columns.proofs.Columns.{cell_inside}

module _ (hardblank : ℕ) (a : Block) (c r : ℕ) where
  -- "Hardblanks are first made blanks",
  pub hardblank-blanked : c < a.width → a.cells r c ≡ hardblank → upright hardblank a c r ≡ blank
  hardblank-blanked u e = cell_inside hardblank a c r u ∙ simp (eq-eqb (a.cells r c) hardblank e)

  -- and any other sub-character stays. (Beyond the width of the block there are blanks: Columns, cell_beyond.)
  pub other-kept : c < a.width → (a.cells r c ≡ hardblank → ⊥) → upright hardblank a c r ≡ a.cells r c
  other-kept u ne = cell_inside hardblank a c r u ∙ other_stays hardblank (a.cells r c) ne

-- No sub-character of a block n rows high is the hardblank.
abbrev pub NoHardblank : ℕ → ℕ → Block → Type 0
NoHardblank hardblank n a = (r c : ℕ) → r < n → c < a.width → a.cells r c ≡ hardblank → ⊥

module _ (hardblank n : ℕ) (a b : Block) (none : NoHardblank hardblank n a) where
  -- A block of the greater width without hardblanks stays as it is.
  pub stays : b.width ≤ a.width → Agree (wider a b) n (upright hardblank a) (λ c r. a.cells r c)
  stays u c r p q = other-kept hardblank a c r (omega arith) (none r c q (omega arith))
