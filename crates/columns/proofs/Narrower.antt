-- The overlap of two blocks is that of the columns of the narrower one: in every other column a blank stands on one side.
-- Assumes nothing.
use mathlib.Core.Path.{◌≡◌, refl, ◌∙◌, ap, ap₂}
use mathlib.Core.Bool.{cond}
use Prim.Native.Nat.{ℕ, ◌≤◌, min, max}
use native.Mathlib.Omega.{arith}
use lib.Dec.{ltb}
use Rattle.subchars.specs.declared.VerticalSmushing.TheVariants.{Universal, Controlled}
use Rattle.subchars.specs.declared.VerticalLayout.{VerticalLayout}
use Rattle.subchars.specs.declared.VerticalLayout.TheVariants.{FullHeight, Fitting, Smushing}
use Rattle.lanes.specs.Blocks.{Cells}
use Rattle.lanes.specs.Overlap.{furthest, fitting, smushing}
use Rattle.lanes.proofs.Narrowing.{Blanks, furthest-narrow, fitting-narrow, smushing-narrow}
use Rattle.blocks.specs.Block.{Block}
use Rattle.vertical.specs.VerticalPair.{VerticalLine, set_has, merges, barred, other_rules}
use Rattle.columns.specs.Stack.{upright, supersmushing, columns_overlap, stack_overlap}
use Rattle.columns.proofs.Columns.{beyond_narrower}
use Rattle.columns.proofs.Demand.{blank-merges, blank-barred, ruled}

module _ (w w' n m : ℕ) (a b : Cells) (few : w ≤ w') (blanks : Blanks w w' a b) where
  smush_narrow : (layout : VerticalLayout) → smushing (merges layout) w' n m a b ≡ smushing (merges layout) w n m a b
  smush_narrow layout = smushing-narrow w w' n m a b few blanks (merges layout) (blank-merges layout)

  super_narrow : (set : ℕ) → supersmushing set w' n m a b ≡ supersmushing set w n m a b
  unfolding supersmushing
  super_narrow set =
      let far = furthest barred w n m a b in
      ap (λ (x : ℕ). cond (ltb (fitting w' n m a b) x) x (smushing (merges (ruled (other_rules set))) w' n m a b)) (furthest-narrow w w' n m a b few blanks barred blank-barred)
      ∙ ap₂ (λ (f o : ℕ). cond (ltb f far) far o) (fitting-narrow w w' n m a b few blanks) (smush_narrow (ruled (other_rules set)))

  columns_narrow : (layout : VerticalLayout) → columns_overlap layout w' n m a b ≡ columns_overlap layout w n m a b
  unfolding columns_overlap
  columns_narrow FullHeight = refl
  columns_narrow Fitting = fitting-narrow w w' n m a b few blanks
  columns_narrow (Smushing Universal) = smush_narrow (Smushing Universal)
  columns_narrow (Smushing (Controlled set)) = ap₂ (cond (set_has set VerticalLine)) (super_narrow set) (smush_narrow (ruled set))

pub overlap-narrow : (layout : VerticalLayout) (hardblank n : ℕ) (a : Block) (m : ℕ) (b : Block) → stack_overlap layout hardblank n a m b ≡ columns_overlap layout (min a.width b.width) n m (upright hardblank a) (upright hardblank b)
unfolding stack_overlap
overlap-narrow layout hardblank n a m b =
    columns_narrow (min a.width b.width) (max a.width b.width) n m (upright hardblank a) (upright hardblank b) (omega arith) (beyond_narrower hardblank a b) layout
