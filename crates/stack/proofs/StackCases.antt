-- What a stack answers and leaves, case by case of the code's tests.
-- Assumes nothing.
use mathlib.Core.Path.{◌≡◌, refl, ◌∙◌, ap, ap₂}
use mathlib.Core.Bool.{Bool, true, false}
use mathlib.Core.List.{List, ◌++◌}
use Prim.Native.Nat.{ℕ, ◌+◌, ◌-◌, ◌*◌, ◌≤◌, ◌<◌}
use native.Mathlib.Omega.{arith}
use lib.ListN.{length, take}
use borrow.Author.Tests.{lt-ltb, le-ltb}
use Rattle.ground.specs.Area.{zeros, padded}
use Rattle.ground.specs.Limits.{max_stack_height}
use Rattle.ground.specs.Refusals.{area_too_small, bad_shape, stack_too_high}
use Rattle.ground.proofs.Areas.{padded_of}
use Rattle.subchars.specs.declared.VerticalLayout.{VerticalLayout}
use Rattle.blocks.specs.Block.{Block, rows_of}
use Rattle.blocks.proofs.Rows.{length-rows}
use Rattle.std.specs.Prelude.{Result}
use Rattle.std.specs.Int.{from_bool}
use Rattle.ground.specs.declared.refusals.Reason.{Reason}
use Rattle.ground.specs.declared.refusals.Refusal.{Refusal}
use Rattle.stack.specs.declared.Stacked.{Stacked}
use Rattle.columns.specs.Stack.{wider, stack_overlap, stacked_at, Stack, stacked}
use Rattle.columns.specs.Placing.{with_end}
use Rattle.stack.specs.StackCall.{StackTold, stack_tells, stacking, no_stack, good_stack, fit_told, area_after, stack_of, stack_size, stack_rows, stack_told, stack_area, lfs, StackGives, PutStack, RefusesStack}
use Rattle.stack.proofs.Ending.{not_ended}

-- one LF where a row is to end with it, as the code counts it
pub lfs-counted : (ended : Bool) → from_bool ended ≡ lfs ended
lfs-counted true = refl
lfs-counted false = refl

-- a refusal leaves zeros
zeros-after : (reason : Reason) (bytes : List ℕ) (room : ℕ) → zeros room ≡ area_after (no_stack reason) bytes room
zeros-after reason bytes room = let z : room ≡ room - 0 = omega arith in ap zeros z

-- a stack of good shape
module _ (s : Stack) (end room : ℕ) where
  abbrev bytes : List ℕ
  bytes = rows_of (with_end s.block.width s.block.cells) s.height (s.block.width + end)

  abbrev told : StackTold
  told = fit_told s (s.height * (s.block.width + end)) room

  as_told : (r : Result Stacked Refusal) (area : List ℕ) (t : StackTold) → t ≡ told → stack_tells r ≡ t → area ≡ area_after t bytes room → PutStack s end room r area
  as_told r area t e p q = record { answer = p ∙ e; area = q ∙ ap (λ (x : StackTold). area_after x bytes room) e }

  refused : (reason : Reason) (r : Result Stacked Refusal) (area : List ℕ) → RefusesStack reason room r area → no_stack reason ≡ told → PutStack s end room r area
  refused reason r area g e = as_told r area (no_stack reason) e g.answer (g.area ∙ zeros-after reason bytes room)

  high-told : max_stack_height < s.height → no_stack stack_too_high ≡ told
  unfolding fit_told
  high-told u = rw (lt-ltb max_stack_height s.height u)

  module _ (low : s.height ≤ max_stack_height) where
    small-told : room < s.height * (s.block.width + end) → no_stack area_too_small ≡ told
    unfolding fit_told
    small-told u = rw (le-ltb max_stack_height s.height low, lt-ltb room (s.height * (s.block.width + end)) u)

    fits_told : s.height * (s.block.width + end) ≤ room → stack_tells (stacking s.overlap s.height s.block.width) ≡ told
    unfolding fit_told
    fits_told u = rw (le-ltb max_stack_height s.height low, le-ltb room (s.height * (s.block.width + end)) u)

-- two blocks whose overlap and width were found
module _ (layout : VerticalLayout) (hardblank n : ℕ) (a : Block) (m : ℕ) (b : Block) (end room : ℕ) where
  abbrev both : Stack
  both = stacked layout hardblank n a m b

  module _ (o : ℕ) (is : o ≡ stack_overlap layout hardblank n a m b) where
    abbrev high : ℕ
    high = n + m - o

    over_is : o ≡ both.overlap
    unfolding stacked
    over_is = is

    -- as the code has the height, the width and the LFs behind a row
    module _ (h : ℕ) (h-is : h ≡ high) where
      high_is : h ≡ both.height
      unfolding stacked
      high_is = h-is ∙ ap (λ (x : ℕ). n + m - x) is

      pub too_high : max_stack_height < h → (r : Result Stacked Refusal) (area : List ℕ) → RefusesStack stack_too_high room r area → PutStack both end room r area
      too_high u r area g = refused both end room stack_too_high r area g (high-told both end room (omega (arith, high_is)))

      module _ (low : h ≤ max_stack_height) (w e : ℕ) (w-is : w ≡ wider a b) (e-is : e ≡ end) where
        wide_is : w ≡ both.block.width
        unfolding stacked
        wide_is = w-is

        size_is : h * (w + e) ≡ both.height * (both.block.width + end)
        size_is = ap₂ (λ (x y : ℕ). x * (y + e)) high_is wide_is ∙ ap (λ (x : ℕ). both.height * (both.block.width + x)) e-is

        pub no_room : room < h * (w + e) → (r : Result Stacked Refusal) (area : List ℕ) → RefusesStack area_too_small room r area → PutStack both end room r area
        no_room u r area g = refused both end room area_too_small r area g (small-told both end room (omega (arith, high_is)) (omega (arith, size_is)))

        rows_are : rows_of (with_end (wider a b) (stacked_at layout hardblank n o a b)) high (wider a b + end) ≡ bytes both end room
        unfolding stacked
        rows_are = ap (λ (x : ℕ). rows_of (with_end (wider a b) (stacked_at layout hardblank n x a b)) (n + m - x) (wider a b + end)) is

        size_told : h * (w + e) ≡ high * (wider a b + end)
        size_told = ap₂ (λ (x y : ℕ). x * (y + e)) h-is w-is ∙ ap (λ (x : ℕ). high * (wider a b + x)) e-is

        -- the rows written, and zeros behind them
        pub done : h * (w + e) ≤ room → (rows area : List ℕ) → length rows ≡ room → take (high * (wider a b + end)) rows ≡ rows_of (with_end (wider a b) (stacked_at layout hardblank n o a b)) high (wider a b + end) → area ≡ take (h * (w + e)) rows ++ zeros (length rows - h * (w + e)) → PutStack both end room (stacking o h w) area
        done u rows area l t z =
            as_told both end room (stacking o h w) area (stack_tells (stacking both.overlap both.height both.block.width))
            (fits_told both end room (omega (arith, high_is)) (omega (arith, size_is)))
            (ap (λ (x : ℕ). stack_tells (stacking x h w)) over_is ∙ ap₂ (λ (x y : ℕ). stack_tells (stacking both.overlap x y)) high_is wide_is)
            (z ∙ (ap (λ (k : ℕ). take k rows ++ zeros (length rows - k)) size_told
            ∙ (padded_of (rows_of (with_end (wider a b) (stacked_at layout hardblank n o a b)) high (wider a b + end)) rows (high * (wider a b + end)) room t (length-rows (with_end (wider a b) (stacked_at layout hardblank n o a b)) high (wider a b + end)) l
            ∙ ap (λ (x : List ℕ). padded x room) rows_are)))

-- the call
module _ (layout : VerticalLayout) (hardblank n upperWidth : ℕ) (upper : List ℕ) (m lowerWidth : ℕ) (lower : List ℕ) (room : ℕ) (r : Result Stacked Refusal) (area : List ℕ) where
  abbrev test : Bool
  test = good_stack layout hardblank n upperWidth (length upper) m lowerWidth (length lower)

  abbrev its : Stack
  its = stack_of layout hardblank n upperWidth upper m lowerWidth lower

  pub bad : test ≡ false → RefusesStack bad_shape room r area → StackGives layout hardblank n upperWidth upper m lowerWidth lower room r area
  unfolding stack_told stack_area
  bad e g = record { answer = g.answer ∙ rw e; area = g.area ∙ rw e (zeros-after bad_shape (stack_rows its) room) }

  -- rows without an end are the rows
  size-plain : its.height * (its.block.width + 0) ≡ stack_size its
  size-plain = let e : its.block.width + 0 ≡ its.block.width = omega arith in ap (λ (w : ℕ). its.height * w) e

  pub good : test ≡ true → PutStack its 0 room r area → StackGives layout hardblank n upperWidth upper m lowerWidth lower room r area
  unfolding stack_told stack_area
  good e g =
      let t = ap (λ (k : ℕ). fit_told its k room) size-plain in
      record {
        answer = g.answer ∙ (t ∙ rw e);
        area = g.area ∙ (ap₂ (λ (x : StackTold) (bytes : List ℕ). area_after x bytes room) t (not_ended its.block.width its.block.cells its.height) ∙ rw e);
      }
