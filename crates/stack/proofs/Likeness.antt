-- Blocks that are alike are stacked alike; and what is known of a stack that is put out is known of every stack like it.
-- Assumes nothing.
use mathlib.Core.Path.{◌≡◌, refl, ◌∙◌, ap, ap₂, subst}
use mathlib.Core.Bool.{cond}
use mathlib.Core.List.{List}
use Prim.Native.Nat.{ℕ, ◌+◌, ◌-◌, ◌*◌, max}
use native.Mathlib.Omega.{arith}
use native.Mathlib.Decide.{dec_lt}
use lib.Dec.{ltb}
use borrow.Author.Tests.{le-ltb}
use Rattle.ground.specs.Limits.{max_stack_height}
use Rattle.ground.specs.Refusals.{area_too_small, stack_too_high}
use Rattle.subchars.specs.declared.VerticalSmushing.TheVariants.{Universal, Controlled}
use Rattle.subchars.specs.declared.VerticalLayout.{VerticalLayout}
use Rattle.subchars.specs.declared.VerticalLayout.TheVariants.{FullHeight, Fitting, Smushing}
use Rattle.lanes.specs.Blocks.{Cells, Agree}
use Rattle.lanes.specs.Overlap.{furthest, fitting, smushing}
use Rattle.lanes.proofs.Agreeing.{furthest_cong, fitting_cong, smushing_cong, joined_cong}
use Rattle.blocks.specs.Block.{Block, rows_of}
use Rattle.blocks.specs.Writing.{Like}
use Rattle.blocks.proofs.Rows.{rows_cong}
use Rattle.vertical.specs.VerticalPair.{VerticalLine, set_has, merges, merged_byte, barred, other_rules}
use Rattle.std.specs.Prelude.{Result}
use Rattle.ground.specs.declared.refusals.Refusal.{Refusal}
use Rattle.stack.specs.declared.Stacked.{Stacked}
use Rattle.columns.specs.Stack.{upright, supersmushing, columns_overlap, wider, stack_overlap, stacked_at, Stack, stacked}
use Rattle.columns.specs.Placing.{with_end}
use Rattle.stack.specs.StackCall.{StackTold, stack_tells, stacking, no_stack_if, fit_told, area_after, PutStack}
use Rattle.columns.proofs.Columns.{upright-like}
use Rattle.columns.proofs.Demand.{overlap_smaller, ruled}

-- columns that agree overlap alike
module _ (w n m : ℕ) (a a' b b' : Cells) (upper : Agree w n a a') (lower : Agree w m b b') where
  super_cong : (set : ℕ) → supersmushing set w n m a b ≡ supersmushing set w n m a' b'
  unfolding supersmushing
  super_cong set =
      ap (λ (x : ℕ). cond (ltb (fitting w n m a b) x) x (smushing (merges (ruled (other_rules set))) w n m a b)) (furthest_cong w n m a a' b b' upper lower barred)
      ∙ ap₂ (λ (f o : ℕ). cond (ltb f (furthest barred w n m a' b')) (furthest barred w n m a' b') o) (fitting_cong w n m a a' b b' upper lower) (smushing_cong w n m a a' b b' upper lower (merges (ruled (other_rules set))))

  columns_cong : (layout : VerticalLayout) → columns_overlap layout w n m a b ≡ columns_overlap layout w n m a' b'
  unfolding columns_overlap
  columns_cong FullHeight = refl
  columns_cong Fitting = fitting_cong w n m a a' b b' upper lower
  columns_cong (Smushing Universal) = smushing_cong w n m a a' b b' upper lower (merges (Smushing Universal))
  columns_cong (Smushing (Controlled set)) = ap₂ (cond (set_has set VerticalLine)) (super_cong set) (smushing_cong w n m a a' b b' upper lower (merges (ruled set)))

-- Two stacks have the same sizes, and the same sub-characters within them.
pub record StackLike (s t : Stack) : Type 0 where
  pub overlap : s.overlap ≡ t.overlap
  pub height : s.height ≡ t.height
  pub width : s.block.width ≡ t.block.width
  pub cells : Agree s.height s.block.width s.block.cells t.block.cells

module _ (layout : VerticalLayout) (hardblank n : ℕ) (a a' : Block) (m : ℕ) (b b' : Block) (upper : Like n a a') (lower : Like m b b') where
  abbrev o : ℕ
  o = stack_overlap layout hardblank n a m b

  same-wide : wider a b ≡ wider a' b'
  same-wide = ap₂ max upper.width lower.width

  same-overlap : o ≡ stack_overlap layout hardblank n a' m b'
  unfolding stack_overlap
  same-overlap =
      columns_cong (wider a b) n m (upright hardblank a) (upright hardblank a') (upright hardblank b) (upright hardblank b') (upright-like hardblank n (wider a b) a a' upper) (upright-like hardblank m (wider a b) b b' lower) layout
      ∙ ap (λ (w : ℕ). columns_overlap layout w n m (upright hardblank a') (upright hardblank b')) same-wide

  same-cells : (v : ℕ) → o ≡ v → Agree (n + m - o) (wider a b) (stacked_at layout hardblank n o a b) (stacked_at layout hardblank n v a' b')
  unfolding stacked_at
  same-cells v e =
      subst (λ (x : ℕ). Agree (n + m - o) (wider a b) (λ r c. stacked_at layout hardblank n o a b r c) (λ r c. stacked_at layout hardblank n x a' b' r c)) e
      λ r c u z.
      joined_cong (wider a b) n m (upright hardblank a) (upright hardblank a') (upright hardblank b) (upright hardblank b') (upright-like hardblank n (wider a b) a a' upper) (upright-like hardblank m (wider a b) b b' lower)
      (merged_byte layout) o (omega (arith, overlap_smaller hardblank n a m b layout)) c r z u

  pub stacked-like : StackLike (stacked layout hardblank n a m b) (stacked layout hardblank n a' m b')
  unfolding stacked
  stacked-like = record { overlap = same-overlap; height = ap (λ (x : ℕ). n + m - x) same-overlap; width = same-wide; cells = same-cells (stack_overlap layout hardblank n a' m b') same-overlap }

-- what is put out of a stack
module _ (s t : Stack) (like : StackLike s t) (end room : ℕ) where
  abbrev told_by : ℕ → ℕ → ℕ → StackTold
  told_by o h w = no_stack_if (ltb max_stack_height h) stack_too_high (no_stack_if (ltb room (h * (w + end))) area_too_small (stack_tells (stacking o h w)))

  told-like : fit_told s (s.height * (s.block.width + end)) room ≡ fit_told t (t.height * (t.block.width + end)) room
  unfolding fit_told
  told-like =
      ap (λ (x : ℕ). told_by x s.height s.block.width) like.overlap
      ∙ (ap (λ (x : ℕ). told_by t.overlap x s.block.width) like.height ∙ ap (λ (x : ℕ). told_by t.overlap t.height x) like.width)

  rows-like : rows_of (with_end s.block.width s.block.cells) s.height (s.block.width + end) ≡ rows_of (with_end t.block.width t.block.cells) t.height (t.block.width + end)
  rows-like =
      rows_cong (with_end s.block.width s.block.cells) (with_end s.block.width t.block.cells) s.height (s.block.width + end)
      (λ r k u v.
      elim (dec_lt k s.block.width) [
        | yes l ↦ ap (λ (x : ℕ). cond (ltb k s.block.width) x 10) (like.cells r k u l)
        | no g ↦ let e = le-ltb k s.block.width (omega arith) in rw e
      ])
      ∙ (ap (λ (h : ℕ). rows_of (with_end s.block.width t.block.cells) h (s.block.width + end)) like.height
      ∙ ap (λ (w : ℕ). rows_of (with_end w t.block.cells) t.height (w + end)) like.width)

  pub put_like : (r : Result Stacked Refusal) (out : List ℕ) → PutStack s end room r out → PutStack t end room r out
  put_like r out p =
      record {
        answer = p.answer ∙ told-like;
        area = p.area ∙ ap₂ (λ (x : StackTold) (bytes : List ℕ). area_after x bytes room) told-like rows-like;
      }
