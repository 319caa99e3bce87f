-- `stack::stacking::stack_blocks` meets its contract, for every input.
use mathlib.Core.Bool.{true}
use mathlib.Core.Path.{◌≡◌, sym, ◌∙◌, ap₂, subst}
use Prim.Native.Nat.{ℕ}
use lib.ListN.{length}
use Rattle.blocks.specs.Block.{Block, exact_block}
use Rattle.columns.specs.Stack.{Stack, stacked}
use Rattle.columns.specs.Placing.{placed_block}
use Rattle.stack.specs.StackCall.{good_stack, PutStack}
use Rattle.stack.proofs.GoodStack.{Exact, both_exact}
use Rattle.stack.proofs.StackCases.{bad, good}
use Rattle.stack.proofs.stacking.stack_blocks.Goals.{Else-not-good_stack}
use Rattle.stack.proofs.stacking.stack_blocks.Goals as goal

is_good : (g : Else-not-good_stack) → let a = g.args in good_stack a.layout a.hardblank.0 a.upper_height a.upper_width (length a.upper.now) a.lower_height a.lower_width (length a.lower.now) ≡ true
is_good g = sym g.good_stack.ensures ∙ g.if-not-good_stack.false

exact : (g : Else-not-good_stack) → let a = g.args in Exact a.upper_height a.upper_width (length a.upper.now) × Exact a.lower_height a.lower_width (length a.lower.now)
exact g = let a = g.args in both_exact a.layout a.hardblank.0 a.upper_height a.upper_width (length a.upper.now) a.lower_height a.lower_width (length a.lower.now) (is_good g)

pub returns-then-not-good_stack : goal.returns-then-not-good_stack
returns-then-not-good_stack c =
    let a = c.args in
    bad a.layout a.hardblank.0 a.upper_height a.upper_width a.upper.now a.lower_height a.lower_width a.lower.now (length a.out.now) _ _
    (sym c.good_stack.ensures ∙ c.if-not-good_stack.true) c.refuse.ensures

pub placed-requires : goal.placed-requires
placed-requires c = (exact (goal.at.placed-requires c).Else-not-good_stack).0

pub placed-requires-2 : goal.placed-requires-2
placed-requires-2 c = (exact (goal.at.placed-requires-2 c).Else-not-good_stack).1

pub returns : goal.returns
returns c =
    let a = c.args in
    let u = c.placed in
    let l = c.placed-2 in
    let as_lent : stacked a.layout a.hardblank.0 u.result.height (placed_block u.result) l.result.height (placed_block l.result)
    ≡ stacked a.layout a.hardblank.0 a.upper_height (exact_block a.upper_width a.upper.now) a.lower_height (exact_block a.lower_width a.lower.now) =
    ap₂ (λ (n : ℕ) (b : Block). stacked a.layout a.hardblank.0 n b l.result.height (placed_block l.result)) u.ensures.0 u.ensures.1
    ∙ ap₂ (λ (m : ℕ) (b : Block). stacked a.layout a.hardblank.0 a.upper_height (exact_block a.upper_width a.upper.now) m b) l.ensures.0 l.ensures.1 in
    good a.layout a.hardblank.0 a.upper_height a.upper_width a.upper.now a.lower_height a.lower_width a.lower.now (length a.out.now) _ _ (is_good (goal.at.returns c).Else-not-good_stack)
    (subst (λ (s : Stack). PutStack s 0 (length a.out.now) c.put_stack.result c.put_stack.new.out) as_lent c.put_stack.ensures)
