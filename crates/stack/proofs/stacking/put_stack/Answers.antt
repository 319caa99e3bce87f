-- `stack::stacking::put_stack` meets its contract.
use mathlib.Core.Path.{◌∙◌}
use native.Mathlib.Omega.{arith}
use lib.ListN.{length}
use Rattle.columns.specs.Placing.{placed_block}
use Rattle.columns.proofs.Demand.{overlap_smaller}
use Rattle.stack.specs.StackCall.{lfs}
use Rattle.stack.proofs.StackCases.{lfs-counted, too_high, no_room, done}
use Rattle.stack.proofs.stacking.put_stack.Goals as goal

-- the overlap is at most the smaller height
pub invariant_of-both : goal.invariant_of-both
invariant_of-both c =
    let a = c.args in
    let o = c.overlap_of-overlap in
    let least = overlap_smaller a.hardblank.0 a.upper.height (placed_block a.upper) a.lower.height (placed_block a.lower) a.layout in
    record { fits = (omega (arith, o.ensures, least), omega (arith, o.ensures, least)) }

pub returns-then-height-gt-MAX_STACK_HEIGHT : goal.returns-then-height-gt-MAX_STACK_HEIGHT
returns-then-height-gt-MAX_STACK_HEIGHT c =
    let a = c.args in
    too_high a.layout a.hardblank.0 a.upper.height (placed_block a.upper) a.lower.height (placed_block a.lower) (lfs a.lf_ended) (length a.out.now) c.overlap_of-overlap.result c.overlap_of-overlap.ensures
    c.height-height.result c.height-height.ensures c.if-height-gt-MAX_STACK_HEIGHT.true _ _ c.refuse.ensures

pub returns-then-out-needed : goal.returns-then-out-needed
returns-then-out-needed c =
    let a = c.args in
    no_room a.layout a.hardblank.0 a.upper.height (placed_block a.upper) a.lower.height (placed_block a.lower) (lfs a.lf_ended) (length a.out.now) c.overlap_of-overlap.result c.overlap_of-overlap.ensures
    c.height-height.result c.height-height.ensures c.if-height-gt-MAX_STACK_HEIGHT.false c.width-width.result c.from.result c.width-width.ensures (c.from.ensures ∙ lfs-counted a.lf_ended) c.if-out-needed.true _ _ c.refuse-then-out-needed.ensures

pub returns : goal.returns
returns c =
    let a = c.args in
    let rows = c.write_rows in
    done a.layout a.hardblank.0 a.upper.height (placed_block a.upper) a.lower.height (placed_block a.lower) (lfs a.lf_ended) (length a.out.now) c.overlap_of-overlap.result c.overlap_of-overlap.ensures
    c.height-height.result c.height-height.ensures c.if-height-gt-MAX_STACK_HEIGHT.false c.width-width.result c.from.result c.width-width.ensures (c.from.ensures ∙ lfs-counted a.lf_ended) c.if-out-needed.false
    rows.new.out _ rows.auto.out rows.ensures c.zero_from.ensures
