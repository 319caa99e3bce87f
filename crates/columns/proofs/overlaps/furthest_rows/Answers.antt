-- `columns::overlaps::furthest_rows` meets its contract: the overlaps are tested one after another.
use mathlib.Core.Path.{◌∙◌, sym}
use Prim.Native.Nat.{min}
use native.Mathlib.Omega.{arith}
use Rattle.columns.specs.Placing.{placed_columns}
use Rattle.columns.proofs.Facing.{far_none, far_is}
use Rattle.columns.proofs.overlaps.furthest_rows.Goals as goal

pub loop-o-init : goal.loop-o-init
loop-o-init g c = λ p d.
    far_none p (min c.args.upper.width c.args.lower.width) c.args.upper.height c.args.lower.height (placed_columns c.args.hardblank.0 c.args.upper) (placed_columns c.args.hardblank.0 c.args.lower)

pub returns-then-not-rows_pass : goal.returns-then-not-rows_pass
returns-then-not-rows_pass g c = λ p d.
    far_is p (min c.args.upper.width c.args.lower.width) c.args.upper.height c.args.lower.height (placed_columns c.args.hardblank.0 c.args.upper) (placed_columns c.args.hardblank.0 c.args.lower) c.loop-o.o (omega (arith, c.loop-o-test.true, c.min-most.ensures)) (c.loop-o.invariant p d) (λ h. sym (c.rows_pass.ensures p d) ∙ c.if-not-rows_pass.true)

pub returns : goal.returns
returns g c = λ p d.
    far_is p (min c.args.upper.width c.args.lower.width) c.args.upper.height c.args.lower.height (placed_columns c.args.hardblank.0 c.args.upper) (placed_columns c.args.hardblank.0 c.args.lower) c.min-most.result (omega (arith, c.min-most.ensures)) (λ k u. c.loop-o.invariant p d k (omega (arith, u, c.loop-o-test.false))) (λ h. absurd (omega (arith, h, c.min-most.ensures)))
