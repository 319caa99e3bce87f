-- `columns::overlaps::row_passes` meets its contract: the pairs of a row are tested one after another.
use mathlib.Core.Path.{◌≡◌, ◌∙◌, sym, ap₂}
use Prim.Native.Nat.{◌+◌, ◌-◌, min}
use native.Mathlib.Omega.{arith}
use Rattle.ground.proofs.Counting.{every-none, every_next, every-stop}
use Rattle.columns.specs.Placing.{placed_block}
use Rattle.columns.proofs.Columns.{cell_inside}
use Rattle.columns.proofs.overlaps.row_passes.Goals as goal

pub loop-c-init : goal.loop-c-init
loop-c-init g c = λ p d. every-none _

pub returns-then-not-test : goal.returns-then-not-test
returns-then-not-test g c = λ p d.
    let a = c.args in
    let x = c.blanked-x.ensures ∙ sym (cell_inside a.hardblank.0 (placed_block a.upper) c.loop-c.c (a.upper.height - a.o + a.i) (omega (arith, c.min-c-end.ensures))) in
    let y = c.blanked-y.ensures ∙ sym (cell_inside a.hardblank.0 (placed_block a.lower) c.loop-c.c a.i (omega (arith, c.min-c-end.ensures))) in
    let pair = d _ _ _ c.test.ensures ∙ ap₂ p x y in
    sym (every-stop _ (min a.upper.width a.lower.width) c.loop-c.c (omega (arith, c.min-c-end.ensures)) (sym pair ∙ c.if-not-test.true))

pub loop-c-preserved : goal.loop-c-preserved
loop-c-preserved g c = λ p d.
    let a = c.args in
    let x = c.blanked-x.ensures ∙ sym (cell_inside a.hardblank.0 (placed_block a.upper) c.loop-c.c (a.upper.height - a.o + a.i) (omega (arith, c.min-c-end.ensures))) in
    let y = c.blanked-y.ensures ∙ sym (cell_inside a.hardblank.0 (placed_block a.lower) c.loop-c.c a.i (omega (arith, c.min-c-end.ensures))) in
    let pair = d _ _ _ c.test.ensures ∙ ap₂ p x y in
    every_next _ c.loop-c.c (c.loop-c.invariant p d) (sym pair ∙ c.if-not-test.false)

pub returns : goal.returns
returns g c = λ p d.
    let e : c.loop-c.c ≡ min c.args.upper.width c.args.lower.width = omega (arith, c.loop-c-test.false, c.min-c-end.ensures) in
    sym (rw e at (c.loop-c.invariant p d))
