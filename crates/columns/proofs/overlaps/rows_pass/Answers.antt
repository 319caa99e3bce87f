-- `columns::overlaps::rows_pass` meets its contract: the rows are tested one after another.
use mathlib.Core.Path.{◌≡◌, ◌∙◌, sym}
use Prim.Native.Nat.{min}
use native.Mathlib.Omega.{arith}
use Rattle.ground.proofs.Counting.{every-none, every_next, every-stop}
use Rattle.columns.specs.Placing.{placed_columns}
use Rattle.columns.proofs.Facing.{rows-facing}
use Rattle.columns.proofs.overlaps.rows_pass.Goals as goal

pub loop-i-init : goal.loop-i-init
loop-i-init g c = λ p d. every-none _

pub returns-then-not-row_passes : goal.returns-then-not-row_passes
returns-then-not-row_passes g c = λ p d.
    let a = c.args in
    let u = placed_columns a.hardblank.0 a.upper in
    let l = placed_columns a.hardblank.0 a.lower in
    sym (sym (rows-facing p (min a.upper.width a.lower.width) a.upper.height u l a.o)
    ∙ every-stop _ a.o c.loop-i.i (omega arith) (sym (c.row_passes.ensures p d) ∙ c.if-not-row_passes.true))

pub loop-i-preserved : goal.loop-i-preserved
loop-i-preserved g c = λ p d. every_next _ c.loop-i.i (c.loop-i.invariant p d) (sym (c.row_passes.ensures p d) ∙ c.if-not-row_passes.false)

pub returns : goal.returns
returns g c = λ p d.
    let a = c.args in
    let u = placed_columns a.hardblank.0 a.upper in
    let l = placed_columns a.hardblank.0 a.lower in
    let e : c.loop-i.i ≡ a.o = omega (arith, c.loop-i-test.false) in
    sym (sym (rows-facing p (min a.upper.width a.lower.width) a.upper.height u l a.o) ∙ rw e at (c.loop-i.invariant p d))
