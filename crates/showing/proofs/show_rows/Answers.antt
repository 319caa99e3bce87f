use mathlib.Core.Path.{refl, ◌∙◌, sym, ap}
use Prim.Native.Nat.{ℕ, ◌+◌, ◌*◌}
use native.Mathlib.Nat.{zero-mul}
use native.Mathlib.Omega.{arith}
use borrow.Author.Rules.{rules}
use Rattle.ground.specs.Limits.{max_line_width}
use Rattle.blocks.proofs.Rows.{rows_next, row_next}
use Rattle.blocks.specs.Block.{rows_of}
use Rattle.blocks.specs.Writing.{from_on}
use Rattle.lanes.specs.Blocks.{Cells}
use Rattle.showing.specs.Output.{with_lf}
use Rattle.showing.proofs.show_rows.Goals.{At-loop-r, Start}
use Rattle.showing.proofs.show_rows.Goals as goal

abbrev rows : Start → Cells
rows s q = let a = s.args in with_lf a.hardblank.0 a.w (from_on a.area.now (q * max_line_width + a.from))

pub loop-r-init : goal.loop-r-init
unfolding rows_of
loop-r-init c = (search rules, search rules, sym (zero-mul _), refl)

pub loop-r-preserved : goal.loop-r-preserved
loop-r-preserved c =
    let w = c.show_row in
    let n = c.args.w + 1 in (
      omega arith,
      w.auto.out ∙ c.loop-r.invariant.1,
      ap (λ (x : ℕ). x + n) c.loop-r.invariant.2 ∙ sym (row_next c.loop-r.r n),
      rows_next w.new.out c.loop-r.out (rows (goal.at.loop-r-preserved c).Start) c.loop-r.r n c.loop-r.at c.loop-r.invariant.3 w.ensures,
    )
