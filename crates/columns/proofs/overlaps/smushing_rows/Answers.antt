-- `columns::overlaps::smushing_rows` meets its contract: the fitting overlap, or one more.
use mathlib.Core.Path.{◌∙◌, sym}
use Prim.Native.Nat.{min}
use native.Mathlib.Omega.{arith}
use Rattle.lanes.proofs.Smushing.{more-at, full_at, not_at}
use Rattle.columns.specs.Placing.{placed_columns}
use Rattle.columns.proofs.overlaps.smushing_rows.Goals.{else-fit-min-via-then-fit-min+else-rows_pass, else-fit-min-via-else-fit-min}
use Rattle.columns.proofs.overlaps.smushing_rows.Goals as goal

pub returns-then-rows_pass : goal.returns-then-rows_pass
returns-then-rows_pass g c = λ p d.
    let f = c.fitting_rows-fit in
    more-at (min c.args.upper.width c.args.lower.width) c.args.upper.height c.args.lower.height (placed_columns c.args.hardblank.0 c.args.upper) (placed_columns c.args.hardblank.0 c.args.lower) p f.result f.ensures (omega (arith, c.if-fit-min.true, c.min.ensures)) (sym (c.rows_pass.ensures p d) ∙ c.if-rows_pass.true)

pub returns : goal.returns
returns g c = λ p d.
    let f = c.fitting_rows-fit in
    elim c.else-fit-min.branch [
      | else-fit-min-via-then-fit-min+else-rows_pass w ↦
          not_at (min c.args.upper.width c.args.lower.width) c.args.upper.height c.args.lower.height (placed_columns c.args.hardblank.0 c.args.upper) (placed_columns c.args.hardblank.0 c.args.lower) p f.result f.ensures (sym (w.rows_pass.ensures p d) ∙ w.if-rows_pass.false)
      | else-fit-min-via-else-fit-min w ↦
          full_at (min c.args.upper.width c.args.lower.width) c.args.upper.height c.args.lower.height (placed_columns c.args.hardblank.0 c.args.upper) (placed_columns c.args.hardblank.0 c.args.lower) p f.result f.ensures (omega (arith, w.if-fit-min.false, c.min.ensures))
    ]
