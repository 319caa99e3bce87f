-- `checking::compare_line` meets its contract.
use mathlib.Core.Path.{◌∙◌, ap}
use Prim.Native.Nat.{ℕ, ◌+◌, ◌*◌}
use Rattle.ground.specs.Limits.{max_line_width}
use Rattle.blocks.specs.Block.{rows_of}
use Rattle.blocks.specs.Writing.{from_on}
use Rattle.showing.specs.Output.{with_lf, shown}
use Rattle.checking.specs.Difference.{first_difference}
use Rattle.checking.proofs.compare_line.Goals as goal

pub returns : goal.returns
unfolding shown
returns c =
    let a = c.args in
    c.compare_rows.ensures
    ∙ ap (λ (b : ℕ). first_difference (rows_of (λ (q : ℕ). with_lf a.mode.hardblank.0 a.w (from_on a.area.now (q * max_line_width + b))) a.h (a.w + 1)) a.figure.now) c.line_start-from.ensures
