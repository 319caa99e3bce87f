-- `wrapping::wrap_tested` meets its contract.
use mathlib.Core.Path.{sym, ap, ◌∙◌}
use lib.ListN.{length}
use Rattle.wrapping.specs.Wrapping.{unwrapped}
use Rattle.wrapping.proofs.OrderLaws.{out_as, firsts-small, ends-small, scratch_small, areas_enough}
use Rattle.wrapping.proofs.wrap_tested.Goals as goal

pub returns-then-line_firsts-lt-MIN_LINES : goal.returns-then-line_firsts-lt-MIN_LINES
returns-then-line_firsts-lt-MIN_LINES c =
    let a = c.args in
    out_as _ _ _ _ _ _ _ _ _ (firsts-small a.font.now a.control.now a.limit a.text.now (length a.line_firsts.now) (length a.line_ends.now) (length a.scratch.now) c.if-line_firsts-lt-MIN_LINES.true ∙ ap unwrapped (sym c.of.ensures)) c.refuse.ensures

pub returns-then-line_ends-lt-MIN_LINES : goal.returns-then-line_ends-lt-MIN_LINES
returns-then-line_ends-lt-MIN_LINES c =
    let a = c.args in
    out_as _ _ _ _ _ _ _ _ _ (ends-small a.font.now a.control.now a.limit a.text.now (length a.line_firsts.now) (length a.line_ends.now) (length a.scratch.now) c.if-line_ends-lt-MIN_LINES.true ∙ ap unwrapped (sym c.of-then-line_ends-lt-MIN_LINES.ensures)) c.refuse-then-line_ends-lt-MIN_LINES.ensures

pub returns-then-scratch-lt-MIN_SCRATCH : goal.returns-then-scratch-lt-MIN_SCRATCH
returns-then-scratch-lt-MIN_SCRATCH c =
    let a = c.args in
    out_as _ _ _ _ _ _ _ _ _ (scratch_small a.font.now a.control.now a.limit a.text.now (length a.line_firsts.now) (length a.line_ends.now) (length a.scratch.now) c.if-scratch-lt-MIN_SCRATCH.true ∙ ap unwrapped (sym c.of-then-scratch-lt-MIN_SCRATCH.ensures)) c.refuse-then-scratch-lt-MIN_SCRATCH.ensures

pub returns : goal.returns
returns c =
    let a = c.args in
    out_as _ _ _ _ _ _ _ _ _ (areas_enough a.font.now a.control.now a.limit a.text.now (length a.line_firsts.now) (length a.line_ends.now) (length a.scratch.now) c.if-line_firsts-lt-MIN_LINES.false c.if-line_ends-lt-MIN_LINES.false c.if-scratch-lt-MIN_SCRATCH.false) c.wrap_once.ensures
