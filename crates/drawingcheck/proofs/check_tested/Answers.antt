-- `drawingcheck::check_tested` meets its contract.
use mathlib.Core.Path.{◌∙◌}
use lib.ListN.{length}
use Rattle.drawingcheck.proofs.CheckCases.{scratch_small, scratch_enough}
use Rattle.drawingcheck.proofs.check_tested.Goals as goal

pub returns-then-scratch-lt-MIN_SCRATCH : goal.returns-then-scratch-lt-MIN_SCRATCH
returns-then-scratch-lt-MIN_SCRATCH c = rw c.of.ensures (scratch_small c.args.font.now c.args.control.now c.args.text.now c.args.overlaps.now c.args.figure.now (length c.args.scratch.now) c.if-scratch-lt-MIN_SCRATCH.true)

pub returns : goal.returns
returns c = c.check_once.ensures ∙ scratch_enough c.args.font.now c.args.control.now c.args.text.now c.args.overlaps.now c.args.figure.now (length c.args.scratch.now) c.if-scratch-lt-MIN_SCRATCH.false
