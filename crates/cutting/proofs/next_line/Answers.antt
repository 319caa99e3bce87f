-- `cutting::next_line` meets its contract: the place of the line's end and the bytes kept decide what the step finds.
use native.Mathlib.Omega.{arith}
use Rattle.ground.proofs.Runs.{run_le}
use Rattle.cutting.specs.Cut.{not_lf}
use Rattle.cutting.proofs.StepLaws.{answers-ended, answers-begun}
use Rattle.cutting.proofs.next_line.Goals as goal

pub keep-n-requires : goal.keep-n-requires
keep-n-requires c =
    (c.requires.0, c.requires.1, omega (arith, run_le not_lf c.args.part.now, c.line_end-end.ensures))

pub returns-then-end-part : goal.returns-then-end-part
returns-then-end-part c =
    let e = c.line_end-end in
    answers-ended c.args.held c.args.line.now _ c.args.part.now e.result c.keep-n.result c.requires.0 c.keep-n.ensures e.ensures c.if-end-part.true

pub returns : goal.returns
returns c =
    let e = c.line_end-end in
    answers-begun c.args.held c.args.line.now _ c.args.part.now e.result c.keep-n.result c.requires.0 c.keep-n.ensures e.ensures (omega arith)
