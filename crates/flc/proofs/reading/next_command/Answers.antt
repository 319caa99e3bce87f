use mathlib.Core.Path.{◌≡◌, sym, ap, ◌∙◌}
use native.Mathlib.Omega.{arith}
use Rattle.std.specs.Prelude.{Ok}
use Rattle.std.proofs.lemmas.Result.{err_from_is_err_and}
use Rattle.flc.specs.declared.LineAct.TheVariants.{Lists, Passes}
use Rattle.flc.specs.Steps.{step_at, Next}
use Rattle.flc.proofs.StepLaws.{StepPassed, step_acts, step_found, step_passed, step_refused, step_end}
use Rattle.flc.proofs.reading.next_command.Goals.{In-Passes}
use Rattle.flc.proofs.reading.next_command.Goals as goal

abbrev Passed : Type 0
Passed = In-Passes

passed : (c : Passed) → StepPassed c.args.s.now c.loop-line.cursor.at c.loop-line.stage c.args.n c.in-Passes.k c.in-Some.line.next
passed c =
    let s = c.args.s.now in
    let l = c.loop-line in
    step_passed s l.cursor.at l.stage c.args.n _ _ (step_acts s l.cursor.at l.stage c.args.n _ c.in-Some.line _ (sym c.next_line.ensures ∙ c.in_ok-line.was) c.in-Some.is c.in-Passes.is)

pub returns-in_err-line : goal.returns-in_err-line
returns-in_err-line c =
    let s = c.args.s.now in
    let l = c.loop-line in
    let p = err_from_is_err_and c.from_residual.result c.from_residual.ensures.1 in
    rw (p.1, p.2)
    (record { rest = l.invariant.1 ∙ step_refused s l.cursor.at l.stage c.args.n c.in_err-line.field-0.0 (sym c.next_line.ensures ∙ c.in_err-line.was); legal = tt })

pub returns-in-Lists : goal.returns-in-Lists
returns-in-Lists c =
    let s = c.args.s.now in
    let l = c.loop-line in
    let f = step_found s l.cursor.at l.stage c.args.n _ _ (step_acts s l.cursor.at l.stage c.args.n _ c.in-Some.line _ (sym c.next_line.ensures ∙ c.in_ok-line.was) c.in-Some.is c.in-Lists.is) in
    record { rest = l.invariant.1 ∙ f.rest; legal = (f.room, omega (arith, f.same_stage, l.invariant.0)) }

pub loop-line-smaller : goal.loop-line-smaller
loop-line-smaller c =
    let p = passed (goal.at.loop-line-smaller c).In-Passes in omega (arith, p.further, p.inside)

pub loop-line-preserved : goal.loop-line-preserved
loop-line-preserved c =
    let p = passed (goal.at.loop-line-preserved c).In-Passes in (p.staged c.loop-line.invariant.0, c.loop-line.invariant.1 ∙ p.rest)

pub returns : goal.returns
returns c =
    let s = c.args.s.now in
    let l = c.loop-line in
    record { rest = l.invariant.1 ∙ step_end s l.cursor.at l.stage c.args.n (sym c.next_line.ensures ∙ c.in_ok-line.was ∙ ap Ok c.in_default.is); legal = tt }
