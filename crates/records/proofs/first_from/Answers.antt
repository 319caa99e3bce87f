use mathlib.Core.Path.{sym, ◌∙◌}
use native.Mathlib.Omega.{arith}
use Rattle.records.proofs.WalkLaws.{skim_at, skim_end, walk_on, first_here, first_next, first_none}
use Rattle.records.proofs.first_from.Goals as goal

pub returns-then-wanted : goal.returns-then-wanted
returns-then-wanted g c = λ p t.
    let a = c.args in
    let l = c.loop-found in
    let r = c.in-Some.found in
    let x = skim_at a.head a.s.now l.at l.invariant.0 r (sym c.in-Some.is ∙ c.skim_part.ensures) in
    sym (l.invariant.1 p t ∙ first_here a.head a.s.now l.at r x p (sym (t r c.wanted.result c.wanted.ensures) ∙ c.if-wanted.true))

pub overflow_add-at : goal.overflow_add-at
overflow_add-at g c =
    let a = c.args in
    let l = c.loop-found in
    let r = c.in-Some.found in
    let x = skim_at a.head a.s.now l.at l.invariant.0 r (sym c.in-Some.is ∙ c.skim_part.ensures) in
    omega (arith, x.inside l.invariant.0.inside)

pub loop-found-smaller : goal.loop-found-smaller
loop-found-smaller g c =
    let a = c.args in
    let l = c.loop-found in
    let r = c.in-Some.found in
    let x = skim_at a.head a.s.now l.at l.invariant.0 r (sym c.in-Some.is ∙ c.skim_part.ensures) in
    omega (arith, x.inside l.invariant.0.inside, x.some)

pub loop-found-preserved : goal.loop-found-preserved
loop-found-preserved g c =
    let a = c.args in
    let l = c.loop-found in
    let r = c.in-Some.found in
    let x = skim_at a.head a.s.now l.at l.invariant.0 r (sym c.in-Some.is ∙ c.skim_part.ensures) in
    (walk_on a.head a.s.now l.at l.invariant.0 r x, λ p t. l.invariant.1 p t ∙ first_next a.head a.s.now l.at r x p (sym (t r c.wanted.result c.wanted.ensures) ∙ c.if-wanted.false))

pub returns : goal.returns
returns g c = λ p t.
    let a = c.args in
    let l = c.loop-found in
    sym (l.invariant.1 p t ∙ first_none a.head a.s.now l.at p _ (skim_end a.head a.s.now l.at l.invariant.0 (sym c.in_default.is ∙ c.skim_part.ensures)))
