use mathlib.Core.Path.{sym, ◌∙◌}
use native.Mathlib.Omega.{arith}
use Rattle.records.proofs.WalkLaws.{skim_at, skim_end, walk_on, twice_here, twice_next, twice_none}
use Rattle.records.proofs.none_twice.Goals as goal

pub overflow_add-at : goal.overflow_add-at
overflow_add-at c =
    let a = c.args in
    let l = c.loop-found in
    let r = c.in-Some.found in
    let x = skim_at a.head a.s.now l.at l.invariant.0 r (sym c.in-Some.is ∙ c.skim_part.ensures) in
    omega (arith, x.inside l.invariant.0.inside)

pub is_repeated-requires : goal.is_repeated-requires
is_repeated-requires c =
    let a = c.args in
    let l = c.loop-found in
    let r = c.in-Some.found in
    let x = skim_at a.head a.s.now l.at l.invariant.0 r (sym c.in-Some.is ∙ c.skim_part.ensures) in
    walk_on a.head a.s.now l.at l.invariant.0 r x

pub returns-then-is_repeated : goal.returns-then-is_repeated
returns-then-is_repeated c =
    let a = c.args in
    let l = c.loop-found in
    let r = c.in-Some.found in
    let x = skim_at a.head a.s.now l.at l.invariant.0 r (sym c.in-Some.is ∙ c.skim_part.ensures) in
    sym (l.invariant.1 ∙ twice_here a.head a.s.now l.at r x (sym c.is_repeated.ensures ∙ c.if-is_repeated.true))

pub loop-found-smaller : goal.loop-found-smaller
loop-found-smaller c =
    let a = c.args in
    let l = c.loop-found in
    let r = c.in-Some.found in
    let x = skim_at a.head a.s.now l.at l.invariant.0 r (sym c.in-Some.is ∙ c.skim_part.ensures) in
    omega (arith, x.inside l.invariant.0.inside, x.some)

pub loop-found-preserved : goal.loop-found-preserved
loop-found-preserved c =
    let a = c.args in
    let l = c.loop-found in
    let r = c.in-Some.found in
    let x = skim_at a.head a.s.now l.at l.invariant.0 r (sym c.in-Some.is ∙ c.skim_part.ensures) in
    (walk_on a.head a.s.now l.at l.invariant.0 r x, l.invariant.1 ∙ twice_next a.head a.s.now l.at r x (sym c.is_repeated.ensures ∙ c.if-is_repeated.false))

pub returns : goal.returns
returns c =
    let a = c.args in
    let l = c.loop-found in
    sym (l.invariant.1 ∙ twice_none a.head a.s.now l.at _ (skim_end a.head a.s.now l.at l.invariant.0 (sym c.in_default.is ∙ c.skim_part.ensures)))
