use mathlib.Core.Path.{sym, ◌∙◌}
use native.Mathlib.Omega.{arith}
use Rattle.records.proofs.WalkLaws.{skim_at, skim_end}
use Rattle.edits.proofs.SqueezeLaws.{squeezed_more, squeezed_all}
use Rattle.edits.proofs.squeeze.Goals as goal

pub keep-to-requires : goal.keep-to-requires
keep-to-requires c =
    let l = c.loop-found in
    let r = c.in-Some.found in
    let x = skim_at c.args.head l.area l.at l.invariant.walk r (sym c.in-Some.is ∙ c.skim_part.ensures) in
    (l.invariant.low, x.inside l.invariant.walk.inside)

pub overflow_add-at : goal.overflow_add-at
overflow_add-at c =
    let l = c.loop-found in
    let r = c.in-Some.found in
    let x = skim_at c.args.head l.area l.at l.invariant.walk r (sym c.in-Some.is ∙ c.skim_part.ensures) in
    omega (arith, x.inside l.invariant.walk.inside)

pub loop-found-smaller : goal.loop-found-smaller
loop-found-smaller c =
    let a = c.args in
    let l = c.loop-found in
    let r = c.in-Some.found in
    let x = skim_at a.head l.area l.at l.invariant.walk r (sym c.in-Some.is ∙ c.skim_part.ensures) in
    let n = squeezed_more a.head a.area.now a.from l.area c.keep-to.new.area l.at l.to c.keep-to.result r l.invariant x c.keep-to.ensures in
    omega (arith, x.inside l.invariant.walk.inside, x.some, n.long, l.invariant.long)

pub loop-found-preserved : goal.loop-found-preserved
loop-found-preserved c =
    let a = c.args in
    let l = c.loop-found in
    let r = c.in-Some.found in
    let x = skim_at a.head l.area l.at l.invariant.walk r (sym c.in-Some.is ∙ c.skim_part.ensures) in
    squeezed_more a.head a.area.now a.from l.area c.keep-to.new.area l.at l.to c.keep-to.result r l.invariant x c.keep-to.ensures

pub returns : goal.returns
returns c =
    let a = c.args in
    let l = c.loop-found in
    c.zero_from.ensures ∙ squeezed_all a.head a.area.now a.from l.area l.at l.to _ l.invariant (skim_end a.head l.area l.at l.invariant.walk (sym c.in_default.is ∙ c.skim_part.ensures))
