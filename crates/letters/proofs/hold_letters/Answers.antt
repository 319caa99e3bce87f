use mathlib.Core.Path.{refl, sym, ◌∙◌}
use native.Mathlib.Omega.{arith}
use Rattle.records.proofs.VersionLaws.{head_length_low}
use Rattle.records.proofs.WalkLaws.{skim_at, skim_end}
use Rattle.heads.proofs.FindLaws.{short, walkable}
use Rattle.letters.proofs.HeldLaws.{passed_none, passed_on, all_held}
use Rattle.letters.proofs.hold_letters.Goals as goal

pub loop-found-init : goal.loop-found-init
loop-found-init c =
    let a = c.args in
    let p = c.requires.by_index in
    let h = c.head_length-at in
    (passed_none a.head a.pack.now h.result a.starts.now a.widths.now _ c.fill_from.ensures (walkable a.pack.now a.head p.0 p.1 h.result h.ensures) (omega (arith, h.ensures, head_length_low a.head.version)) c.requires.small_codes_in_bounds, refl, refl)

pub overflow_add-at : goal.overflow_add-at
overflow_add-at c =
    let a = c.args in
    let l = c.loop-found in
    let r = c.in-Some.found in
    let x = skim_at a.head a.pack.now l.at l.invariant.0.walk r (sym c.in-Some.is ∙ c.skim_part.ensures) in
    let p = c.requires.by_index in
    omega (arith, x.inside l.invariant.0.walk.inside, short a.pack.now a.head p.0 p.1)

pub loop-found-smaller : goal.loop-found-smaller
loop-found-smaller c =
    let a = c.args in
    let l = c.loop-found in
    let r = c.in-Some.found in
    let x = skim_at a.head a.pack.now l.at l.invariant.0.walk r (sym c.in-Some.is ∙ c.skim_part.ensures) in
    omega (arith, x.inside l.invariant.0.walk.inside, x.some)

pub loop-found-preserved : goal.loop-found-preserved
loop-found-preserved c =
    let a = c.args in
    let l = c.loop-found in
    let r = c.in-Some.found in
    let x = skim_at a.head a.pack.now l.at l.invariant.0.walk r (sym c.in-Some.is ∙ c.skim_part.ensures) in
    (passed_on a.head a.pack.now _ l.at l.starts l.widths _ _ l.invariant.0 r x c.note.ensures, c.note.ensures.as_long.0 ∙ l.invariant.1, c.note.ensures.as_long.1 ∙ l.invariant.2)

pub returns : goal.returns
returns c = λ rs m.
    let a = c.args in
    let l = c.loop-found in
    all_held a.head a.pack.now _ l.at l.starts l.widths l.invariant.0 rs m c.head_length-at.ensures (skim_end a.head a.pack.now l.at l.invariant.0.walk (sym c.in_default.is ∙ c.skim_part.ensures))
