use mathlib.Core.Path.{◌≡◌, refl, sym, ap, ◌∙◌}
use mathlib.Core.Bool.{Bool, true, false, cond}
use mir.Val.{bool_byte}
use Prim.Native.Nat.{ℕ, ◌+◌}
use native.Mathlib.Omega.{arith}
use lib.ListN.{drop}
use Rattle.records.specs.Records.{record_list}
use Rattle.records.specs.Steps.{counted_from}
use Rattle.records.proofs.WalkLaws.{next_at_lem, end-at, damaged-at, counted_next, counted-end, counted-damaged, count_le}
use Rattle.records.proofs.count_records.Goals as goal

byte_is : (b : Bool) → bool_byte b ≡ cond b 1 0
byte_is true = refl
byte_is false = refl

pub overflow_add-at : goal.overflow_add-at
overflow_add-at c =
    let a = c.args in
    let l = c.loop-found in
    let r = c.in-Record.found in
    let x = next_at_lem a.head a.s.now l.at r (sym c.in-Record.is ∙ c.scan_part.ensures) in
    omega (arith, x.inside l.invariant.1)

pub loop-found-smaller : goal.loop-found-smaller
loop-found-smaller c =
    let a = c.args in
    let l = c.loop-found in
    let r = c.in-Record.found in
    let x = next_at_lem a.head a.s.now l.at r (sym c.in-Record.is ∙ c.scan_part.ensures) in
    omega (arith, x.inside l.invariant.1, x.some)

pub loop-found-preserved : goal.loop-found-preserved
loop-found-preserved c =
    let a = c.args in
    let l = c.loop-found in
    let r = c.in-Record.found in
    let x = next_at_lem a.head a.s.now l.at r (sym c.in-Record.is ∙ c.scan_part.ensures) in
    let e = c.from-n.ensures ∙ byte_is r.live in
    (rw e (count_le l.n l.at r.size r.live l.invariant.0 x.some), x.inside l.invariant.1, l.invariant.2 ∙ counted_next a.head a.s.now l.at r x l.n ∙ ap (λ (j : ℕ). counted_from (l.n + j) (record_list a.head (drop (l.at + r.size) a.s.now))) (sym e))

pub returns-in-End : goal.returns-in-End
returns-in-End c =
    let a = c.args in
    let l = c.loop-found in
    sym (l.invariant.2 ∙ counted-end a.head a.s.now l.at l.n (end-at a.head a.s.now l.at (sym c.in-End.is ∙ c.scan_part.ensures)))

pub returns-in-Damaged : goal.returns-in-Damaged
returns-in-Damaged c =
    let a = c.args in
    let l = c.loop-found in
    sym (l.invariant.2 ∙ counted-damaged a.head a.s.now l.at l.n (damaged-at a.head a.s.now l.at (sym c.in-Damaged.is ∙ c.scan_part.ensures)))
