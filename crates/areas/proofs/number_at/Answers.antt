use mathlib.Core.Path.{◌≡◌, ap, subst}
use Prim.Native.Nat.{ℕ, ◌+◌, ◌-◌}
use native.Mathlib.Omega.{arith}
use lib.ListN.{length, take, drop, length-drop}
use lib.Seq.{length-take-le}
use borrow.Author.Rules.{rules}
use Rattle.areas.proofs.NumberLaws.{Upto, upto_none, upto_more, upto_all}
use Rattle.areas.proofs.number_at.Goals as goal

pub loop-b-init : goal.loop-b-init
loop-b-init c = upto_none _

pub loop-b-preserved : goal.loop-b-preserved
loop-b-preserved c = upto_more _ c.loop-b.b-index c.loop-b.r c.from.result c.loop-b-test.true c.from.ensures (search rules) c.loop-b.invariant

pub returns : goal.returns
returns c =
    let a = c.args in
    let l = c.loop-b in
    let rest = drop a.at a.s.now in
    let e : a.at + a.n - a.at ≡ a.n = omega arith in
    let u = subst (λ (j : ℕ). Upto (take j rest) l.b-index l.r) e l.invariant in
    let k = length-take-le a.n rest (omega (arith, length-drop a.at a.s.now)) in
    upto_all (take a.n rest) l.b-index l.r (omega (arith, ap (λ (j : ℕ). length (take j rest)) e)) (omega (arith, ap (λ (j : ℕ). length (take j rest)) e)) u
