use mathlib.Core.Path.{◌≡◌, subst}
use Prim.Native.Nat.{ℕ, suc, ◌-◌}
use native.Mathlib.Omega.{arith}
use Rattle.areas.proofs.NumberLaws.{Written, written_none, written-more, written_all}
use Rattle.areas.proofs.write_number.Goals as goal

pub loop-k-init : goal.loop-k-init
loop-k-init c = written_none c.args.at c.args.n c.args.x c.args.area.now c.requires

pub loop-k-preserved : goal.loop-k-preserved
loop-k-preserved c =
    let l = c.loop-k in
    let a = c.args in
    let e : l.k ≡ suc (l.k - 1) = omega arith in
    written-more a.at a.n a.x a.area.now c.requires (l.k - 1) l.rest l.area (subst (λ (j : ℕ). Written a.at a.n a.x a.area.now j l.rest l.area) e l.invariant)

pub returns : goal.returns
returns c =
    let l = c.loop-k in
    let a = c.args in
    let e : l.k ≡ 0 = omega arith in
    written_all a.at a.n a.x a.area.now c.requires l.rest l.area (subst (λ (j : ℕ). Written a.at a.n a.x a.area.now j l.rest l.area) e l.invariant)
