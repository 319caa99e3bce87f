use mathlib.Core.Path.{◌≡◌, refl, ◌∙◌, subst}
use mathlib.Core.Bool.{true}
use mathlib.Core.List.{List, [], ◌∷◌}
use Prim.Native.Nat.{ℕ, ◌-◌}
use native.Mathlib.Omega.{arith}
use lib.Dec.{eqb}
use lib.ListN.{length, drop, get_or}
use Rattle.ground.specs.Runs.{all}
use Rattle.ground.proofs.Runs.{all_end}
use Rattle.rows.specs.Rows.{up_to, unmarked}
use Rattle.rows.proofs.BlockLaws.{mark_less, row_here, row-all}
use Rattle.rows.proofs.row_width.Goals as goal

empty : (t : List ℕ) → length t ≡ 0 → 0 ≡ length (unmarked t)
unfolding unmarked up_to
empty [] e = refl
empty (x ∷ t) e = absurd (omega arith)

pub returns-then-size-eq0 : goal.returns-then-size-eq0
returns-then-size-eq0 c = empty _ c.if-size-eq0.true

pub loop-n-init : goal.loop-n-init
loop-n-init c =
    let t = c.args.t.now in
    (omega arith, all_end (eqb (get_or t (length t - 1) 0)) t (length t) (omega arith))

pub returns-then-endmark-t : goal.returns-then-endmark-t
returns-then-endmark-t c = row_here c.args.t.now c.loop-n.n c.loop-n.invariant.0 c.loop-n-test.true c.if-endmark-t.true c.loop-n.invariant.1

pub loop-n-preserved : goal.loop-n-preserved
loop-n-preserved c = (omega arith, mark_less c.args.t.now c.loop-n.n c.loop-n.invariant.0 c.loop-n-test.true c.if-endmark-t.false c.loop-n.invariant.1)

pub returns : goal.returns
returns c =
    let t = c.args.t.now in
    let m = get_or t (length t - 1) 0 in
    let e : c.loop-n.n ≡ 0 = omega arith in
    e ∙ row-all t m (subst (λ (k : ℕ). all (eqb m) (drop k t) ≡ true) e c.loop-n.invariant.1)
