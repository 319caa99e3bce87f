-- `join::join_part` meets its contract.
use mathlib.Core.Path.{◌≡◌, ◌∙◌, refl, sym, ap, ap₂}
use mathlib.Core.List.{List, [], ◌∷◌, ◌++◌}
use Prim.Native.Nat.{ℕ, ◌+◌}
use native.Mathlib.Numerals.{add-one}
use native.Mathlib.Omega.{arith}
use lib.ListN.{take, get_or, set, length-set}
use lib.Seq.{take-suc-set}
use Rattle.ground.specs.Area.{values}
use Rattle.overlap.specs.Join.{pair_byte}
use Rattle.join.specs.Writing.{pair_bytes}
use Rattle.join.proofs.join_part.Goals as goal

pub loop-k-init : goal.loop-k-init
unfolding values
loop-k-init c = (refl, refl)

pub loop-k-preserved : goal.loop-k-preserved
unfolding values
loop-k-preserved c =
    let l = c.loop-k in
    let a = c.args in
    let x = c.pair_byte-x.result.0 in
    let k : l.k ≡ 0 + l.k = omega arith in
    let f = pair_bytes a.mode a.left.now 0 a.right.now 0 in
    let e : x ≡ f l.k = c.pair_byte-x.ensures ∙ ap₂ (pair_byte a.mode) (ap (λ (j : ℕ). get_or a.left.now j 0) k) (ap (λ (j : ℕ). get_or a.right.now j 0) k) in (
      length-set l.out l.k x ∙ l.invariant.0,
      ap (λ (j : ℕ). take j (set l.out l.k x)) (add-one l.k) ∙ take-suc-set l.out l.k x (omega arith) ∙ ap₂ (λ (s : List ℕ) (v : ℕ). s ++ (v ∷ [])) l.invariant.1 e ∙ ap (values f) (sym (add-one l.k)),
    )
