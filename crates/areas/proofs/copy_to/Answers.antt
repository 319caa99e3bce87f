-- `areas::copy_to` meets its contract: one byte after another is laid.
use mathlib.Core.Path.{refl, sym, ap, ◌∙◌}
use Prim.Native.Nat.{ℕ, ◌+◌}
use native.Mathlib.Omega.{arith}
use mathlib.Core.List.{List}
use lib.ListN.{set, get_or, length-set}
use Rattle.areas.proofs.LaidLaws.{laid_none, laid_step}
use Rattle.areas.proofs.copy_to.Goals as goal

pub loop-k-init : goal.loop-k-init
loop-k-init c = (refl, sym (laid_none c.args.at c.args.area.now))

pub loop-k-preserved : goal.loop-k-preserved
loop-k-preserved c =
    let l = c.loop-k in
    let a = c.args in
    let e = ap (λ (s : List ℕ). set s (a.at + l.k) (get_or a.bytes.now l.k 0)) l.invariant.1 ∙ laid_step a.at l.k a.bytes.now a.area.now (get_or a.bytes.now l.k 0) (omega arith) (omega arith) refl in
    (length-set l.area (a.at + l.k) (get_or a.bytes.now l.k 0) ∙ l.invariant.0, e)
