-- `letters::held_at` meets its contract.
use mathlib.Core.Path.{◌≡◌, sym, ap, ◌∙◌}
use native.Mathlib.Omega.{arith}
use Prim.Native.Nat.{ℕ}
use Rattle.letters.specs.Held.{held_at}
use Rattle.letters.proofs.HeldLaws.{held_none, held-some}
use Rattle.letters.proofs.held_at.Goals as goal

pub returns-then-start-eq0 : goal.returns-then-start-eq0
returns-then-start-eq0 c =
    let a = c.args in
    let e : a.start ≡ 0 = c.if-start-eq0.true in
    sym (ap (λ (p : ℕ). held_at p a.width) e ∙ held_none a.width)

pub returns : goal.returns
returns c = let a = c.args in sym (held-some a.start a.width (omega (arith, c.if-start-eq0.false)))
