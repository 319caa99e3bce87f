-- `checking::compare_next` meets its contract: by what the list has behind the overlaps before.
use mathlib.Core.List.{List}
use mathlib.Core.Path.{◌≡◌, refl, sym, ◌∙◌, ap, ap₂}
use Prim.Native.Nat.{ℕ}
use native.Mathlib.Omega.{arith}
use lib.ListN.{length, get_or}
use Rattle.std.specs.Prelude.{Option, Some, None}
use Rattle.std.specs.Option.{option_or}
use Rattle.checking.specs.Steps.{first_wrong_of}
use Rattle.checking.proofs.TallyLaws.{next_right, next_wrong, list_ended}
use Rattle.checking.proofs.compare_next.Goals as goal

at-end : (before overlaps : List ℕ) (k : ℕ) → length before ≡ k → get_or overlaps k 0 ≡ get_or overlaps (length before) 0
at-end before overlaps k e = ap (λ (j : ℕ). get_or overlaps j 0) (sym e)

or-first : (wrong : Option ℕ) (k : ℕ) → option_or wrong (Some k) ≡ first_wrong_of wrong k
or-first None k = refl
or-first (Some first) k = refl

pub returns-then-overlaps-k : goal.returns-then-overlaps-k
returns-then-overlaps-k c = λ before n e.
    let a = c.args in
    c.or.ensures ∙ or-first a.wrong a.k ∙ ap₂ first_wrong_of e (sym n) ∙ list_ended a.right before a.overlaps.now (omega (arith, c.if-overlaps-k.true))

pub returns-then-overlaps-k-2 : goal.returns-then-overlaps-k-2
returns-then-overlaps-k-2 c = λ before n e.
    let a = c.args in
    e ∙ next_right a.right before a.overlaps.now (omega (arith, c.if-overlaps-k.false)) (sym (at-end before a.overlaps.now a.k n) ∙ c.if-overlaps-k-2.true)

pub returns : goal.returns
returns c = λ before n e.
    let a = c.args in
    c.or-2.ensures ∙ or-first a.wrong a.k ∙ ap₂ first_wrong_of e (sym n)
    ∙ next_wrong a.right before a.overlaps.now (omega (arith, c.if-overlaps-k.false)) (λ q. c.if-overlaps-k-2.false (at-end before a.overlaps.now a.k n ∙ q))
