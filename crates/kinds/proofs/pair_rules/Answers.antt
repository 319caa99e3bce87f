-- `kinds::pair_rules` meets its contract.
use mathlib.Core.Path.{◌≡◌, sym, ◌∙◌, ap}
use mathlib.Core.Bool.{Bool, true, false, not, ◌&&◌}
use Prim.Native.Nat.{ℕ}
use native.Mathlib.Omega.{arith}
use lib.Dec.{eqb}
use borrow.Author.Tests.{eq-eqb, eqb-true, eqb-false, not-true, not-false}
use Rattle.ground.proofs.Tests.{and_left, and_right}
use Rattle.kinds.specs.Kinds.{kind_of, rule_entry}
use Rattle.kinds.proofs.PairRules.{pair_entry, pair_apart, kind_below}
use Rattle.kinds.proofs.pair_rules.Goals as goal

-- where the first of two tests holds and not both do, the second does not
equal : (l r : ℕ) {t u : Bool} → u ≡ not (eqb l r) → t ≡ true → (t && u) ≡ false → l ≡ r
equal l r q e f = eqb-true l r (not-false (eqb l r) (sym q ∙ rw e at f))

pub returns-then-kind-ne : goal.returns-then-kind-ne
returns-then-kind-ne c =
    let a = c.args in
    let k = c.kind_of-kind in
    let other = and_left (eqb k.result 14) c.ne.result c.if-kind-ne.true in
    let differ = and_right (eqb k.result 14) c.ne.result c.if-kind-ne.true in
    pair_apart a.hardblank.0 a.left.0 a.right.0 c.requires.0 c.requires.1
    (sym k.ensures ∙ eqb-true k.result 14 other)
    (eqb-false a.left.0 a.right.0 (not-true (eqb a.left.0 a.right.0) (sym c.ne.ensures ∙ differ)))

pub entry_of-requires : goal.entry_of-requires
entry_of-requires c =
    omega (arith, c.kind_of-kind.ensures, kind_below c.args.hardblank.0 c.args.left.0 c.args.right.0 c.requires.0 c.requires.1)

pub returns : goal.returns
returns c =
    let a = c.args in
    let kind = c.kind_of-kind.ensures in
    c.entry_of.ensures
    ∙ (ap (rule_entry (kind_of a.hardblank.0 a.left.0)) kind
    ∙ pair_entry a.hardblank.0 a.left.0 a.right.0 c.requires.0 c.requires.1
    (λ o. equal a.left.0 a.right.0 c.ne.ensures (eq-eqb _ 14 (kind ∙ o)) c.if-kind-ne.false))
