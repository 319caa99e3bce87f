-- `rules::marks_byte` meets its contract.
use mathlib.Core.Path.{◌≡◌, sym}
use Prim.Native.Nat.{ℕ}
use native.Mathlib.Omega.{arith}
use Rattle.std.specs.Prelude.{Some}
use Rattle.rules.specs.declared.Rule.{Rule}
use Rattle.rules.specs.Rules.{big_x, by_rule, rule_number}
use Rattle.rules.proofs.Deciding.{of_marks, later_right, later_left, partners, no_partners, slash, backslash, no_slash}
use Rattle.rules.proofs.marks_byte.Goals.{Else-b-a, Else-eq}
use Rattle.rules.proofs.marks_byte.Goals as goal

-- two of one class that are no partners are joined by rule 16
big : (e : Else-eq) (h x : ℕ) (p : Rule) → by_rule p h e.args.left.0 e.args.right.0 ≡ Some x → (rule_number p ≡ 2 → ⊥) → big_x e.args.left.0 e.args.right.0 ≡ Some x
big e h x p j n =
    let a = e.mark_of-a.ensures in
    no_partners e.args.left.0 e.args.right.0 x _ a (omega (arith, a.class, e.mark_of-b.ensures.class)) (sym e.if-eq.ensures) (of_marks h e.args.left.0 e.args.right.0 x p j e.requires n)

pub returns-then-a-b : goal.returns-then-a-b
returns-then-a-b c =
    λ h x p e n. later_right c.args.left.0 c.args.right.0 x (omega (arith, c.mark_of-a.ensures.class, c.mark_of-b.ensures.class)) (of_marks h c.args.left.0 c.args.right.0 x p e c.requires n)

pub returns-then-b-a : goal.returns-then-b-a
returns-then-b-a c =
    λ h x p e n. later_left c.args.left.0 c.args.right.0 x (omega (arith, c.mark_of-a.ensures.class, c.mark_of-b.ensures.class)) (of_marks h c.args.left.0 c.args.right.0 x p e c.requires n)

pub returns-then-eq : goal.returns-then-eq
returns-then-eq c =
    let a = c.mark_of-a.ensures in
    λ h x p e n. partners c.args.left.0 c.args.right.0 x _ a (omega (arith, a.class, c.mark_of-b.ensures.class)) (sym c.if-eq.ensures) (of_marks h c.args.left.0 c.args.right.0 x p e c.requires n)

pub returns-then-left-eq47 : goal.returns-then-left-eq47
returns-then-left-eq47 c =
    λ h x p e n. slash c.args.left.0 c.args.right.0 x (big (goal.at.returns-then-left-eq47 c).Else-eq h x p e n) c.if-left-eq47.true

pub returns-then-left-eq92 : goal.returns-then-left-eq92
returns-then-left-eq92 c =
    λ h x p e n. backslash c.args.left.0 c.args.right.0 x (big (goal.at.returns-then-left-eq92 c).Else-eq h x p e n) c.if-left-eq92.true

pub returns : goal.returns
returns c =
    λ h x p e n. no_slash c.args.left.0 c.args.right.0 x (big (goal.at.returns c).Else-eq h x p e n) c.if-left-eq47.false c.if-left-eq92.false
