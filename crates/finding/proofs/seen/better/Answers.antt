-- `finding::seen::better` meets its contract: the tests decide.
use mathlib.Core.Path.{sym, ◌∙◌}
use lib.IntN.{pos}
use Rattle.chars.proofs.CodeLaws.{int_same}
use Rattle.finding.proofs.FindLaws.{better_own, better-before, better-zero, better-none}
use Rattle.finding.proofs.seen.better.Goals as goal

pub returns-then-eq : goal.returns-then-eq
returns-then-eq c = better_own _ _ _ (sym (c.if-eq.ensures ∙ int_same c.args.e.code.0 c.args.code.0))

pub returns-then-is_found : goal.returns-then-is_found
returns-then-is_found c = better-before _ _ _ (sym (c.if-eq.ensures ∙ int_same c.args.e.code.0 c.args.code.0)) (sym c.is_found.ensures ∙ c.if-is_found.true)

pub returns-then-eq-2 : goal.returns-then-eq-2
returns-then-eq-2 c =
    better-zero _ _ _ (sym (c.if-eq.ensures ∙ int_same c.args.e.code.0 c.args.code.0)) (sym c.is_found.ensures ∙ c.if-is_found.false)
    (sym (c.if-eq-2.ensures ∙ int_same c.args.e.code.0 (pos 0)))

pub returns : goal.returns
returns c =
    better-none _ _ _ (sym (c.if-eq.ensures ∙ int_same c.args.e.code.0 c.args.code.0)) (sym c.is_found.ensures ∙ c.if-is_found.false)
    (sym (c.if-eq-2.ensures ∙ int_same c.args.e.code.0 (pos 0)))
