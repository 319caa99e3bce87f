-- `lines::numbers::number_of` meets its contract: the limit of `value_of` changes no number.
use mathlib.Core.Path.{sym, ap, ◌∙◌}
use borrow.Author.Rules.{rules}
use borrow.Author.Tests.{tests}
use Rattle.std.proofs.lemmas.Iterator.{YieldsList-from_slice}
use Rattle.std.proofs.lemmas.Iterator.Search.{all_from_yields_List}
use Rattle.lines.specs.Numbers.{is_digit, within32_bits, signed}
use Rattle.lines.proofs.WordLaws.{all_is}
use Rattle.lines.proofs.NumberLaws.{number-empty, number_not, number_is}
use Rattle.lines.proofs.numbers.number_of.Goals.{then-is_empty-via-then-is_empty, then-is_empty-via-else-is_empty+then-not-all}
use Rattle.lines.proofs.numbers.number_of.Goals as goal

pub returns-then-is_empty : goal.returns-then-is_empty
unfolding is_digit
returns-then-is_empty c =
    let a = c.args in
    elim c.then-is_empty.branch [
      | then-is_empty-via-then-is_empty w ↦ number-empty a.minus a.base a.digits.now (search (w.if-is_empty.true, c.is_empty.ensures, rules, tests))
      | then-is_empty-via-else-is_empty+then-not-all w ↦
          number_not a.minus a.base a.digits.now (search (w.if-is_empty.false, c.is_empty.ensures, rules, tests))
          (sym (all_is (is_digit a.base) a.digits.now) ∙ sym (all_from_yields_List (is_digit a.base) _ _ _ w.all.ensures.ran (YieldsList-from_slice a.digits.now cc) (λ x b q k. search (rules, tests))) ∙ w.if-not-all.true)
    ]

pub returns : goal.returns
unfolding is_digit
returns c =
    let a = c.args in
    c.fit.ensures ∙ ap (λ v. within32_bits (signed a.minus v)) c.value_of.ensures ∙
    number_is a.minus a.base a.digits.now (search (c.if-is_empty.false, c.is_empty.ensures, rules, tests))
    (sym (all_is (is_digit a.base) a.digits.now) ∙ sym (all_from_yields_List (is_digit a.base) _ _ _ c.all.ensures.ran (YieldsList-from_slice a.digits.now cc) (λ x b q k. search (rules, tests))) ∙ c.if-not-all.false)
