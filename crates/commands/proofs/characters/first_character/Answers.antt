-- `commands::characters::first_character` meets its contract: one law for each way to return.
use mathlib.Core.Path.{sym, ap, ◌∙◌}
use native.Mathlib.Omega.{arith}
use Rattle.std.specs.Prelude.{Some}
use Rattle.commands.proofs.CharacterLaws.{character_none, character_not_escaped, character_escaped, escaped-length, character_blank, character_byte}
use Rattle.commands.proofs.characters.first_character.Goals as goal

pub returns-in_err-first : goal.returns-in_err-first
returns-in_err-first c = c.from_residual.ensures ∙ character_none _ c.in_err-first.ensures.cases

pub returns-in_err-escaped : goal.returns-in_err-escaped
returns-in_err-escaped c =
    c.from_residual-in_err-escaped.ensures ∙ character_not_escaped _ _ _ c.in_ok-first.ensures.cases.0 _ c.if-first-eq92.true c.escaped_code.ensures c.in_err-escaped.was

pub overflow_add-result : goal.overflow_add-result
overflow_add-result c =
    record { fits = omega (arith, escaped-length c.args.t.now _ _ c.in_ok-first.ensures.cases.0 _ c.if-first-eq92.true c.escaped_code.ensures _ c.in_ok-escaped.was) }

pub returns-then-first-eq92 : goal.returns-then-first-eq92
returns-then-first-eq92 c = character_escaped _ _ _ c.in_ok-first.ensures.cases.0 _ c.if-first-eq92.true c.escaped_code.ensures _ c.in_ok-escaped.was

pub returns-then-is_blank : goal.returns-then-is_blank
returns-then-is_blank c = character_blank _ _ _ c.in_ok-first.ensures.cases.0 c.if-first-eq92.false (sym c.is_blank.ensures ∙ c.if-is_blank.true)

pub returns : goal.returns
returns c = ap Some c.written_byte.ensures ∙ character_byte _ _ _ c.in_ok-first.ensures.cases.0 c.if-first-eq92.false (sym c.is_blank.ensures ∙ c.if-is_blank.false)
