-- `commands::fields::command_of` meets its contract.
use mathlib.Core.Path.{sym, ◌∙◌}
use native.Mathlib.Omega.{arith}
use borrow.Author.Rules.{rules}
use Rattle.lines.specs.Words.{is_blank}
use Rattle.commands.specs.Fields.{second_field}
use Rattle.commands.proofs.FieldLaws.{field_in, blanks_in, blanks-some, blanks-none, command_none, command_first}
use Rattle.commands.proofs.fields.command_of.Goals as goal

pub returns-in_default : goal.returns-in_default
returns-in_default c = command_none _ _ _ c.first_field.ensures c.in_default.is

pub slice_bounds-rest-count : goal.slice_bounds-rest-count
slice_bounds-rest-count c = field_in _ _ _ (sym c.in-Some.is ∙ c.first_field.ensures)

pub slice_bounds-rest-start : goal.slice_bounds-rest-start
slice_bounds-rest-start c = field_in _ _ _ (sym c.in-Some.is ∙ c.first_field.ensures)

pub slice_bounds-second_field-count : goal.slice_bounds-second_field-count
slice_bounds-second_field-count c = blanks_in (second_field c.args.form c.in-Some.field.codes) _ _ (c.run_length-blanks.ensures is_blank λ x r k. search rules)

pub slice_bounds-second_field-start : goal.slice_bounds-second_field-start
slice_bounds-second_field-start c = blanks_in (second_field c.args.form c.in-Some.field.codes) _ _ (c.run_length-blanks.ensures is_blank λ x r k. search rules)

pub returns-then-blanks-eq0 : goal.returns-then-blanks-eq0
returns-then-blanks-eq0 c =
    command_first c.args.form c.args.t.now _ c.first_field.ensures _ c.in-Some.is _
    (blanks-none (second_field c.args.form c.in-Some.field.codes) _ _ (c.run_length-blanks.ensures is_blank λ x r k. search rules) (omega arith))

pub returns : goal.returns
returns c =
    command_first c.args.form c.args.t.now _ c.first_field.ensures _ c.in-Some.is _
    (blanks-some (second_field c.args.form c.in-Some.field.codes) _ _ (c.run_length-blanks.ensures is_blank λ x r k. search rules) _ (omega arith) c.second_field.ensures)
