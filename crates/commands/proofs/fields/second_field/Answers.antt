-- `commands::fields::second_field` meets its contract.
use mathlib.Core.Path.{sym, ◌∙◌}
use Rattle.commands.proofs.FieldLaws.{field_in, second_none, second_mapped, second_open}
use Rattle.commands.proofs.fields.second_field.Goals as goal

pub returns-in_default : goal.returns-in_default
returns-in_default c = second_none _ _ _ _ c.first_field.ensures c.in_default.is

pub slice_bounds-ends_field-count : goal.slice_bounds-ends_field-count
slice_bounds-ends_field-count c = field_in _ _ _ (sym c.in-Some.is ∙ c.first_field.ensures)

pub slice_bounds-ends_field-start : goal.slice_bounds-ends_field-start
slice_bounds-ends_field-start c = field_in _ _ _ (sym c.in-Some.is ∙ c.first_field.ensures)

pub returns-then-not-ends_field : goal.returns-then-not-ends_field
returns-then-not-ends_field c = second_open _ _ c.args.t.now _ c.first_field.ensures _ c.in-Some.is _ c.ends_field.ensures c.if-not-ends_field.true

pub returns : goal.returns
returns c = c.map_codes.ensures ∙ second_mapped _ _ c.args.t.now _ c.first_field.ensures _ c.in-Some.is _ c.ends_field.ensures c.if-not-ends_field.false
