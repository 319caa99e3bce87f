-- `commands::translation_of` meets its contract.
use native.Mathlib.Omega.{arith}
use borrow.Author.Rules.{rules}
use Rattle.lines.specs.Words.{is_blank}
use Rattle.commands.specs.Commands.{translation}
use Rattle.commands.specs.Fields.{mapping_command}
use Rattle.commands.specs.declared.fields.Form.TheVariants.{Characters}
use Rattle.commands.proofs.FieldLaws.{blanks_in, blanks-some, blanks-none}
use Rattle.commands.proofs.translation_of.Goals as goal

pub returns-then-blanks-eq0 : goal.returns-then-blanks-eq0
unfolding translation
returns-then-blanks-eq0 c = blanks-none (mapping_command Characters) c.args.t.now _ (c.run_length-blanks.ensures is_blank λ x r k. search rules) (omega arith)

pub slice_bounds-command_of-count : goal.slice_bounds-command_of-count
slice_bounds-command_of-count c = blanks_in (mapping_command Characters) _ _ (c.run_length-blanks.ensures is_blank λ x r k. search rules)

pub slice_bounds-command_of-start : goal.slice_bounds-command_of-start
slice_bounds-command_of-start c = blanks_in (mapping_command Characters) _ _ (c.run_length-blanks.ensures is_blank λ x r k. search rules)

pub returns : goal.returns
unfolding translation
returns c = blanks-some (mapping_command Characters) c.args.t.now _ (c.run_length-blanks.ensures is_blank λ x r k. search rules) _ (omega arith) c.command_of.ensures
