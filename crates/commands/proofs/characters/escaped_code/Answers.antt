-- `commands::characters::escaped_code` meets its contract.
use mathlib.Core.Path.{◌∙◌}
use Rattle.commands.proofs.CharacterLaws.{escaped-none, escaped-letter, escaped-number}
use Rattle.commands.proofs.characters.escaped_code.Goals as goal

pub returns-in_err-first : goal.returns-in_err-first
returns-in_err-first c = c.from_residual.ensures ∙ escaped-none _ c.in_err-first.ensures.cases

pub returns-in-Some : goal.returns-in-Some
returns-in-Some c = escaped-letter _ _ _ c.in_ok-first.ensures.cases.0 _ c.escape_of.ensures _ c.in-Some.is

pub returns-in-None : goal.returns-in-None
returns-in-None c = c.leading_number.ensures ∙ escaped-number _ _ _ c.in_ok-first.ensures.cases.0 _ c.escape_of.ensures c.in-None.is
