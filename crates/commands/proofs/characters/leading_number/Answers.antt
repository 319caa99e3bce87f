-- `commands::characters::leading_number` meets its contract.
use mathlib.Core.Path.{◌∙◌}
use native.Mathlib.Omega.{arith}
use lib.ListN.{length-take}
use Rattle.commands.proofs.CharacterLaws.{number_in, leading_named, leading_none}
use Rattle.commands.proofs.characters.leading_number.Goals as goal

pub slice_bounds-code_number-end : goal.slice_bounds-code_number-end
slice_bounds-code_number-end c = omega (arith, c.number_length-length.ensures, number_in c.args.t.now, length-take c.number_length-length.result c.args.t.now)

pub returns-in_err-code : goal.returns-in_err-code
returns-in_err-code c = c.from_residual.ensures ∙ leading_none _ _ _ c.number_length-length.ensures c.code_number.ensures c.in_err-code.was

pub returns : goal.returns
returns c = leading_named _ _ _ c.number_length-length.ensures c.code_number.ensures _ c.in_ok-code.was
