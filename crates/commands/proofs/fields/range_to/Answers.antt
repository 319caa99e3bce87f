-- `commands::fields::range_to` meets its contract.
use native.Mathlib.Omega.{arith}
use Rattle.commands.proofs.FieldLaws.{range_in}
use Rattle.commands.proofs.fields.range_to.Goals as goal

pub overflow_add-result : goal.overflow_add-result
overflow_add-result c = record { fits = omega (arith, range_in c.args.first c.args.n c.args.t.now _ c.first_character.ensures c.requires _ c.in_ok-last.was) }
