-- `commands::fields::character_field` meets its contract.
use mathlib.Core.Path.{sym, ◌∙◌}
use Rattle.commands.proofs.CharacterLaws.{character_in}
use Rattle.commands.proofs.fields.character_field.Goals as goal

pub after_first-requires : goal.after_first-requires
after_first-requires c = character_in _ _ (sym c.in_ok-first.was ∙ c.first_character.ensures)
