-- `commands::fields::after_first` meets its contract.
use mathlib.Core.Path.{◌∙◌}
use Rattle.ground.specs.Text.{bytes}
use Rattle.lines.proofs.WordLaws.{begins_is}
use Rattle.commands.proofs.FieldLaws.{after_minus, after_single}
use Rattle.commands.proofs.fields.after_first.Goals as goal

pub returns-then-starts_with : goal.returns-then-starts_with
returns-then-starts_with c = after_minus _ _ c.args.t.now _ (c.starts_with.ensures.value ∙ begins_is (bytes "-") _) _ c.if-starts_with.true c.range_to.ensures

pub returns : goal.returns
returns c = after_single _ _ c.args.t.now _ (c.starts_with.ensures.value ∙ begins_is (bytes "-") _) c.if-starts_with.false
