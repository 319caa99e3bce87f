-- `reader::which_used` meets its contract.
use mathlib.Core.Path.{sym, ◌∙◌}
use Rattle.reader.proofs.ThreeLaws.{unused_nothing}
use Rattle.reader.proofs.which_used.Goals as goal

pub returns-in-None : goal.returns-in-None
returns-in-None c = λ es u. sym (unused_nothing _ es (u ∙ c.in-None.is))
