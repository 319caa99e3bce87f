-- `pack::opened` meets its contract.
use mathlib.Core.Path.{ap₂, ◌∙◌}
use Rattle.std.specs.Prelude.{ok_or}
use Rattle.heads.specs.Pack.{meaning}
use Rattle.pack.proofs.CallLaws.{opened_is}
use Rattle.pack.proofs.opened.Goals as goal

pub returns : goal.returns
returns c = c.ok_or.ensures.value ∙ ap₂ ok_or c.open.ensures c.of.ensures ∙ opened_is (meaning c.args.pack.now)
