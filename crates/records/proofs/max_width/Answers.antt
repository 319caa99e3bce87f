-- `records::max_width` meets its contract.
use mathlib.Core.Path.{refl}
use Rattle.records.specs.Versions.{max_width}
use Rattle.records.proofs.max_width.Goals as goal

pub returns : goal.returns
unfolding max_width
returns c = refl
