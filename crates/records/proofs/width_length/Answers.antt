-- `records::width_length` meets its contract.
use mathlib.Core.Path.{refl}
use Rattle.records.specs.Versions.{width_length}
use Rattle.records.proofs.width_length.Goals as goal

pub returns : goal.returns
unfolding width_length
returns c = refl
