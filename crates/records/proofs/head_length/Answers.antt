-- `records::head_length` meets its contract.
use mathlib.Core.Path.{refl}
use Rattle.records.specs.Versions.{head_length}
use Rattle.records.proofs.head_length.Goals as goal

pub returns : goal.returns
unfolding head_length
returns c = refl
