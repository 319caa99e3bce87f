-- `heads::is_version` meets its contract.
use Rattle.heads.specs.Pack.{is_version}
use mathlib.Core.Path.{refl}
use Rattle.heads.proofs.is_version.Goals as goal

pub returns : goal.returns
unfolding is_version
returns c = refl
