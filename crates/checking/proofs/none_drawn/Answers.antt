-- `checking::none_drawn` meets its contract.
use mathlib.Core.Path.{refl}
use Rattle.checking.specs.Difference.{first_difference}
use Rattle.checking.proofs.none_drawn.Goals as goal

pub returns : goal.returns
unfolding first_difference
returns c = λ overlaps. refl
