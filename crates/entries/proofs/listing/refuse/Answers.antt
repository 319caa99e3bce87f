-- `entries::listing::refuse` meets its contract: a refused font has no entries.
use mathlib.Core.Path.{refl}
use Rattle.entries.specs.Filling.{index_of}
use Rattle.entries.proofs.listing.refuse.Goals as goal

pub returns : goal.returns
unfolding index_of
returns c = refl
