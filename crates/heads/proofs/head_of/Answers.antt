-- `heads::head_of` meets its contract.
use mathlib.Core.Path.{ap}
use Prim.Native.Nat.{ℕ}
use lib.ListN.{get_or}
use Rattle.heads.specs.Pack.{head_of}
use Rattle.heads.proofs.head_of.Goals as goal

pub returns : goal.returns
unfolding head_of
returns c = let t = c.args.t.now in ap (λ (j : ℕ). record { version = j; height = get_or t 5 0; hardblank = record { 0 = get_or t 6 0 } }) c.number_at-version.ensures.is
