-- `index::latest::find_known` meets its contract.
use mathlib.Core.Path.{sym}
use native.Mathlib.Omega.{arith}
use Rattle.index.proofs.LatestLaws.{small-below, latest-told}
use Rattle.index.proofs.latest.find_known.Goals as goal

pub offset_bounds-latest-c : goal.offset_bounds-latest-c
offset_bounds-latest-c c = omega (arith, (small-below _ _ (sym c.in-Some.ensures)).1)

pub bounds-latest-c : goal.bounds-latest-c
bounds-latest-c c = omega (arith, (small-below _ _ (sym c.in-Some.ensures)).1, c.requires.size)

pub returns-in-Some : goal.returns-in-Some
returns-in-Some c = latest-told _ _ _ _ c.requires (sym c.in-Some.ensures) c.checked_sub.result c.checked_sub.ensures
