-- `index::latest::note` meets its contract.
use mathlib.Core.Path.{◌≡◌, sym, ◌∙◌}
use Prim.Native.Nat.{◌<◌}
use native.Mathlib.Omega.{arith}
use lib.IntN.{pos}
use Rattle.index.specs.Latest.{small_codes}
use Rattle.index.proofs.LatestLaws.{small-below, noted_here, noted_none}
use Rattle.index.proofs.latest.note.Goals.{In-Some}
use Rattle.index.proofs.latest.note.Goals as goal

small : (c : In-Some) → (c.args.code.0 ≡ pos c.in-Some.c) × (c.in-Some.c < small_codes)
small c = small-below _ _ (sym c.in-Some.ensures)

pub offset_bounds-latest-c : goal.offset_bounds-latest-c
offset_bounds-latest-c c = omega (arith, (small (goal.at.offset_bounds-latest-c c).In-Some).1)

pub bounds-latest-c : goal.bounds-latest-c
bounds-latest-c c = omega (arith, (small (goal.at.bounds-latest-c c).In-Some).1, c.requires)

pub returns-in-Some : goal.returns-in-Some
returns-in-Some c = noted_here _ _ _ _ (sym c.in-Some.ensures) c.requires

pub returns-in_default : goal.returns-in_default
returns-in_default c = noted_none _ _ _ (sym c.as_small.ensures ∙ c.in_default.is)
