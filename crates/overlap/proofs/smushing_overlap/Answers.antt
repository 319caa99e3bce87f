-- `overlap::smushing_overlap` meets its contract.
use mathlib.Core.Path.{◌∙◌, sym}
use Prim.Native.Nat.{◌+◌}
use native.Mathlib.Omega.{arith}
use Rattle.lanes.proofs.Smushing.{facing_mono, more-at, full_at, not_at}
use Rattle.lanes.specs.Overlap.{has_blank}
use Rattle.overlap.proofs.Demand.{has-joins}
use Rattle.lanes.specs.Blocks.{Cells, cells_of}
use Rattle.pairs.specs.Pair.{joins}
use Rattle.overlap.proofs.smushing_overlap.Goals.{Start}
use Rattle.overlap.proofs.smushing_overlap.Goals as goal

abbrev left-of : Start → Cells
left-of s = cells_of s.args.left.now s.args.a_starts.now s.args.a

abbrev right_of : Start → Cells
right_of s = cells_of s.args.right.now s.args.b_starts.now s.args.b

pub rest_joins-t-requires-clause-o_value : goal.rest_joins-t-requires-clause-o_value
rest_joins-t-requires-clause-o_value c =
    let f = c.fit_of-fit in
    let n = c.args.a.len in
    let s = (goal.at.rest_joins-t-requires-clause-o_value c).Start in
    facing_mono has_blank (joins c.args.mode) (has-joins c.args.mode) f.result.lane n (left-of s) (right_of s) (f.result.overlap + 1) (f.ensures.before (omega (arith, c.min-most.ensures, c.if-f-most.true)))

pub returns-then-t : goal.returns-then-t
returns-then-t c =
    let f = c.fit_of-fit in
    more-at c.args.h c.args.a.len c.args.b.len (left-of (goal.at.returns-then-t c).Start) (right_of (goal.at.returns-then-t c).Start) (joins c.args.mode)
    f.result.overlap f.ensures.overlap (omega arith) (sym c.rest_joins-t.ensures ∙ c.if-t.true)

pub returns-else-t : goal.returns-else-t
returns-else-t c =
    let f = c.fit_of-fit in
    not_at c.args.h c.args.a.len c.args.b.len (left-of (goal.at.returns-else-t c).Start) (right_of (goal.at.returns-else-t c).Start) (joins c.args.mode)
    f.result.overlap f.ensures.overlap (sym c.rest_joins-t.ensures ∙ c.if-t.false)

pub returns-else-f-most : goal.returns-else-f-most
returns-else-f-most c =
    let f = c.fit_of-fit in
    full_at c.args.h c.args.a.len c.args.b.len (left-of (goal.at.returns-else-f-most c).Start) (right_of (goal.at.returns-else-f-most c).Start) (joins c.args.mode)
    f.result.overlap f.ensures.overlap (omega arith)
