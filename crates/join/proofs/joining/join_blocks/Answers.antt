-- `join::joining::join_blocks` meets its contract.
use mathlib.Core.Path.{◌≡◌, ◌∙◌}
use Prim.Native.Nat.{ℕ, ◌≤◌, min}
use native.Mathlib.Omega.{arith}
use lib.ListN.{length}
use Rattle.overlap.proofs.Demand.{overlap_narrower}
use Rattle.overlap.proofs.Likeness.{overlap-like}
use Rattle.blocks.proofs.Rows.{rows_seen}
use Rattle.blocks.specs.Block.{Block, exact_block}
use Rattle.overlap.specs.Join.{overlap}
use Rattle.join.proofs.JoinCases.{too_wide, no_room, done}
use Rattle.join.proofs.joining.join_blocks.Goals.{After-overlap_of-overlap}
use Rattle.join.proofs.joining.join_blocks.Goals as goal

abbrev left_of : After-overlap_of-overlap → Block
left_of p = exact_block p.args.left.width p.args.left.bytes.now

abbrev right_of : After-overlap_of-overlap → Block
right_of p = exact_block p.args.right.width p.args.right.bytes.now

-- the overlap that was found is that of the two blocks
is : (p : After-overlap_of-overlap) → p.overlap_of-overlap.result ≡ overlap p.args.mode p.args.h (left_of p) (right_of p)
is p =
    let a = p.args in
    p.overlap_of-overlap.ensures
    ∙ overlap-like a.mode a.h _ (left_of p) _ (right_of p)
    (rows_seen a.left.bytes.now p.row_starts-a_starts.result a.left.width a.h p.row_starts-a_starts.ensures)
    (rows_seen a.right.bytes.now p.row_starts-b_starts.result a.right.width a.h p.row_starts-b_starts.ensures)

low : (p : After-overlap_of-overlap) → p.overlap_of-overlap.result ≤ min p.args.left.width p.args.right.width
low p = omega (arith, is p, overlap_narrower p.args.h (left_of p) (right_of p) p.args.mode)

abbrev room : After-overlap_of-overlap → ℕ
room p = length p.args.out.now

pub overflow_sub-width : goal.overflow_sub-width
overflow_sub-width c = omega (arith, low (goal.at.overflow_sub-width c).After-overlap_of-overlap)

pub returns-then-width-gt-MAX_LINE_WIDTH : goal.returns-then-width-gt-MAX_LINE_WIDTH
returns-then-width-gt-MAX_LINE_WIDTH c =
    let p = (goal.at.returns-then-width-gt-MAX_LINE_WIDTH c).After-overlap_of-overlap in
    let a = c.args in
    too_wide a.mode a.h (left_of p) (right_of p) (room p) c.overlap_of-overlap.result (is p) c.if-width-gt-MAX_LINE_WIDTH.true _ _ c.refuse.ensures

pub returns-then-out-h : goal.returns-then-out-h
returns-then-out-h c =
    let p = (goal.at.returns-then-out-h c).After-overlap_of-overlap in
    let a = c.args in
    no_room a.mode a.h (left_of p) (right_of p) (room p) c.overlap_of-overlap.result (is p) c.if-width-gt-MAX_LINE_WIDTH.false c.if-out-h.true _ _ c.refuse-then-out-h.ensures

pub write_rows-requires-clause-sides : goal.write_rows-requires-clause-sides
write_rows-requires-clause-sides c =
    let l = c.requires.sized in
    let r = c.requires.sized_2 in
    let o = low (goal.at.write_rows-requires-clause-sides c).After-overlap_of-overlap in
    (l.exact, r.exact, omega arith, omega arith, l.wide, r.wide)

pub returns : goal.returns
returns c =
    let p = (goal.at.returns c).After-overlap_of-overlap in
    let a = c.args in
    let w = c.write_rows in
    done a.mode a.h (left_of p) (right_of p) (room p) c.overlap_of-overlap.result (is p) c.if-width-gt-MAX_LINE_WIDTH.false c.if-out-h.false w.new.out _ w.auto.out w.ensures c.zero_from.ensures
