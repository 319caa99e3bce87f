use Prim.Native.Nat.{◌≤◌, min}
use native.Mathlib.Omega.{arith}
use borrow.Author.Rules.{rules}
use Rattle.lanes.specs.Blocks.{Cells, cells_of, blanked_cells}
use Rattle.lanes.proofs.Fitting.{fitting_le}
use Rattle.lanes.proofs.Fits.{fitted_none, fitted_zero, fitted_less, fitted_same}
use Rattle.lanes.proofs.blanked_fit.Goals.{In-loop-r, Start, then-t-l, else-t-l}
use Rattle.lanes.proofs.blanked_fit.Goals as goal

abbrev block_of : Start → Cells
block_of s = blanked_cells s.args.hardblank (cells_of s.args.first.now s.args.a_starts.now s.args.a)

abbrev other_of : Start → Cells
other_of s = blanked_cells s.args.hardblank (cells_of s.args.second.now s.args.b_starts.now s.args.b)

bound : (q : In-loop-r) → q.loop-r.best ≤ min q.args.a.len q.args.b.len
bound q =
    omega (arith, q.loop-r.invariant.1.overlap, fitting_le q.args.a.len q.args.b.len (blanked_cells q.args.hardblank (cells_of q.args.first.now q.args.a_starts.now q.args.a)) (blanked_cells q.args.hardblank (cells_of q.args.second.now q.args.b_starts.now q.args.b)) q.loop-r.r)

pub loop-r-init : goal.loop-r-init
loop-r-init c =
    let s = (goal.at.loop-r-init c).Start in
    (search rules, fitted_none c.args.a.len c.args.b.len (block_of s) (other_of s) _ c.min-best.ensures)

pub returns-then-best-eq0 : goal.returns-then-best-eq0
returns-then-best-eq0 c =
    let s = (goal.at.returns-then-best-eq0 c).Start in
    let l = c.loop-r in
    fitted_zero c.args.a.len c.args.b.len (block_of s) (other_of s) l.r c.args.h l.best l.lane l.invariant.0 c.if-best-eq0.true l.invariant.1

pub trailing_blanks-t-requires-clause-most_le_n : goal.trailing_blanks-t-requires-clause-most_le_n
trailing_blanks-t-requires-clause-most_le_n c = omega (arith, bound (goal.at.trailing_blanks-t-requires-clause-most_le_n c).In-loop-r)

pub leading_blanks-l-requires : goal.leading_blanks-l-requires
leading_blanks-l-requires c =
    λ k u. c.requires.inside_2.cells c.loop-r.r k (omega arith) (omega (arith, bound (goal.at.leading_blanks-l-requires c).In-loop-r))

pub loop-r-preserved : goal.loop-r-preserved
loop-r-preserved c =
    let s = (goal.at.loop-r-preserved c).Start in
    let i = c.loop-r in
    let t = c.trailing_blanks-t in
    let l = c.leading_blanks-l in
    let n = c.args.a.len in
    let m = c.args.b.len in (
      omega arith,
      elim c.if-t-l.branch [
        | then-t-l w ↦ rw w.lane-is (fitted_less n m (block_of s) (other_of s) i.r i.best i.lane t.result l.result i.invariant.1 t.ensures l.ensures w.if-t-l.true)
        | else-t-l w ↦ rw w.lane-is (fitted_same n m (block_of s) (other_of s) i.r i.best i.lane t.result l.result i.invariant.1 t.ensures l.ensures (omega (arith, w.if-t-l.false)))
      ],
    )
