use mathlib.Core.List.{List}
use mathlib.Core.Path.{◌≡◌, sym, ◌∙◌, ap}
use Prim.Native.Nat.{ℕ, ◌<◌, ◌+◌, ◌*◌}
use native.Mathlib.Omega.{arith}
use lib.ListN.{length, get_or}
use borrow.Author.Count.{below_more}
use Rattle.blocks.proofs.Rows.{length-rows, rows-at, row_next}
use Rattle.blocks.specs.Block.{rows_of}
use Rattle.lanes.specs.Blocks.{Cells}
use Rattle.checking.proofs.Comparing.{EqualBefore, differs_here, all_same, shorter_ends, row_below}
use Rattle.checking.proofs.compare_rows.Invariants.{put_out}
use Rattle.checking.proofs.compare_rows.Goals.{At-loop-i, then-k-w, else-k-w}
use Rattle.checking.proofs.compare_rows.Goals as goal

abbrev cells : At-loop-i → Cells
cells l = let a = l.args in put_out a.area.now a.from a.w a.hardblank.0

abbrev rows : At-loop-i → List ℕ
rows l = rows_of (cells l) l.args.h (l.args.w + 1)

abbrev figure : At-loop-i → List ℕ
figure l = l.args.figure.now

-- how many bytes the rows have
size : (l : At-loop-i) → length (rows l) ≡ l.args.h * (l.args.w + 1)
size l = length-rows (cells l) l.args.h (l.args.w + 1)

-- a byte that is compared is within both
module _ (l : At-loop-i) (t : l.loop-i.i < l.min-shorter.result) where
  in_rows : l.loop-i.i < length (rows l)
  in_rows = omega (arith, size l, l.min-shorter.ensures)

  in_figure : l.loop-i.i < length (figure l)
  in_figure = omega (arith, l.min-shorter.ensures)

  in_row : l.loop-i.r < l.args.h
  in_row = row_below l.loop-i.r (l.args.w + 1) l.loop-i.k l.args.h (omega (arith, l.min-shorter.ensures, l.loop-i.invariant.1))

  -- byte i of the rows
  here : get_or (rows l) l.loop-i.i 0 ≡ cells l l.loop-i.r l.loop-i.k
  here = ap (λ (j : ℕ). get_or (rows l) j 0) l.loop-i.invariant.1 ∙ rows-at (cells l) l.args.h (l.args.w + 1) l.loop-i.r l.loop-i.k in_row (omega (arith, l.loop-i.invariant.0))

  -- a byte that is the same
  same_next : (x : ℕ) → x ≡ cells l l.loop-i.r l.loop-i.k → get_or (figure l) l.loop-i.i 0 ≡ x → EqualBefore (l.loop-i.i + 1) (rows l) (figure l)
  same_next x e f = below_more _ _ l.loop-i.invariant.2 (here ∙ sym e ∙ sym f)

pub shown_byte-x-requires : goal.shown_byte-x-requires
shown_byte-x-requires c = omega (arith, in_row (goal.at.shown_byte-x-requires c).At-loop-i c.loop-i-test.true)

pub returns-then-figure-i : goal.returns-then-figure-i
returns-then-figure-i c =
    let t = c.loop-i-test.true in
    let l = (goal.at.returns-then-figure-i c).At-loop-i in
    differs_here (rows l) (figure l) c.loop-i.i c.loop-i.invariant.2 (in_rows l t) (in_figure l t) (λ e. c.if-figure-i.true (sym e ∙ here l t ∙ sym c.shown_byte-x.ensures))

pub loop-i-preserved : goal.loop-i-preserved
loop-i-preserved c =
    let same = same_next (goal.at.loop-i-preserved c).At-loop-i c.loop-i-test.true c.shown_byte-x.result c.shown_byte-x.ensures c.if-figure-i.false in
    let row = λ (x : ℕ). x * (c.args.w + 1) in
    elim c.if-k-w.branch [
      | then-k-w w ↦ (omega (arith, w.k-is, w.if-k-w.true), omega (arith, c.loop-i.invariant.1, w.k-is, ap row w.r-is), same)
      | else-k-w w ↦
          (omega (arith, w.k-is), omega (arith, c.loop-i.invariant.0, c.loop-i.invariant.1, w.if-k-w.false, w.k-is, ap row w.r-is, row_next c.loop-i.r (c.args.w + 1)), same)
    ]

pub returns-then-need-figure : goal.returns-then-need-figure
returns-then-need-figure c =
    let l = (goal.at.returns-then-need-figure c).At-loop-i in
    all_same (rows l) (figure l) c.loop-i.i c.loop-i.invariant.2 (omega (arith, size l, c.min-shorter.ensures)) (size l ∙ c.if-need-figure.true)

pub returns : goal.returns
returns c =
    let l = (goal.at.returns c).At-loop-i in
    shorter_ends (rows l) (figure l) c.min-shorter.result (λ j u. c.loop-i.invariant.2 j (omega (arith, c.loop-i-test.false))) (omega (arith, size l, c.min-shorter.ensures)) (λ q. c.if-need-figure.false (sym (size l) ∙ q))
