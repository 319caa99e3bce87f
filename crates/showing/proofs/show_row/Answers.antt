use mathlib.Core.Path.{◌≡◌, ◌∙◌}
use Prim.Native.Nat.{ℕ, ◌+◌}
use native.Mathlib.Omega.{arith}
use lib.ListN.{take, length-set}
use borrow.Author.Rules.{rules}
use Rattle.ground.proofs.Areas.{put_none, put_next}
use Rattle.blocks.specs.Writing.{from_on}
use Rattle.showing.specs.Output.{with_lf}
use Rattle.showing.proofs.Showing.{cell_shown, end-shown}
use Rattle.showing.proofs.show_row.Goals.{Start}
use Rattle.showing.proofs.show_row.Goals as goal

abbrev row : Start → ℕ → ℕ
row s = let a = s.args in with_lf a.hardblank.0 a.w (from_on a.area.now a.from)

pub loop-k-init : goal.loop-k-init
loop-k-init c =
    (search rules, search rules, put_none c.args.out.now (row (goal.at.loop-k-init c).Start) c.args.at)

pub loop-k-preserved : goal.loop-k-preserved
loop-k-preserved c =
    let l = c.loop-k in
    let a = c.args in
    let x = c.blanked-x.result.0 in (
      omega arith,
      length-set l.out (a.at + l.k) x ∙ l.invariant.1,
      put_next l.out (take a.at a.out.now) (row (goal.at.loop-k-preserved c).Start) a.at l.k x (omega arith)
          (cell_shown a.hardblank.0 a.w (from_on a.area.now a.from) l.k x (omega arith) c.blanked-x.ensures) l.invariant.2,
    )

pub returns : goal.returns
returns c =
    let l = c.loop-k in
    let a = c.args in
    let e : l.k ≡ a.w = omega arith in
    put_next l.out (take a.at a.out.now) (row (goal.at.returns c).Start) a.at a.w 10 (omega arith) (end-shown a.hardblank.0 a.w (from_on a.area.now a.from)) (rw e at l.invariant.2)
