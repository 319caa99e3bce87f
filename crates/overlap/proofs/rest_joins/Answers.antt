use mathlib.Core.Bool.{Bool}
use mathlib.Core.Path.{◌≡◌, ◌∙◌, sym}
use Prim.Native.Nat.{ℕ}
use native.Mathlib.Omega.{arith}
use Rattle.ground.proofs.Counting.{every_next, every-stop}
use Rattle.lanes.specs.Blocks.{cells_of}
use Rattle.lanes.specs.Overlap.{lane_facing, facing}
use Rattle.pairs.specs.Pair.{joins}
use Rattle.overlap.proofs.rest_joins.Goals.{In-loop-r}
use Rattle.overlap.proofs.rest_joins.Goals as goal

abbrev In : Type 0
In = In-loop-r

-- row i joins
abbrev pass : In → ℕ → Bool
pass z i = let s = z.args in lane_facing (joins s.mode) s.a.len (cells_of s.left.now s.a_starts.now s.a i) (cells_of s.right.now s.b_starts.now s.b i) s.o

pub loop-r-init : goal.loop-r-init
unfolding facing
loop-r-init c = (c.requires.o_le_len.2, c.requires.o_value)

pub returns-then-not-lane_joins : goal.returns-then-not-lane_joins
unfolding facing
returns-then-not-lane_joins c =
    sym (every-stop (pass (goal.at.returns-then-not-lane_joins c).In-loop-r) c.args.h c.loop-r.r (omega arith) (sym c.lane_joins.ensures ∙ c.if-not-lane_joins.true))

pub loop-r-preserved : goal.loop-r-preserved
loop-r-preserved c =
    (omega arith, every_next (pass (goal.at.loop-r-preserved c).In-loop-r) c.loop-r.r c.loop-r.invariant.1 (sym c.lane_joins.ensures ∙ c.if-not-lane_joins.false))

pub returns : goal.returns
unfolding facing
returns c =
    let l = c.loop-r in
    let e : l.r ≡ c.args.h = omega arith in
    sym (rw e at l.invariant.1)
