use mathlib.Core.Bool.{Bool}
use mathlib.Core.Path.{◌≡◌, ◌∙◌, sym}
use Prim.Native.Nat.{ℕ, ◌-◌, ◌+◌}
use native.Mathlib.Omega.{arith}
use borrow.Author.Rules.{rules}
use Rattle.ground.proofs.Counting.{every-none, every_next, every-stop}
use Rattle.lanes.specs.Blocks.{lane}
use Rattle.lanes.specs.Overlap.{lane_facing}
use Rattle.pairs.specs.Pair.{joins}
use Rattle.overlap.proofs.lane_joins.Goals.{In-loop-i}
use Rattle.overlap.proofs.lane_joins.Goals as goal

abbrev In : Type 0
In = In-loop-i

-- the pair k joins
abbrev pass : In → ℕ → Bool
pass z k = let s = z.args in joins s.mode (lane s.left.now s.a s.p (s.n - s.o + k)) (lane s.right.now s.b s.q k)

pub loop-i-init : goal.loop-i-init
loop-i-init c = (search rules, every-none _)

pub returns-then-not-pair_joins : goal.returns-then-not-pair_joins
unfolding lane_facing
returns-then-not-pair_joins c =
    sym (every-stop (pass (goal.at.returns-then-not-pair_joins c).In-loop-i) c.args.o c.loop-i.i (omega arith) (sym c.pair_joins.ensures ∙ c.if-not-pair_joins.true))

pub loop-i-preserved : goal.loop-i-preserved
loop-i-preserved c =
    (omega arith, every_next (pass (goal.at.loop-i-preserved c).In-loop-i) c.loop-i.i c.loop-i.invariant.1 (sym c.pair_joins.ensures ∙ c.if-not-pair_joins.false))

pub returns : goal.returns
unfolding lane_facing
returns c =
    let l = c.loop-i in
    let e : l.i ≡ c.args.o = omega arith in
    sym (rw e at l.invariant.1)
