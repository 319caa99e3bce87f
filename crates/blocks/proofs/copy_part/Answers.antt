-- `blocks::copy_part` meets its contract: one byte after another is written.
use mathlib.Core.Path.{refl, ◌∙◌}
use Prim.Native.Nat.{◌+◌}
use native.Mathlib.Omega.{arith}
use lib.ListN.{take, length-set}
use Rattle.ground.proofs.Areas.{put_none, put_next}
use Rattle.blocks.specs.Writing.{from_on}
use Rattle.blocks.proofs.Storing.{stored_none, stored_next}
use Rattle.blocks.proofs.copy_part.Goals as goal

pub loop-k-init : goal.loop-k-init
loop-k-init c = (refl, put_none c.args.out.now (from_on c.args.s.now c.args.from) c.args.at, stored_none _ _ _)

pub loop-k-preserved : goal.loop-k-preserved
loop-k-preserved c =
    let l = c.loop-k in
    let a = c.args in
    let f = from_on a.s.now a.from in (
      length-set l.out (a.at + l.k) (f l.k) ∙ l.invariant.0,
      put_next l.out (take a.at a.out.now) f a.at l.k (f l.k) (omega arith) refl l.invariant.1,
      stored_next f a.at l.k (f l.k) a.out.now l.out (omega arith) refl l.invariant.2,
    )
