use mathlib.Core.Path.{◌≡◌, subst}
use Prim.Native.Nat.{◌+◌}
use native.Mathlib.Omega.{arith}
use borrow.Author.Rules.{rules}
use lib.IntN.{ℤ, pos}
use lib.ListN.{get_or}
use mir.Syntax.{w32}
use mir.Val.{to_z, of_z}
use Rattle.index.specs.Latest.{Noted}
use Rattle.index.proofs.LatestLaws.{latest-none, latest-more}
use Rattle.index.proofs.latest.find_latest.Goals as goal

pub loop-i-init : goal.loop-i-init
loop-i-init c = latest-none c.args.codes.now c.args.latest.now _ c.requires c.fill_from.ensures

pub loop-i-preserved : goal.loop-i-preserved
loop-i-preserved c =
    let l = c.loop-i in
    let a = c.args in
    let x = get_or a.codes.now l.i (pos 0) in
    let e : to_z w32 (of_z w32 x) ≡ x = search rules in
    latest-more a.codes.now l.i l.latest c.note.new.latest (omega arith) l.invariant (subst (λ (y : ℤ). Noted y (l.i + 1) l.latest c.note.new.latest) e c.note.ensures)
