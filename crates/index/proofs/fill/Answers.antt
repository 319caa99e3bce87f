use mathlib.Core.Path.{◌≡◌, sym, ap, ◌∙◌, subst}
use Prim.Native.Nat.{◌+◌, ◌<◌}
use native.Mathlib.Omega.{arith}
use borrow.Author.Rules.{rules}
use lib.IntN.{ℤ}
use lib.ListN.{set}
use mir.Syntax.{w32}
use mir.Val.{to_z, of_z}
use Rattle.std.specs.Prelude.{Ok, Some}
use Rattle.std.proofs.lemmas.Result.{err_from_is_err_and}
use Rattle.ground.specs.Limits.{max_characters}
use Rattle.chars.specs.Steps.{next_at}
use Rattle.index.proofs.FillLaws.{listed-room, CharactersHeld, held_more, held_done, held_failed}
use Rattle.index.proofs.fill.Goals.{In-Some}
use Rattle.index.proofs.fill.Goals as goal

found : (c : In-Some) → Ok (Some c.in-Some.listed) ≡ next_at c.args.f c.args.s.now c.loop-listed.cursor.at c.loop-listed.n
found c = ap Ok (sym c.in-Some.is) ∙ c.in_ok-listed.ensures

room : (c : In-Some) → c.loop-listed.n < max_characters
room c = listed-room _ _ _ _ _ (found c)

pub bounds-codes-n : goal.bounds-codes-n
bounds-codes-n c = omega (arith, room (goal.at.bounds-codes-n c).In-Some, c.loop-listed.invariant.long_codes, c.requires.for_codes)

pub bounds-starts-n : goal.bounds-starts-n
bounds-starts-n c = omega (arith, room (goal.at.bounds-starts-n c).In-Some, c.loop-listed.invariant.long_starts, c.requires.for_starts)

pub bounds-widths-n : goal.bounds-widths-n
bounds-widths-n c = omega (arith, room (goal.at.bounds-widths-n c).In-Some, c.loop-listed.invariant.long_widths, c.requires.for_widths)

pub loop-listed-smaller : goal.loop-listed-smaller
loop-listed-smaller c = omega (arith, room (goal.at.loop-listed-smaller c).In-Some)

pub loop-listed-preserved : goal.loop-listed-preserved
loop-listed-preserved c =
    let a = c.args in
    let l = c.loop-listed in
    let e = c.in-Some.listed.entry in
    let next = c.in-Some.listed.next in
    let z : to_z w32 (of_z w32 e.code.0) ≡ e.code.0 = search rules in
    let h = held_more a.f a.s.now a.from.at a.codes.now a.starts.now a.widths.now c.requires l.codes l.starts l.widths l.cursor.at l.n l.invariant c.in-Some.listed (found (goal.at.loop-listed-preserved c).In-Some) in
    subst (λ (y : ℤ). CharactersHeld a.f a.s.now a.from.at a.codes.now a.starts.now a.widths.now (set l.codes l.n y) (set l.starts l.n e.start) (set l.widths l.n e.width) next.at (l.n + 1)) (sym z) h

pub returns : goal.returns
returns c =
    let l = c.loop-listed in
    held_done _ c.args.s.now _ c.args.codes.now c.args.starts.now c.args.widths.now c.requires l.codes l.starts l.widths l.cursor.at l.n l.invariant (ap Ok (sym c.in_default.is) ∙ c.in_ok-listed.ensures)

pub returns-in_err-listed : goal.returns-in_err-listed
returns-in_err-listed c =
    let l = c.loop-listed in
    let p = err_from_is_err_and c.from_residual.result c.from_residual.ensures.1 in
    rw (p.1, p.2) (held_failed _ c.args.s.now _ c.args.codes.now c.args.starts.now c.args.widths.now c.requires l.codes l.starts l.widths l.cursor.at l.n l.invariant _ c.in_err-listed.ensures)
