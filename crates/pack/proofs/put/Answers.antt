-- `pack::put` meets its contract.
use mathlib.Core.Path.{sym, ◌∙◌, subst}
use native.Mathlib.Omega.{arith}
use borrow.Author.Rules.{rules}
use Prim.Native.Nat.{ℕ}
use lib.ListN.{length}
use mir.Syntax.{w32}
use mir.Val.{SFits}
use Rattle.std.specs.Prelude.{Err}
use Rattle.heads.specs.Pack.{meaning}
use Rattle.pack.specs.Calls.{Changes, insertion}
use Rattle.records.proofs.CodeLaws.{bits_small}
use Rattle.heads.proofs.FindLaws.{low}
use Rattle.pack.proofs.CallLaws.{err_is, opened_told, put_bad, put_damaged}
use Rattle.pack.proofs.put.Goals as goal

pub returns-in_err-head : goal.returns-in_err-head
returns-in_err-head c = rw (err_is c.from_residual.result _ c.from_residual.ensures.1) (put_damaged c.args.pack.now _ c.in_err-head.ensures _ _ _)

pub is_good_letter-requires : goal.is_good_letter-requires
is_good_letter-requires c =
    let s = c.args.pack.now in
    let o = c.in_ok-head.field-0 in
    let t = opened_told s o c.in_ok-head.ensures in
    low s o.head t.records t.says_so

pub put_letter-requires : goal.put_letter-requires
put_letter-requires c =
    let s = c.args.pack.now in
    let o = c.in_ok-head.field-0 in
    let t = opened_told s o c.in_ok-head.ensures in
    let fits : SFits w32 c.args.code.0 = search rules in
    record { records = t.records; said = t.says_so; letter = sym c.is_good_letter.ensures ∙ c.if-is_good_letter.true; small = omega (arith, bits_small c.args.code.0 fits, c.bits_of-bits.ensures) }

pub returns : goal.returns
returns c =
    let s = c.args.pack.now in
    let o = c.in_ok-head.field-0 in
    let t = opened_told s o c.in_ok-head.ensures in
    let w = c.args.width in
    let rows = c.args.rows.now in
    subst (λ (j : ℕ). Changes (insertion (meaning s) (length s) j w rows) s (Err c.of.result) s) c.bits_of-bits.ensures (put_bad s o.head t.records t.says_so c.bits_of-bits.result w rows (sym c.is_good_letter.ensures ∙ c.if-is_good_letter.false) c.of.result c.of.ensures)
