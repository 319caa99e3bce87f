-- `pack::remove` meets its contract.
use mathlib.Core.Path.{◌∙◌, subst}
use native.Mathlib.Omega.{arith}
use Prim.Native.Nat.{ℕ}
use lib.ListN.{set}
use Rattle.std.specs.Prelude.{Some, None, Ok, Err}
use Rattle.heads.specs.Pack.{meaning}
use Rattle.pack.specs.Calls.{Changes, removal}
use Rattle.heads.proofs.FindLaws.{walkable, found, place_in_lem}
use Rattle.pack.proofs.CallLaws.{err_is, ok_place, err_place, opened_told, remove_bad, remove_absent, remove_done, remove_damaged}
use Rattle.pack.proofs.remove.Goals as goal

pub returns-in_err-head : goal.returns-in_err-head
returns-in_err-head c = rw (err_is c.from_residual.result _ c.from_residual.ensures.1) (remove_damaged c.args.pack.now _ c.in_err-head.ensures _)

pub returns-then-bits-eq-MINUS_ONE : goal.returns-then-bits-eq-MINUS_ONE
returns-then-bits-eq-MINUS_ONE c =
    let s = c.args.pack.now in
    let o = c.in_ok-head.field-0 in
    let t = opened_told s o c.in_ok-head.ensures in
    subst (λ (j : ℕ). Changes (removal (meaning s) j) s (Err c.of.result) s) c.bits_of-bits.ensures (remove_bad s o.head t.records t.says_so c.bits_of-bits.result c.if-bits-eq-MINUS_ONE.true c.of.result c.of.ensures)

pub find_from-found-requires : goal.find_from-found-requires
find_from-found-requires c =
    let s = c.args.pack.now in
    let o = c.in_ok-head.field-0 in
    let t = opened_told s o c.in_ok-head.ensures in
    walkable s o.head t.records t.says_so c.head_length.result c.head_length.ensures

pub returns-in_err-letter : goal.returns-in_err-letter
returns-in_err-letter c =
    let s = c.args.pack.now in
    let o = c.in_ok-head.field-0 in
    let t = opened_told s o c.in_ok-head.ensures in
    let n = c.bits_of-bits in
    let h = c.head_length in
    let e = err_place c.find_from-found.result c.of-2.result _ c.in_err-letter.ensures.value in
    let p = found s o.head t.records t.says_so n.result h.result None h.ensures (e.1 ∙ c.find_from-found.ensures) in
    rw (err_is c.from_residual-in_err-letter.result _ c.from_residual-in_err-letter.ensures.1) (subst (λ (j : ℕ). Changes (removal (meaning s) j) s (Err c.in_err-letter.field-0.0) s) n.ensures (remove_absent s o.head t.records t.says_so n.result c.if-bits-eq-MINUS_ONE.false p _ (e.0 ∙ c.of-2.ensures)))

pub bounds-pack-letter : goal.bounds-pack-letter
bounds-pack-letter c =
    let s = c.args.pack.now in
    let o = c.in_ok-head.field-0 in
    let t = opened_told s o c.in_ok-head.ensures in
    let n = c.bits_of-bits in
    let h = c.head_length in
    let l = c.in_ok-letter.letter in
    let p = found s o.head t.records t.says_so n.result h.result (Some l) h.ensures (ok_place c.find_from-found.result c.of-2.result l c.in_ok-letter.ensures.value ∙ c.find_from-found.ensures) in
    omega (arith, place_in_lem s o.head t.records t.says_so n.result l p)

pub returns : goal.returns
returns c =
    let s = c.args.pack.now in
    let o = c.in_ok-head.field-0 in
    let t = opened_told s o c.in_ok-head.ensures in
    let n = c.bits_of-bits in
    let h = c.head_length in
    let l = c.in_ok-letter.letter in
    let p = found s o.head t.records t.says_so n.result h.result (Some l) h.ensures (ok_place c.find_from-found.result c.of-2.result l c.in_ok-letter.ensures.value ∙ c.find_from-found.ensures) in
    subst (λ (j : ℕ). Changes (removal (meaning s) j) s (Ok tt) (set s l.at 2)) n.ensures (remove_done s o.head t.records t.says_so n.result l c.if-bits-eq-MINUS_ONE.false p)
