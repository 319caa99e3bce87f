-- `pack::locate` meets its contract.
use mathlib.Core.Path.{ap, ◌∙◌}
use native.Mathlib.Omega.{arith}
use Prim.Native.Nat.{ℕ, ◌+◌, ◌*◌}
use Rattle.std.specs.Prelude.{Some, None, Ok, Err}
use Rattle.heads.specs.Pack.{meaning}
use Rattle.pack.specs.Calls.{located_in}
use Rattle.heads.proofs.FindLaws.{walkable, found, place_in_lem}
use Rattle.pack.proofs.CallLaws.{err_is, ok_place, err_place, opened_told, locate_bad, locate_place, locate_damaged}
use Rattle.pack.proofs.locate.Goals as goal

pub returns-in_err-head : goal.returns-in_err-head
returns-in_err-head c = err_is c.from_residual.result _ c.from_residual.ensures.1 ∙ locate_damaged c.args.pack.now _ c.in_err-head.ensures _

pub returns-then-bits-eq-MINUS_ONE : goal.returns-then-bits-eq-MINUS_ONE
returns-then-bits-eq-MINUS_ONE c =
    let s = c.args.pack.now in
    let o = c.in_ok-head.field-0 in
    let t = opened_told s o c.in_ok-head.ensures in
    locate_bad s o.head t.records t.says_so c.bits_of-bits.result c.if-bits-eq-MINUS_ONE.true c.of.result c.of.ensures ∙ ap (located_in (meaning s)) c.bits_of-bits.ensures

pub find_from-found-requires : goal.find_from-found-requires
find_from-found-requires c =
    let s = c.args.pack.now in
    let o = c.in_ok-head.field-0 in
    let t = opened_told s o c.in_ok-head.ensures in
    walkable s o.head t.records t.says_so c.head_length.result c.head_length.ensures

pub returns-in_err-letter : goal.returns-in_err-letter
returns-in_err-letter c =
    let s = c.args.pack.now in
    let o = c.in_ok-head.field-0 in
    let t = opened_told s o c.in_ok-head.ensures in
    let n = c.bits_of-bits in
    let h = c.head_length in
    let e = err_place c.find_from-found.result c.of-2.result _ c.in_err-letter.ensures.value in
    let p = found s o.head t.records t.says_so n.result h.result None h.ensures (e.1 ∙ c.find_from-found.ensures) in
    err_is c.from_residual-in_err-letter.result _ c.from_residual-in_err-letter.ensures.1 ∙ ap Err (e.0 ∙ c.of-2.ensures) ∙ locate_place s o.head t.records t.says_so n.result c.if-bits-eq-MINUS_ONE.false None p ∙ ap (located_in (meaning s)) n.ensures

pub overflow_add-place : goal.overflow_add-place
overflow_add-place c =
    let s = c.args.pack.now in
    let o = c.in_ok-head.field-0 in
    let t = opened_told s o c.in_ok-head.ensures in
    let n = c.bits_of-bits in
    let h = c.head_length in
    let l = c.in_ok-letter.letter in
    let p = found s o.head t.records t.says_so n.result h.result (Some l) h.ensures (ok_place c.find_from-found.result c.of-2.result l c.in_ok-letter.ensures.value ∙ c.find_from-found.ensures) in
    omega (arith, place_in_lem s o.head t.records t.says_so n.result l p, c.record_head_length.ensures)

pub overflow_mul-size : goal.overflow_mul-size
overflow_mul-size c =
    let s = c.args.pack.now in
    let o = c.in_ok-head.field-0 in
    let t = opened_told s o c.in_ok-head.ensures in
    let n = c.bits_of-bits in
    let h = c.head_length in
    let l = c.in_ok-letter.letter in
    let p = found s o.head t.records t.says_so n.result h.result (Some l) h.ensures (ok_place c.find_from-found.result c.of-2.result l c.in_ok-letter.ensures.value ∙ c.find_from-found.ensures) in
    omega (arith, place_in_lem s o.head t.records t.says_so n.result l p)

pub returns : goal.returns
returns c =
    let s = c.args.pack.now in
    let o = c.in_ok-head.field-0 in
    let t = opened_told s o c.in_ok-head.ensures in
    let n = c.bits_of-bits in
    let h = c.head_length in
    let l = c.in_ok-letter.letter in
    let p = found s o.head t.records t.says_so n.result h.result (Some l) h.ensures (ok_place c.find_from-found.result c.of-2.result l c.in_ok-letter.ensures.value ∙ c.find_from-found.ensures) in
    ap (λ (j : ℕ). Ok (record { place = l.at + j; width = l.width; size = o.head.height * l.width })) c.record_head_length.ensures ∙
    locate_place s o.head t.records t.says_so n.result c.if-bits-eq-MINUS_ONE.false (Some l) p ∙ ap (located_in (meaning s)) n.ensures
