-- `records::skim_part` meets its contract.
use native.Mathlib.Omega.{arith}
use borrow.Author.Rules.{rules}
use Rattle.records.proofs.VersionLaws.{width_length_low, width_length_high}
use Rattle.records.proofs.ListingLaws.{fine, whole_good}
use Rattle.records.proofs.FieldLaws.{skim_none, skim_zero, not_zeros, skim_product, skim_record}
use Rattle.records.proofs.skim_part.Goals as goal

pub returns-then-t-eq0 : goal.returns-then-t-eq0
returns-then-t-eq0 c = skim_none c.args.head c.args.t.now c.if-t-eq0.true

pub returns-then-status-eq0 : goal.returns-then-status-eq0
returns-then-status-eq0 c = skim_zero c.args.head c.args.t.now c.requires.1 c.if-status-eq0.true

pub number_at-code-requires : goal.number_at-code-requires
number_at-code-requires c =
    let f = c.args.head in
    let t = c.args.t.now in
    let q = c.requires in
    let z = not_zeros t (omega (arith, c.if-t-eq0.false)) c.if-status-eq0.false in
    let good = fine f t (whole_good f t q.1 z) in
    (search rules, omega (arith, good.head, width_length_low f.version))

pub number_at-width-requires : goal.number_at-width-requires
number_at-width-requires c =
    let f = c.args.head in
    let t = c.args.t.now in
    let q = c.requires in
    let z = not_zeros t (omega (arith, c.if-t-eq0.false)) c.if-status-eq0.false in
    let good = fine f t (whole_good f t q.1 z) in
    (omega (arith, c.width_length.ensures, width_length_high f.version), omega (arith, c.width_length.ensures, good.head))

pub overflow_add-size : goal.overflow_add-size
overflow_add-size c =
    let f = c.args.head in
    let t = c.args.t.now in
    let q = c.requires in
    let z = not_zeros t (omega (arith, c.if-t-eq0.false)) c.if-status-eq0.false in
    let good = fine f t (whole_good f t q.1 z) in
    let h = c.record_head_length-start in
    let n = c.number_at-code in
    let l = c.width_length in
    let w = c.number_at-width in
    omega (arith, skim_product f t h.result n.result l.result w.result h.ensures z (omega (arith, h.ensures, good.head)) n.ensures l.ensures w.ensures q.1 q.0, h.ensures, width_length_high f.version)

pub returns : goal.returns
returns c =
    let f = c.args.head in
    let t = c.args.t.now in
    let q = c.requires in
    let z = not_zeros t (omega (arith, c.if-t-eq0.false)) c.if-status-eq0.false in
    let good = fine f t (whole_good f t q.1 z) in
    let h = c.record_head_length-start in
    let n = c.number_at-code in
    let l = c.width_length in
    let w = c.number_at-width in
    skim_record f t h.result n.result l.result w.result h.ensures z (omega (arith, h.ensures, good.head)) n.ensures l.ensures w.ensures q.1
