-- `records::scan_part` meets its contract.
use mathlib.Core.Path.{sym, ◌∙◌}
use native.Mathlib.Omega.{arith}
use Rattle.records.proofs.VersionLaws.{width_length_high}
use Rattle.records.proofs.FieldLaws.{at-end, at_bad, bad_head, scan_fields, scan_size, scan_rows, scan_good}
use Rattle.records.proofs.scan_part.Goals as goal

pub returns-then-is_zeros : goal.returns-then-is_zeros
returns-then-is_zeros c = at-end _ _ (sym c.is_zeros.ensures ∙ c.if-is_zeros.true)

pub returns-then-t-start : goal.returns-then-t-start
returns-then-t-start c = at_bad _ _ (sym c.is_zeros.ensures ∙ c.if-is_zeros.false) (bad_head _ _ (omega (arith, c.record_head_length-start.ensures)))

pub number_at-width-requires : goal.number_at-width-requires
number_at-width-requires c = (omega (arith, c.width_length.ensures, width_length_high c.args.head.version), omega (arith, c.width_length.ensures, c.record_head_length-start.ensures))

pub returns-then-t-size : goal.returns-then-t-size
returns-then-t-size c =
    let f = c.args.head in
    let t = c.args.t.now in
    let h = c.record_head_length-start in
    let n = c.number_at-code in
    let l = c.width_length in
    let w = c.number_at-width in
    let z = sym c.is_zeros.ensures ∙ c.if-is_zeros.false in
    scan_size f t h.result n.result l.result w.result h.ensures z (omega (arith, c.if-t-start.false)) n.ensures l.ensures w.ensures (sym c.are_good_fields.ensures ∙ c.if-are_good_fields.true) c.if-t-size.true

pub returns-then-are_legal : goal.returns-then-are_legal
returns-then-are_legal c =
    let f = c.args.head in
    let t = c.args.t.now in
    let h = c.record_head_length-start in
    let n = c.number_at-code in
    let l = c.width_length in
    let w = c.number_at-width in
    let z = sym c.is_zeros.ensures ∙ c.if-is_zeros.false in
    scan_good f t h.result n.result l.result w.result h.ensures z (omega (arith, c.if-t-start.false)) n.ensures l.ensures w.ensures (sym c.are_good_fields.ensures ∙ c.if-are_good_fields.true) (omega (arith, c.if-t-size.false)) (sym c.are_legal.ensures ∙ c.if-are_legal.true)

pub returns-else-are_legal : goal.returns-else-are_legal
returns-else-are_legal c =
    let f = c.args.head in
    let t = c.args.t.now in
    let h = c.record_head_length-start in
    let n = c.number_at-code in
    let l = c.width_length in
    let w = c.number_at-width in
    let z = sym c.is_zeros.ensures ∙ c.if-is_zeros.false in
    scan_rows f t h.result n.result l.result w.result h.ensures z (omega (arith, c.if-t-start.false)) n.ensures l.ensures w.ensures (sym c.are_good_fields.ensures ∙ c.if-are_good_fields.true) (omega (arith, c.if-t-size.false)) (sym c.are_legal.ensures ∙ c.if-are_legal.false)

pub returns-else-are_good_fields : goal.returns-else-are_good_fields
returns-else-are_good_fields c =
    let f = c.args.head in
    let t = c.args.t.now in
    let h = c.record_head_length-start in
    let n = c.number_at-code in
    let l = c.width_length in
    let w = c.number_at-width in
    let z = sym c.is_zeros.ensures ∙ c.if-is_zeros.false in
    scan_fields f t h.result n.result l.result w.result h.ensures z (omega (arith, c.if-t-start.false)) n.ensures l.ensures w.ensures (sym c.are_good_fields.ensures ∙ c.if-are_good_fields.false)
