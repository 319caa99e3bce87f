-- `rows::row_where` meets its contract: one law for each way to return.
use mathlib.Core.Path.{sym, ◌∙◌}
use lib.Seq.{length-take-le}
use Rattle.rows.proofs.LineLaws.{left_le, none_left, too_long, width_le, row_low, row_good}
use Rattle.rows.proofs.PlainLaws.{plain-legal}
use Rattle.rows.proofs.row_where.Goals as goal

pub returns-then-size-eq0 : goal.returns-then-size-eq0
returns-then-size-eq0 c = none_left _ _ _ c.trimmed_length-size.ensures c.if-size-eq0.true

pub returns-then-f-size : goal.returns-then-f-size
returns-then-f-size c = too_long _ _ _ c.trimmed_length-size.ensures c.if-f-size.true

pub slice_bounds-row_width-end : goal.slice_bounds-row_width-end
slice_bounds-row_width-end c =
    let a = c.args in
    sym (length-take-le _ _ (left_le a.f a.t.now _ c.trimmed_length-size.ensures))

pub returns-then-plain : goal.returns-then-plain
returns-then-plain c =
    row_good _ _ _ c.trimmed_length-size.ensures _ c.row_width-width.ensures c.if-size-eq0.false c.if-f-size.false
    (plain-legal c.args.f.hardblank.0 c.row_width-width.result c.args.t.now (c.requires c.if-plain.true))

pub slice_bounds-are_legal-end : goal.slice_bounds-are_legal-end
slice_bounds-are_legal-end c =
    let a = c.args in
    sym (length-take-le _ _ (width_le a.f a.t.now _ c.trimmed_length-size.ensures _ c.row_width-width.ensures))

pub returns-then-are_legal : goal.returns-then-are_legal
returns-then-are_legal c =
    row_good _ _ _ c.trimmed_length-size.ensures _ c.row_width-width.ensures c.if-size-eq0.false c.if-f-size.false (sym c.are_legal.ensures ∙ c.if-are_legal.true)

pub returns : goal.returns
returns c =
    row_low _ _ _ c.trimmed_length-size.ensures _ c.row_width-width.ensures (sym c.are_legal.ensures ∙ c.if-are_legal.false)
