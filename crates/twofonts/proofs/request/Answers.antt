-- `twofonts::request` meets its contract.
use mathlib.Core.Path.{sym, ap, ◌∙◌}
use Rattle.twofonts.specs.RowOfTwo.{row_in}
use Rattle.twofonts.proofs.FontsLaws.{held_as, row-there, row-beyond, unfit-row}
use Rattle.twofonts.proofs.request.Goals as goal

pub returns-then-row-header : goal.returns-then-row-header
returns-then-row-header c =
    let a = c.args in
    let l = c.read_both in
    let x = held_as a.first.now a.second.now _ _ l.new.codes l.new.starts l.new.widths l.new.places c.in-Read.is l.ensures in
    c.row_in.ensures ∙ ap (row_in a.first.now a.second.now a.row) (c.look_up-looked.ensures _ _ _ x.other x.held) ∙ sym (row-there a.first.now a.second.now _ _ _ _ _ _ _ x a.code a.row c.if-row-header.true)

pub returns-else-row-header : goal.returns-else-row-header
returns-else-row-header c =
    let a = c.args in
    let l = c.read_both in
    let x = held_as a.first.now a.second.now _ _ l.new.codes l.new.starts l.new.widths l.new.places c.in-Read.is l.ensures in
    c.no_row.ensures ∙ sym (row-beyond a.first.now a.second.now _ _ _ _ _ _ _ x a.code a.row c.if-row-header.false)

pub returns-in-Refused : goal.returns-in-Refused
returns-in-Refused c =
    let a = c.args in
    let l = c.read_both in
    sym (unfit-row a.first.now a.second.now _ (held_as a.first.now a.second.now _ _ l.new.codes l.new.starts l.new.widths l.new.places c.in-Refused.is l.ensures) a.code a.row)
