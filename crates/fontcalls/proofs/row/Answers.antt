-- `fontcalls::row` meets its contract, for every input: a row that is given is a part of the font.
use mathlib.Core.Path.{refl, sym, ◌∙◌}
use Prim.Native.Nat.{◌+◌, ◌≤◌}
use lib.ListN.{length}
use borrow.Author.Rules.{rules}
use Rattle.request.proofs.RequestLaws.{row_fits}
use Rattle.fontcalls.proofs.RowLaws.{row-part, part_by_request, lies_there, lies_nowhere}
use Rattle.fontcalls.proofs.row.Goals.{In-Ok}
use Rattle.fontcalls.proofs.row.Goals as goal

fits : (c : In-Ok) → c.in-Ok.at.place + c.in-Ok.at.width ≤ length c.args.font.now
fits c = row_fits c.args.font.now c.args.code c.args.row _ _ (sym c.request.ensures ∙ c.in-Ok.is)

pub overflow_add-end : goal.overflow_add-end
overflow_add-end c =
    let f = fits (goal.at.overflow_add-end c).In-Ok in search rules

pub slice_bounds-result-end : goal.slice_bounds-result-end
slice_bounds-result-end c = fits (goal.at.slice_bounds-result-end c).In-Ok

pub returns-in-Ok : goal.returns-in-Ok
returns-in-Ok c =
    let a = c.args in
    let e = sym c.in-Ok.is ∙ c.request.ensures in
    record { part = row-part a.font.now a.code a.row _ _ e; place = lies_there a.font.now a.code a.row _ _ _ _ e refl refl }

pub returns-in-Err : goal.returns-in-Err
returns-in-Err c =
    let a = c.args in
    let e = sym c.in-Err.is ∙ c.request.ensures in
    record { part = part_by_request a.font.now a.code a.row _ e; place = lies_nowhere a.font.now a.code a.row _ _ _ e }
