-- `wattleslate::row_of_two` meets its contract, for every input: a row that is given is a part of the font that is named.
use mathlib.Core.Path.{sym, ap, ◌∙◌, subst}
use Prim.Native.Nat.{◌+◌, ◌≤◌}
use native.Mathlib.Omega.{arith}
use lib.ListN.{length}
use Rattle.fontlists.specs.declared.two.Which.{Which}
use Rattle.fontlists.specs.declared.two.Which.TheVariants.{First, Second}
use Rattle.fontlists.specs.TwoFonts.{bytes_in}
use Rattle.twofonts.proofs.RowLaws.{row_fits}
use Rattle.wattleslate.specs.RowOfTwoCall.{part_of_two, row_of_two_bytes}
use Rattle.wattleslate.proofs.RowOfTwoLaws.{either_short, two_part}
use Rattle.wattleslate.proofs.row_of_two.Goals as goal

pub overflow_add-end : goal.overflow_add-end
overflow_add-end c =
    let a = c.args in
    let f = row_fits a.first.now a.second.now a.code a.row _ _ _ (sym c.request.ensures ∙ c.in-Row.is) in
    let g = c.well_formed in
    omega (arith, f, either_short c.in-Row.font a.first.now a.second.now, g.0, g.1.0)

pub slice_bounds-result-end : goal.slice_bounds-result-end
slice_bounds-result-end c =
    let a = c.args in
    subst (λ (w : Which). c.in-Row.place + c.in-Row.width ≤ length (bytes_in w a.first.now a.second.now)) c.in-First.is (row_fits a.first.now a.second.now a.code a.row _ _ _ (sym c.request.ensures ∙ c.in-Row.is))

pub slice_bounds-result-end-in-Second : goal.slice_bounds-result-end-in-Second
slice_bounds-result-end-in-Second c =
    let a = c.args in
    subst (λ (w : Which). c.in-Row.place + c.in-Row.width ≤ length (bytes_in w a.first.now a.second.now)) c.in-Second.is (row_fits a.first.now a.second.now a.code a.row _ _ _ (sym c.request.ensures ∙ c.in-Row.is))

pub returns-in-First-clause-part : goal.returns-in-First-clause-part
returns-in-First-clause-part c =
    let a = c.args in
    two_part a.first.now a.second.now a.code a.row _ First _ _ (sym c.in-Row.is ∙ c.request.ensures) c.in-First.is

pub returns-in-Second-clause-part : goal.returns-in-Second-clause-part
returns-in-Second-clause-part c =
    let a = c.args in
    two_part a.first.now a.second.now a.code a.row _ Second _ _ (sym c.in-Row.is ∙ c.request.ensures) c.in-Second.is

pub returns-in-Refused-clause-part : goal.returns-in-Refused-clause-part
unfolding row_of_two_bytes
returns-in-Refused-clause-part c =
    let a = c.args in
    ap (part_of_two a.first.now a.second.now) (sym c.in-Refused.is ∙ c.request.ensures)
