-- `rows::char_at` meets its contract: the first row, and then those that must have its width.
use mathlib.Core.Path.{ap, ◌∙◌}
use Prim.Native.Nat.{ℕ}
use Rattle.std.proofs.lemmas.Result.{err_from_is_err_and}
use Rattle.rows.specs.Steps.{rows_at}
use Rattle.rows.proofs.RowLaws.{char_row, char_missed}
use Rattle.rows.proofs.char_at.Goals as goal

pub returns-in_err-first : goal.returns-in_err-first
returns-in_err-first c =
    let p = err_from_is_err_and c.from_residual.result c.from_residual.ensures.1 in
    rw (p.1, p.2) (char_missed _ _ _ _ (c.in_err-first.ensures))

pub returns : goal.returns
returns c =
    let a = c.args in
    let x = c.in_ok-first.first in
    c.rows_at.ensures ∙ ap (λ (k : ℕ). rows_at a.f a.s.now x.next.at k x.width) c.saturating_sub.ensures ∙ char_row _ _ _ _ (c.in_ok-first.ensures)
