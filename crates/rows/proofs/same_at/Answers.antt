-- `rows::same_at` meets its contract.
use mathlib.Core.Path.{◌≡◌, sym, ap, ◌∙◌}
use mathlib.Core.List.{List}
use Prim.Native.Nat.{ℕ}
use borrow.Author.Tests.{eq-eqb, ne_eqb}
use Rattle.std.proofs.lemmas.Result.{err_from_is_err_and}
use Rattle.std.specs.Prelude.{Result, Ok, Err}
use Rattle.ground.specs.declared.refusals.Refusal.{Refusal}
use Rattle.rows.specs.declared.Format.{Format}
use Rattle.rows.specs.declared.Rows.{Rows}
use Rattle.rows.specs.Steps.{bad_row_at, row_at, of_width, same_at}
use Rattle.rows.proofs.same_at.Goals as goal

module _ (f : Format) (s : List ℕ) (at w : ℕ) where
  same : (x : Rows) → Ok x ≡ row_at f s at → x.width ≡ w → Ok x ≡ same_at f s at w
  unfolding same_at
  same x e q = sym (ap (λ (r : Result Rows Refusal). of_width r at w) (sym e) ∙ simp (eq-eqb x.width w q))

  other : (x : Rows) → Ok x ≡ row_at f s at → (x.width ≡ w → ⊥) → bad_row_at at ≡ same_at f s at w
  unfolding same_at
  other x e q = sym (ap (λ (r : Result Rows Refusal). of_width r at w) (sym e) ∙ simp (ne_eqb x.width w q))

  none : (q : Refusal) → Err q ≡ row_at f s at → Err q ≡ same_at f s at w
  unfolding same_at
  none q e = ap (λ (r : Result Rows Refusal). of_width r at w) e

pub returns-in_err-row : goal.returns-in_err-row
returns-in_err-row c =
    let p = err_from_is_err_and c.from_residual.result c.from_residual.ensures.1 in
    rw (p.1, p.2) (none _ _ _ _ _ (c.in_err-row.ensures))

pub returns-then-row-width : goal.returns-then-row-width
returns-then-row-width c = same _ _ _ _ _ (c.in_ok-row.ensures) c.if-row-width.true

pub returns : goal.returns
returns c = ap Err c.bad_row.ensures ∙ other _ _ _ _ _ (c.in_ok-row.ensures) c.if-row-width.false
