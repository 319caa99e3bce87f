use mathlib.Core.Path.{◌≡◌, sym, ap, ◌∙◌}
use mathlib.Core.List.{List}
use Prim.Native.Nat.{ℕ, suc, ◌-◌, ◌<◌}
use native.Mathlib.Omega.{arith}
use lib.ListN.{length}
use Rattle.std.proofs.lemmas.Result.{err_from_is_err_and}
use Rattle.std.specs.Prelude.{Result, Ok, Err}
use Rattle.ground.specs.declared.refusals.Refusal.{Refusal}
use Rattle.lines.specs.Lines.{lines_from, next_start, cursor, after}
use Rattle.rows.specs.declared.Format.{Format}
use Rattle.rows.specs.declared.Rows.{Rows}
use Rattle.rows.specs.Rows.{rows_on}
use Rattle.rows.specs.Steps.{rows, same_at, char_then, rows_at}
use Rattle.rows.proofs.RowLaws.{same-found, same_missed}
use Rattle.rows.proofs.rows_at.Goals as goal

module _ (f : Format) (s : List ℕ) (at w k : ℕ) where
  one_more : 0 < k → k ≡ suc (k - 1)
  one_more h = omega arith

  step : 0 < k → (x : Rows) → Ok x ≡ same_at f s at w → rows_at f s at k w ≡ rows_at f s x.next.at (k - 1) w
  unfolding rows_at after
  step h x e =
      let g = same-found f s at w x e in
      ap (λ (j : ℕ). char_then (rows_on f (length s) j w (lines_from s at)) (cursor (after j s at))) (one_more h) ∙
      ap (λ (y : Result ℕ Refusal). char_then y (cursor (after (k - 1) s (next_start s at)))) (g.rows (k - 1)) ∙
      ap (λ (j : ℕ). char_then (rows_on f (length s) (k - 1) w (lines_from s x.next.at)) (cursor (after (k - 1) s j))) (sym g.place)

  missed : 0 < k → (q : Refusal) → Err q ≡ same_at f s at w → Err q ≡ rows_at f s at k w
  unfolding rows_at
  missed h q e =
      sym (ap (λ (x : Result ℕ Refusal). char_then x (cursor (after k s at))) (ap (λ (j : ℕ). rows_on f (length s) j w (lines_from s at)) (one_more h) ∙ same_missed f s at w q e (k - 1)))

  done : k ≡ 0 → Ok (rows w (cursor at)) ≡ rows_at f s at k w
  unfolding rows_at rows_on after
  done e = sym (ap (λ (j : ℕ). char_then (rows_on f (length s) j w (lines_from s at)) (cursor (after j s at))) e)

pub returns-in_err-row : goal.returns-in_err-row
returns-in_err-row c =
    let p = err_from_is_err_and c.from_residual.result c.from_residual.ensures.1 in
    rw (p.1, p.2) (missed _ _ c.loop-left.cursor.at _ c.loop-left.left c.loop-left-test.true _ (c.in_err-row.ensures) ∙ sym c.loop-left.invariant)

pub loop-left-preserved : goal.loop-left-preserved
loop-left-preserved c =
    c.loop-left.invariant ∙ step _ _ c.loop-left.cursor.at _ c.loop-left.left c.loop-left-test.true _ (c.in_ok-row.ensures)

pub returns : goal.returns
returns c =
    done _ _ c.loop-left.cursor.at _ c.loop-left.left (omega arith) ∙ sym c.loop-left.invariant
