-- `chars::listed_at` meets its contract.
use mathlib.Core.Path.{ap}
use Rattle.std.specs.Prelude.{Result}
use Rattle.std.proofs.lemmas.Result.{err_from_is_err_and}
use Rattle.ground.specs.declared.refusals.Refusal.{Refusal}
use Rattle.rows.specs.declared.Rows.{Rows}
use Rattle.chars.specs.Steps.{listed_then, listed_at}
use Rattle.chars.proofs.listed_at.Goals as goal

pub returns-in_err-rows : goal.returns-in_err-rows
unfolding listed_at
returns-in_err-rows c =
    let p = err_from_is_err_and c.from_residual.result c.from_residual.ensures.1 in
    rw (p.1, p.2) (ap (λ (x : Result Rows Refusal). listed_then x c.args.code c.args.cursor.at) c.in_err-rows.ensures)

pub returns : goal.returns
unfolding listed_at
returns c = ap (λ (x : Result Rows Refusal). listed_then x c.args.code c.args.cursor.at) c.in_ok-rows.ensures
