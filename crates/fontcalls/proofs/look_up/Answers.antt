-- `fontcalls::look_up` meets its contract, for every input.
use mathlib.Core.Path.{sym, ap, ◌∙◌}
use Rattle.std.specs.Prelude.{Ok}
use Rattle.std.proofs.lemmas.Result.{err_from_is_err_and}
use Rattle.fontcalls.proofs.LookUpLaws.{by-found, by-none, by_unread}
use Rattle.fontcalls.proofs.look_up.Goals as goal

pub returns-in_err-sought : goal.returns-in_err-sought
returns-in_err-sought c =
    let p = err_from_is_err_and c.from_residual.result c.from_residual.ensures.1 in
    rw (p.1, p.2) (record { answer = by_unread c.args.font.now c.args.code _ (sym c.seek.ensures ∙ c.in_err-sought.was) })

pub returns-in-Some : goal.returns-in-Some
returns-in-Some c = record { answer = by-found c.args.font.now c.args.code c.in-Some.it _ c.which_of.ensures (sym c.seek.ensures ∙ c.in_ok-sought.was ∙ ap Ok c.in-Some.is) }

pub returns-in-None : goal.returns-in-None
returns-in-None c = record { answer = by-none c.args.font.now c.args.code (sym c.seek.ensures ∙ c.in_ok-sought.was ∙ ap Ok c.in-None.is) }
