-- `records::is_repeated` meets its contract.
use mathlib.Core.Path.{ap, ◌∙◌}
use Rattle.std.specs.Prelude.{is_some}
use Rattle.records.proofs.WalkLaws.{place-has, yes_and}
use Rattle.records.proofs.is_repeated.Goals as goal

pub returns-then-found : goal.returns-then-found
returns-then-found c =
    let a = c.args in
    yes_and a.found.live _ _ c.if-found.true (c.is_some.ensures ∙ ap is_some c.find_from.ensures ∙ place-has a.head a.found.code a.from _)
