-- `source::next_place` meets its contract.
use mathlib.Core.Path.{sym, ◌∙◌}
use native.Mathlib.Omega.{arith}
use Rattle.lines.proofs.LineLaws.{line-found, line_missed}
use Rattle.lines.proofs.PlaceLaws.{next_stuck}
use Rattle.source.proofs.MarkLaws.{byte-within}
use Rattle.source.proofs.next_place.Goals as goal

pub overflow_add-result : goal.overflow_add-result
overflow_add-result c = omega (arith, byte-within c.args.font.now c.args.at c.requires)

pub returns-in-Some : goal.returns-in-Some
returns-in-Some c = (line-found _ _ c.in-Some.line (sym c.in-Some.is ∙ c.next.ensures)).further

pub returns-in-None : goal.returns-in-None
returns-in-None c = sym (next_stuck _ _ (line_missed _ _ (sym c.in-None.is ∙ c.next.ensures)))
