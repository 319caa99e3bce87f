-- `source::font_stands_in` meets its contract.
use mathlib.Core.Path.{sym, subst}
use mathlib.Core.Bool.{Bool}
use Rattle.source.specs.Counting.{StandsIn}
use Rattle.source.proofs.CharacterLaws.{given_stands}
use Rattle.source.proofs.font_stands_in.Goals as goal

pub returns : goal.returns
returns c = λ source g.
    subst (λ (b : Bool). StandsIn b source) (sym c.is_some.ensures) (given_stands source _ _ _ _ _ _ _ g c.find_known.result (λ es n l. c.find_known.ensures es n l))
