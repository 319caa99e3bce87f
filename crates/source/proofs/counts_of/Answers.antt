-- `source::counts_of` meets its contract. Whether the source has a code 0 decides.
use mathlib.Core.Path.{subst}
use mathlib.Core.Bool.{Bool}
use Rattle.source.specs.Counting.{StandsIn}
use Rattle.source.proofs.CountLaws.{all_stood_in, none_stood_in}
use Rattle.source.proofs.counts_of.Goals as goal

pub returns-then-stands_in : goal.returns-then-stands_in
returns-then-stands_in c = λ source g text e. all_stood_in source _ text e (subst (λ (b : Bool). StandsIn b source) c.if-stands_in.true (c.stands_in.ensures source g) text)

pub returns : goal.returns
returns c = λ source g text e. none_stood_in source _ text e (subst (λ (b : Bool). StandsIn b source) c.if-stands_in.false (c.stands_in.ensures source g) text)
