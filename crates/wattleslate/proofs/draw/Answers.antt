-- `wattleslate::draw` meets its contract, for every input.
use mathlib.Core.Path.{ap}
use Rattle.wattleslate.specs.DrawCall.{draw_tells, draw_told, draw_output}
use Rattle.wattleslate.proofs.draw.Goals as goal

pub returns-clause-answer : goal.returns-clause-answer
unfolding draw_told
returns-clause-answer c = ap draw_tells c.draw.ensures.put_out.answers

pub returns-clause-output : goal.returns-clause-output
unfolding draw_output
returns-clause-output c = c.draw.ensures.put_out.holds
