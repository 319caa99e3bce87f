-- `flc::reading::fill` meets its contract. The invariant: the lists hold the first n commands, and the others are those from the cursor on.
use Prim.Native.Nat.{◌-◌}
use Rattle.ground.specs.Limits.{max_commands}
use Rattle.flc.proofs.FillLaws.{CommandsHeld}
use Rattle.flc.proofs.reading.fill.Given as goal

abbrev pub invariant-loop-command : goal.invariant-loop-command
invariant-loop-command l = CommandsHeld l.s l.initial.cursor.at l.initial.stages l.initial.firsts l.initial.lasts l.initial.news l.stages l.firsts l.lasts l.news l.cursor.at l.stage l.n

abbrev pub decreases-loop-command : goal.decreases-loop-command
decreases-loop-command l = max_commands - l.n
