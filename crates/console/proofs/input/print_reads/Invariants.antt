-- `console::input::print_reads`: no more than 1,025 bytes are held.
use Rattle.std.proofs.Common.{◌≤◌}
use Rattle.cutting.specs.Parts.{most_kept}
use Rattle.console.proofs.input.print_reads.Given as goal

abbrev pub invariant-loop : goal.invariant-loop
invariant-loop g l = l.held ≤ most_kept
