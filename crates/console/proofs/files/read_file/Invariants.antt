-- `console::files::read_file`: what is read lies in the buffer.
use Rattle.std.proofs.Common.{◌≤◌, length}
use Rattle.console.proofs.files.read_file.Given as goal

abbrev pub invariant-loop : goal.invariant-loop
invariant-loop g l = l.done ≤ length l.buffer
