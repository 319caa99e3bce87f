-- `asking::read_start`: no more bytes are read than there is room for.
use Rattle.std.proofs.Common.{◌≤◌, length}
use Rattle.asking.proofs.read_start.Given as goal

abbrev pub invariant-loop : goal.invariant-loop
invariant-loop g l = l.done ≤ length l.buffer
