-- `stack::writing::Overlaid::write_row` meets its contract. The invariant: the first c columns stand at `at`.
use mathlib.Core.List.{◌++◌}
use mathlib.Core.Path.{◌≡◌}
use Prim.Native.Nat.{◌+◌}
use lib.ListN.{take}
use Rattle.ground.specs.Area.{values}
use Rattle.stack.specs.Overlaying.{overlaid_cells}
use Rattle.stack.proofs.writing.Overlaid.write_row.Given as goal

abbrev pub invariant-loop-c : goal.invariant-loop-c
invariant-loop-c l = take (l.at + l.c) l.out ≡ take l.at l.initial.out ++ values (overlaid_cells l.self l.r) l.c
