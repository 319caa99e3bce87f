-- `mapping::map_by` meets its contract. The invariant: what all commands make of the code is what those from `i` on make of what it is by then.
use mathlib.Core.List.{List}
use mathlib.Core.Path.{◌≡◌}
use Prim.Native.Nat.{◌-◌, ◌≤◌}
use lib.ListN.{drop}
use Rattle.flc.specs.declared.Command.{Command}
use Rattle.mapping.specs.Passing.{pass_all}
use Rattle.flc.specs.Filling.{HoldsCommands}
use Rattle.mapping.proofs.map_by.Given as goal

abbrev pub invariant-loop-i : goal.invariant-loop-i
invariant-loop-i l = (l.i ≤ l.count) × ((cs : List Command) → HoldsCommands cs l.count l.stages l.firsts l.lasts l.news → pass_all cs l.initial.p ≡ pass_all (drop l.i cs) l.p)

abbrev pub decreases-loop-i : goal.decreases-loop-i
decreases-loop-i l = l.count - l.i
