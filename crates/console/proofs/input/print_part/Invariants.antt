-- `console::input::print_part` meets its contract and ends: each line brings the place nearer to the end of the part.
use mathlib.Core.Path.{◌≡◌}
use Prim.Native.Nat.{◌≤◌, ◌-◌}
use lib.ListN.{length}
use Rattle.cutting.specs.Parts.{most_kept}
use Rattle.console.proofs.input.print_part.Given as goal

abbrev pub invariant-loop-m : goal.invariant-loop-m
invariant-loop-m g l =
    (l.at ≤ length l.part) × (l.n ≤ most_kept) × (length l.line ≡ length l.initial.line) × (length l.out ≡ length l.initial.out) × (length l.area ≡ length l.initial.area)

abbrev pub decreases-loop-m : goal.decreases-loop-m
decreases-loop-m g l =
    length l.part - l.at
