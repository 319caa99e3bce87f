-- `letters::hold_letters` meets its contract. The invariant: what is found behind the head is what is held, or else what is found from `at` on.
use mathlib.Core.Path.{◌≡◌}
use Prim.Native.Nat.{◌-◌}
use lib.ListN.{length}
use Rattle.letters.proofs.HeldLaws.{Passed}
use Rattle.letters.proofs.hold_letters.Given as goal

abbrev pub invariant-loop-found : goal.invariant-loop-found
invariant-loop-found l = Passed l.head l.pack l.initial.at l.at l.starts l.widths × (length l.starts ≡ length l.initial.starts) × (length l.widths ≡ length l.initial.widths)

abbrev pub decreases-loop-found : goal.decreases-loop-found
decreases-loop-found l = length l.pack - l.at
