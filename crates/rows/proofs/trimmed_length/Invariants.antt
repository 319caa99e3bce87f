-- `rows::trimmed_length` meets its contract: a byte above 32 at the end is neither blank nor tab. The invariant: from n on all bytes are blanks and tabs.
use mathlib.Core.Path.{◌≡◌}
use mathlib.Core.Bool.{true}
use Prim.Native.Nat.{◌≤◌}
use lib.ListN.{length, drop}
use Rattle.ground.specs.Runs.{all}
use Rattle.lines.specs.Words.{is_blank}
use Rattle.rows.proofs.trimmed_length.Given as goal

abbrev pub invariant-loop-n : goal.invariant-loop-n
invariant-loop-n l = (l.n ≤ length l.t) × (all is_blank (drop l.n l.t) ≡ true)

abbrev pub decreases-loop-n : goal.decreases-loop-n
decreases-loop-n l = l.n
