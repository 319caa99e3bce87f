-- `source::find_rows` meets its contract. The invariant: the rows up to the last one found start where they stand in the font, and `at` is
use mathlib.Core.Path.{◌≡◌}
use Prim.Native.Nat.{ℕ, ◌+◌, ◌-◌, ◌<◌}
use lib.ListN.{length, get_or}
use Rattle.lines.specs.Lines.{after}
use Rattle.source.proofs.find_rows.Given as goal

-- where that one does.
abbrev pub invariant-loop-last : goal.invariant-loop-last
invariant-loop-last l = (l.last < l.h) × (l.at ≡ after l.last l.font l.start) × (length l.rows ≡ length l.initial.rows) × ((i : ℕ) → i < l.last + 1 → get_or l.rows i 0 ≡ after i l.font l.start)

abbrev pub decreases-loop-last : goal.decreases-loop-last
decreases-loop-last l = l.h - l.last
