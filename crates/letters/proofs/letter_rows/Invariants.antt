-- `letters::letter_rows` meets its contract. The invariant: the rows passed start one after another.
use mathlib.Core.Path.{◌≡◌}
use Prim.Native.Nat.{ℕ, ◌+◌, ◌*◌, ◌<◌}
use lib.ListN.{length, get_or}
use Rattle.letters.proofs.letter_rows.Given as goal

abbrev pub invariant-loop-r : goal.invariant-loop-r
invariant-loop-r l = (length l.rows ≡ length l.initial.rows) × ((i : ℕ) → i < l.r → get_or l.rows i 0 ≡ l.place + i * l.width)
