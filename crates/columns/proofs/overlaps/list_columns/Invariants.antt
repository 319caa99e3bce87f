-- `columns::overlaps::list_columns` meets its contract. The invariant: the columns passed start one after another.
use mathlib.Core.Path.{◌≡◌}
use Prim.Native.Nat.{ℕ, ◌<◌, ◌*◌}
use lib.ListN.{length, get_or}
use Rattle.columns.proofs.overlaps.list_columns.Given as goal

abbrev pub invariant-loop-c : goal.invariant-loop-c
invariant-loop-c l = (length l.starts ≡ length l.initial.starts) × ((i : ℕ) → i < l.c → get_or l.starts i 0 ≡ i * 1)
