-- `entries::read_font` meets its contract. The invariant: the first i entries of what the index is to hold are moved to it.
use mathlib.Core.Path.{◌≡◌}
use mathlib.Core.List.{List}
use Prim.Native.Nat.{ℕ, ◌≤◌}
use lib.ListN.{length}
use Rattle.chars.specs.declared.Entry.{Entry}
use Rattle.entries.specs.Filling.{font_reading, index_of}
use Rattle.entries.proofs.Moved.{moved}
use Rattle.entries.proofs.read_font.Given as goal

-- what an index of so many entries is to hold
abbrev pub filled : List ℕ → ℕ → List Entry
filled font room = index_of (font_reading room font) room

abbrev pub invariant-loop-i : goal.invariant-loop-i
invariant-loop-i l = record { within : l.i ≤ length l.fn.index; moved_so_far : l.index ≡ moved (filled l.font (length l.fn.index)) l.fn.index l.i }
