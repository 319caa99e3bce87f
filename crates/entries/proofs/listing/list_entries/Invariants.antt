-- `entries::listing::list_entries` meets its contract. The loop's invariant: the first i entries stand in the array, before zeros.
use mathlib.Core.Path.{◌≡◌}
use mathlib.Core.List.{List}
use Prim.Native.Nat.{◌≤◌}
use lib.ListN.{length, replicate}
use Rattle.chars.specs.declared.Entry.{Entry}
use Rattle.index.specs.Index.{Lists}
use Rattle.entries.specs.Steps.{array_length}
use Rattle.entries.specs.Filling.{zero_entry}
use Rattle.entries.proofs.Moved.{moved}
use Rattle.entries.proofs.listing.list_entries.Given as goal

abbrev pub invariant-loop-i : goal.invariant-loop-i
invariant-loop-i l = (l.i ≤ l.count) × (length l.entries ≡ array_length) × ((es : List Entry) → l.count ≡ length es → Lists es l.codes l.starts l.widths → l.entries ≡ moved es (replicate array_length zero_entry) l.i)
