-- `finding::find_in` meets its contract. The invariant: what is seen is what the look-up comes to among the first i entries.
use mathlib.Core.Path.{◌≡◌}
use lib.ListN.{take}
use Rattle.reader.specs.Reader.{looked_up}
use Rattle.finding.proofs.find_in.Given as goal

abbrev pub invariant-loop-i : goal.invariant-loop-i
invariant-loop-i l = l.seen ≡ looked_up l.code (take l.i l.index)
