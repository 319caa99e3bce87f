-- `index::latest::find_latest` meets its contract. The invariant: the list holds the last places among the first i codes.
use lib.ListN.{take}
use Rattle.index.specs.Latest.{Latest}
use Rattle.index.proofs.latest.find_latest.Given as goal

abbrev pub invariant-loop-i : goal.invariant-loop-i
invariant-loop-i l = Latest (take l.i l.codes) l.latest
