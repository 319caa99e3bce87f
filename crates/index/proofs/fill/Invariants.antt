-- `index::fill` meets its contract. The invariant: the entries so far are in the three lists, and what is left to read follows them. The measure is
-- the room that is left: a character is listed only where there is some.
use Prim.Native.Nat.{◌-◌}
use Rattle.ground.specs.Limits.{max_characters}
use Rattle.index.proofs.FillLaws.{CharactersHeld}
use Rattle.index.proofs.fill.Given as goal

abbrev pub invariant-loop-listed : goal.invariant-loop-listed
invariant-loop-listed l = CharactersHeld l.f l.s l.initial.cursor.at l.initial.codes l.initial.starts l.initial.widths l.codes l.starts l.widths l.cursor.at l.n

abbrev pub decreases-loop-listed : goal.decreases-loop-listed
decreases-loop-listed l = max_characters - l.n
