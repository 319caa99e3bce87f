-- `drawing::join_text` meets its contract. The invariant: the line in the area and what is counted, with what is left of the text, are those of the text.
use mathlib.Core.List.{List}
use mathlib.Core.Path.{◌≡◌}
use Prim.Native.Nat.{ℕ, ◌-◌, ◌≤◌}
use lib.ListN.{length}
use Rattle.ground.specs.Limits.{max_height}
use Rattle.mapping.specs.Passing.{ControlHeld}
use Rattle.source.specs.Source.{Source}
use Rattle.source.specs.Held.{Gives}
use Rattle.drawing.proofs.TextLaws.{Toward, Counted}
use Rattle.drawing.proofs.join_text.Given as goal

abbrev pub invariant-loop-i : goal.invariant-loop-i
invariant-loop-i l =
    (l.n ≤ l.limit) × (length l.area ≡ length l.initial.area) × (length l.found ≡ max_height) ×
    ((source : Source) (given : Gives source l.font l.second l.height l.origin l.codes l.starts l.widths l.places) (control : List ℕ) (held : ControlHeld control l.commands l.stages l.firsts l.lasts l.news) →
    Toward l.mode l.height source held.commands held.count l.text l.area l.n l.i × Counted source held.commands held.count l.text l.missing l.i)

abbrev pub decreases-loop-i : goal.decreases-loop-i
decreases-loop-i l =
    length l.text - l.i
