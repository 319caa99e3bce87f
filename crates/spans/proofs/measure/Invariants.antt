-- `spans::measure` meets its contract. The invariant: the bytes so far are not too wide, and the counts, with those of what is left, are the text's.
use mathlib.Core.Path.{◌≡◌}
use Prim.Native.Nat.{◌-◌}
use lib.ListN.{length}
use Rattle.ground.specs.Limits.{max_height}
use Rattle.drawing.proofs.TextLaws.{Counted}
use Rattle.spans.specs.Steps.{DrawsBy}
use Rattle.spans.proofs.MeasureLaws.{Passed}
use Rattle.spans.proofs.measure.Given as goal

abbrev pub invariant-loop-i : goal.invariant-loop-i
invariant-loop-i l =
    (length l.found ≡ max_height) × (length l.wide ≡ length l.initial.wide) ×
    ((x : DrawsBy l.drawer l.font l.codes l.starts l.widths l.places l.stages l.firsts l.lasts l.news) →
    Passed x.source x.held.commands x.held.count l.drawer.limit l.text l.i × Counted x.source x.held.commands x.held.count l.text l.missing l.i)

abbrev pub decreases-loop-i : goal.decreases-loop-i
decreases-loop-i l =
    length l.text - l.i
