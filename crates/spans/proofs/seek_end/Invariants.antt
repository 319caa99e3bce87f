-- `spans::seek_end` meets its contract. The invariant: the area holds the text from b as far as it was drawn, where a word ended last is known, and what was
-- kept of the line stands in the output.
use mathlib.Core.Path.{◌≡◌}
use Prim.Native.Nat.{◌-◌, ◌≤◌}
use lib.ListN.{length, take}
use Rattle.ground.specs.Limits.{max_height}
use Rattle.spans.specs.Spans.{part, line_by}
use Rattle.spans.specs.Steps.{DrawsBy, KeptAs}
use Rattle.spans.proofs.DrawnLaws.{HeldTo}
use Rattle.spans.proofs.SearchLaws.{Scanned}
use Rattle.spans.proofs.seek_end.Given as goal

abbrev pub invariant-loop-i : goal.invariant-loop-i
invariant-loop-i l =
    (l.n ≤ l.drawer.limit) × (length l.area ≡ length l.initial.area) × (length l.found ≡ max_height) × Scanned l.text l.b l.i l.last ×
    (length l.out ≡ length l.initial.out) × (take l.at l.out ≡ take l.at l.initial.out) ×
    ((x : DrawsBy l.drawer l.font l.codes l.starts l.widths l.places l.stages l.firsts l.lasts l.news) →
    HeldTo l.drawer.mode l.drawer.height x.source x.held.commands x.held.count l.text l.b l.drawer.limit l.area l.n l.i ×
    KeptAs l.drawer.mode l.drawer.height (λ e. line_by l.drawer.mode l.drawer.height x.source x.held.commands x.held.count (part l.text l.b e)) l.b l.at l.kept l.out)

abbrev pub decreases-loop-i : goal.decreases-loop-i
decreases-loop-i l =
    l.stop - l.i
