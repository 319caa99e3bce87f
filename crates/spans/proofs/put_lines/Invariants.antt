-- `spans::put_lines` meets its contract. The invariant: the lines before p are put, and those from p on are still to come.
use mathlib.Core.Path.{◌≡◌}
use Prim.Native.Nat.{◌-◌, ◌≤◌}
use lib.ListN.{length}
use Rattle.spans.specs.Spans.{line_by, wide_in}
use Rattle.breaks.specs.Steps.{NoneWider}
use Rattle.spans.specs.Steps.{DrawsBy}
use Rattle.spans.proofs.PuttingLaws.{PutTo}
use Rattle.spans.proofs.put_lines.Given as goal

abbrev pub invariant-loop-p : goal.invariant-loop-p
invariant-loop-p l =
    (length l.line_firsts ≡ length l.initial.line_firsts) × (length l.line_ends ≡ length l.initial.line_ends) × (length l.out ≡ length l.initial.out) × (length l.area ≡ length l.initial.area) ×
    (l.bytes ≤ length l.out) × (l.p ≤ length l.text) × (l.lines ≤ l.p) ×
    ((x : DrawsBy l.drawer l.font l.codes l.starts l.widths l.places l.stages l.firsts l.lasts l.news) → NoneWider (wide_in (line_by l.drawer.mode l.drawer.height x.source x.held.commands x.held.count) l.text) l.drawer.limit l.text →
    PutTo l.drawer.mode.hardblank.0 l.drawer.height (line_by l.drawer.mode l.drawer.height x.source x.held.commands x.held.count) l.text l.drawer.limit l.p l.lines l.bytes l.line_firsts l.line_ends l.out)

abbrev pub decreases-loop-p : goal.decreases-loop-p
decreases-loop-p l =
    l.stop - l.p
