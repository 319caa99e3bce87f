-- `checking::with_overlap` meets its contract: the first character has no overlap to compare.
use mathlib.Core.Path.{sym, ◌∙◌, ap}
use Rattle.checking.specs.declared.Tally.{Tally}
use Rattle.checking.proofs.TallyLaws.{first-tallied}
use Rattle.checking.proofs.with_overlap.Goals as goal

pub returns-then-drawn-eq0 : goal.returns-then-drawn-eq0
returns-then-drawn-eq0 c = λ trace e.
    let a = c.args in
    first-tallied a.overlaps.now a.overlap trace (sym (ap (λ (t : Tally). t.drawn) e) ∙ c.if-drawn-eq0.true)
