-- `drawingcheck::check_from` meets its contract.
use mathlib.Core.Path.{◌∙◌}
use native.Mathlib.Omega.{arith}
use Rattle.source.proofs.CharacterLaws.{given-high}
use Rattle.drawingcheck.proofs.CheckCases.{check_short, reached_checked}
use Rattle.drawingcheck.proofs.check_from.Goals as goal

pub check_line-requires : goal.check_line-requires
check_line-requires c = let p = c.requires in ((given-high _ _ _ _ _ _ _ _ _ p.gives.1).1, omega (arith, p.min_scratch_in_bounds))

pub returns : goal.returns
returns c =
    let a = c.args in
    let d = c.check_text-drawn in
    λ source g control held.
    let drawn = d.ensures source g control held in
    c.check_line.ensures _ drawn.trace ∙ reached_checked a.mode a.height source _ a.overlaps.now a.figure.now _ _ drawn.line ∙ check_short a.mode a.height source control a.text.now a.overlaps.now a.figure.now held.commands held.count held.said c.if-text-gt-MAX_TEXT.false
