-- `drawingcheck::check_files` meets its contract.
use mathlib.Core.Path.{ap, ◌∙◌}
use Rattle.subchars.specs.declared.Mode.{Mode}
use Rattle.flc.specs.Control as flc
use Rattle.source.specs.Source.{font_source}
use Rattle.source.proofs.CharacterLaws.{font_gives}
use Rattle.bothfiles.proofs.HeldLaws.{held_as}
use Rattle.drawingcheck.specs.CheckDrawing.{checked_from}
use Rattle.drawingcheck.proofs.CheckCases.{files_said, files_refused}
use Rattle.drawingcheck.proofs.check_files.Goals as goal

pub check_from-requires : goal.check_from-requires
check_from-requires c =
    let p = c.requires in
    let h = held_as _ _ _ _ _ _ _ _ _ _ _ _ c.in-Read.is p.by_index.1 in
    record { gives = (_, font_gives _ _ _ _ _ _ _ _ h.0); by_index = (p.by_index.0, h.1); min_scratch_in_bounds = p.min_scratch_in_bounds }

pub returns-in-Read : goal.returns-in-Read
returns-in-Read c =
    let a = c.args in
    let d = c.check_from in
    λ control held.
    let h = held_as _ control _ _ _ _ _ _ _ _ _ _ c.in-Read.is held in
    let y = c.in-Read.header in
    d.ensures _ (font_gives _ _ _ _ _ _ _ _ h.0) control h.1 ∙ ap (λ (m : Mode). checked_from m y.height (font_source a.font.now h.0.characters) (flc.control control) a.text.now a.overlaps.now a.figure.now) c.mode_of.ensures ∙ files_said a.font.now control a.text.now a.overlaps.now a.figure.now y h.0.characters h.0.said

pub returns-in-Refused : goal.returns-in-Refused
returns-in-Refused c =
    let a = c.args in
    λ control held.
    let h = held_as _ control _ _ _ _ _ _ _ _ _ _ c.in-Refused.is held in
    files_refused a.font.now control a.text.now a.overlaps.now a.figure.now _ h
