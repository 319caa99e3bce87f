-- The check of another program's drawing: document 02, Q-8. "Given font, control file, text, a FIGure, and that program's list of overlaps, accept exactly if each overlap is the
-- one of demand 3 and the bytes are the drawing."
-- Assumes nothing.
use Rattle.std.specs.Prelude.{cond, List, ℕ, ltb, Result, Err}
use Rattle.ground.specs.Limits.{min_scratch}
use Rattle.ground.specs.Refusals.{refusal, area_too_small}
use Rattle.ground.specs.declared.refusals.Refusal.{Refusal}
use Rattle.subchars.specs.declared.Code.{Code}
use Rattle.subchars.specs.declared.Mode.{Mode}
use Rattle.font.specs.Font as font
use Rattle.flc.specs.Control as flc
use Rattle.source.specs.Source.{Source, font_source}
use Rattle.drawing.specs.Drawing.{line_of, trace_of, TextReading, draws, refuses, read_text, mode_of}
use Rattle.checking.specs.declared.Verdict.{Verdict}
use Rattle.checking.specs.Verdict.{line_checked}

-- The line and the trace of the codes that a text draws, against what the other program gave: 16, 25, the first wrong overlap, else the first wrong byte.
abbrev pub codes_checked : Mode → ℕ → Source → List Code → List ℕ → List ℕ → Result Verdict Refusal
codes_checked y h source codes overlaps figure = line_checked y.hardblank.0 h (line_of y h source codes) (trace_of y h source codes).overlaps overlaps figure

-- "Refusals: the drawing's, first": the control file's, then 15, as in every drawing; before them the font's.
abbrev pub checked_read : Mode → ℕ → Source → TextReading → List ℕ → List ℕ → Result Verdict Refusal
checked_read y h source (draws codes) overlaps figure = codes_checked y h source codes overlaps figure
checked_read y h source (refuses r) overlaps figure = Err r

abbrev pub checked_from : Mode → ℕ → Source → flc.ControlReading → List ℕ → List ℕ → List ℕ → Result Verdict Refusal
checked_from y h source control text overlaps figure = checked_read y h source (read_text control text) overlaps figure

abbrev pub checked_by : List ℕ → font.FontReading → flc.ControlReading → List ℕ → List ℕ → List ℕ → Result Verdict Refusal
checked_by s (font.refuses r) control text overlaps figure = Err r
checked_by s (font.says h es) control text overlaps figure = checked_from (mode_of h) h.height (font_source s es) control text overlaps figure

unfoldable pub checked_of : List ℕ → List ℕ → List ℕ → List ℕ → List ℕ → Result Verdict Refusal
checked_of s control text overlaps figure = checked_by s (font.reading s) (flc.control control) text overlaps figure

-- As in every drawing, 9 for the scratch comes first.
unfoldable pub drawing_checked : ℕ → List ℕ → List ℕ → List ℕ → List ℕ → List ℕ → Result Verdict Refusal
drawing_checked scratch s control text overlaps figure = cond (ltb scratch min_scratch) (Err (refusal area_too_small 0)) (checked_of s control text overlaps figure)
