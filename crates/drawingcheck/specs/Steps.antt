-- What is known of a list of overlaps with one code of a text more, and of the text that was drawn for a check.
-- Assumes nothing.
use Rattle.std.specs.Prelude.{◌≡◌, List, [], ◌∷◌, ◌++◌, ℕ, ◌+◌, ◌-◌, ◌≤◌}
use Rattle.ground.specs.Limits.{max_line_width, max_font_length}
use Rattle.subchars.specs.declared.Code.{Code}
use Rattle.subchars.specs.declared.Mode.{Mode}
use Rattle.source.specs.declared.Chosen.{Chosen}
use Rattle.source.specs.declared.Chosen.TheVariants.{Character, Nothing}
use Rattle.source.specs.Source.{Source}
use Rattle.drawing.specs.Drawing.{line_of, trace_of}
use Rattle.drawing.specs.Steps.{Reached}
use Rattle.checking.specs.Steps.{tallied}
use Rattle.drawingcheck.specs.declared.TextChecked.{TextChecked}

-- What was chosen makes a line of n columns one of w: it was joined at the overlap that both widths lack.
abbrev pub GrowsBy : Chosen → ℕ → ℕ → Type 0
GrowsBy (Character m own) n w = (w ≤ n + m) × (m ≤ max_font_length)
GrowsBy Nothing n w = Unit

abbrev pub with_chosen : Chosen → ℕ → ℕ → List ℕ → List ℕ
with_chosen (Character m own) n w trace = trace ++ ((n + m - w) ∷ [])
with_chosen Nothing n w trace = trace

-- A text was drawn: its line is in the scratch area, and if it is within 1,000 columns, its whole trace was compared with the list.
pub record CodesDrawn (y : Mode) (h : ℕ) (source : Source) (codes : List Code) (overlaps : List ℕ) (d : TextChecked) (area : List ℕ) : Type 0 where
  pub line : Reached y h max_line_width d.width area (line_of y h source codes)
  pub trace : d.width ≤ max_line_width → d.tally ≡ tallied overlaps (trace_of y h source codes).overlaps
