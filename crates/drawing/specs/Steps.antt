-- The line with one character more, and the line in the scratch area with what its text lacks.
-- Assumes nothing.
use Rattle.std.specs.Prelude.{◌≡◌, ℕ, ◌<◌, ◌≤◌, List, length}
use Rattle.subchars.specs.declared.Mode.{Mode}
use Rattle.blocks.specs.Block.{Block}
use Rattle.blocks.specs.Writing.{Like}
use Rattle.figure.specs.Line.{attached}
use Rattle.showing.specs.Scratch.{scratch_line}
use Rattle.subchars.specs.declared.Code.{Code}
use Rattle.source.specs.Source.{Choice, found, stood_in, nothing, Source}
use Rattle.source.specs.Counting.{is_missing, how_many}
use Rattle.drawing.specs.declared.DrawnText.{DrawnText}
use Rattle.drawing.specs.Drawing.{line_of}

-- The line with the character that a source has for one code more.
abbrev pub with_character : Mode → ℕ → Choice → Block → Block
with_character y h (found character) line = attached y h line character
with_character y h (stood_in character) line = attached y h line character
with_character y h nothing line = line

-- The scratch area holds a line that is w wide. Of one wider than the limit no more is known.
pub record Reached (y : Mode) (h limit w : ℕ) (area : List ℕ) (line : Block) : Type 0 where
  pub within : w ≤ limit → Like h (scratch_line y.direction w area) line
  pub beyond : limit < w → limit < line.width

-- A text was drawn: its line is in the scratch area, and those of its codes are counted that are not in the source, all of them if the line is within the limit.
pub record TextDrawn (y : Mode) (h limit : ℕ) (source : Source) (codes : List Code) (d : DrawnText) (area : List ℕ) : Type 0 where
  pub line : Reached y h limit d.width area (line_of y h source codes)
  pub few : d.missing ≤ length codes
  pub all : d.width ≤ limit → d.missing ≡ how_many is_missing source codes
