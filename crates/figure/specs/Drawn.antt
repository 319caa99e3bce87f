-- A line while a FIGcharacter is joined to it: which of the two stands on the left, and what the area then holds.
-- Assumes nothing.
use Rattle.std.specs.Prelude.{ℕ, ◌≤◌, ◌≡◌, List}
use Rattle.subchars.specs.declared.Direction.{Direction}
use Rattle.subchars.specs.declared.Direction.TheVariants.{LeftToRight, RightToLeft}
use Rattle.lanes.specs.Blocks.{Agree}
use Rattle.blocks.specs.Block.{Block}
use Rattle.showing.specs.Scratch.{scratch_line}

-- Which of two stands on the left, the line's or the FIGcharacter's.
abbrev pub on_left : {A : Type 0} → Direction → A → A → A
on_left LeftToRight line character = line
on_left RightToLeft line character = character

-- The area holds a line w wide, or w is over the limit.
pub record HoldsLine (d : Direction) (h limit w : ℕ) (area : List ℕ) (line : Block) : Type 0 where
  pub width : w ≡ line.width
  pub cells : w ≤ limit → Agree h w (scratch_line d w area).cells line.cells
