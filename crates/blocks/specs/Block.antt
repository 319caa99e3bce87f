-- A block of sub-characters: document 01, "Join and drawing".
-- Assumes nothing.
use Rattle.std.specs.Prelude.{ℕ, zero, suc, ◌+◌, ◌*◌, List, [], ◌++◌, get_or}
use Rattle.ground.specs.Area.{values}
use Rattle.subchars.specs.declared.Direction.{Direction}
use Rattle.subchars.specs.declared.Direction.TheVariants.{LeftToRight, RightToLeft}
use Rattle.lanes.specs.declared.View.{View}
use Rattle.lanes.specs.Blocks.{Cells, cells_of}

-- A line so far, or a FIGcharacter: its width, and its sub-characters by row and column.
pub record Block : Type 0 where
  pub width : ℕ
  pub cells : Cells

-- "Blocks lie row after row."
abbrev pub exact_block : ℕ → List ℕ → Block
exact_block w s = record { width = w; cells = λ r k. get_or s (r * w + k) 0 }

-- What a view shows of a list, its rows at the given starts.
abbrev pub seen : List ℕ → List ℕ → View → Block
seen s starts v = record { width = v.len; cells = cells_of s starts v }

-- "Writing left to right the line is the left block, otherwise the character."
abbrev pub left_of : Direction → Block → Block → Block
left_of LeftToRight line character = line
left_of RightToLeft line character = character

abbrev pub right_of : Direction → Block → Block → Block
right_of LeftToRight line character = character
right_of RightToLeft line character = line

-- A block of h rows of width w, row after row.
unfoldable pub rows_of : Cells → ℕ → ℕ → List ℕ
rows_of f zero w = []
rows_of f (suc h) w = rows_of f h w ++ values (f h) w
