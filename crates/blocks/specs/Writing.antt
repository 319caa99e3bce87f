-- Values stored from a place on; the starts of rows that lie one after another; blocks that are alike.
-- Assumes nothing.
use Rattle.std.specs.Prelude.{◌≡◌, ℕ, ◌+◌, ◌*◌, ◌<◌, ◌≤◌, List, length, get_or}
use Rattle.lanes.specs.Blocks.{Agree}
use Rattle.blocks.specs.Block.{Block}

-- The elements of a list from a place on.
abbrev pub from_on : List ℕ → ℕ → ℕ → ℕ
from_on s from k = get_or s (from + k) 0

-- The values f at w places from `at`, all else as it was.
pub record Stored (f : ℕ → ℕ) (at w : ℕ) (old new : List ℕ) : Type 0 where
  pub size : length new ≡ length old
  pub inside : (j : ℕ) → j < w → get_or new (at + j) 0 ≡ f j
  pub below : (i : ℕ) → i < at → get_or new i 0 ≡ get_or old i 0
  pub above : (i : ℕ) → at + w ≤ i → get_or new i 0 ≡ get_or old i 0

-- The first h rows of width w start one after another.
pub record RowAfterRow (w h : ℕ) (starts : List ℕ) : Type 0 where
  pub many : h ≤ length starts
  pub at : (r : ℕ) → r < h → get_or starts r 0 ≡ r * w

-- Two blocks have the same width, and the same sub-characters in h rows.
pub record Like (h : ℕ) (a b : Block) : Type 0 where
  pub width : a.width ≡ b.width
  pub cells : Agree h a.width a.cells b.cells
