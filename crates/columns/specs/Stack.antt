-- Two blocks one above the other: document 02, Q-1. A lane is a column, and a position in it a row.
-- Assumes nothing.
use Rattle.std.specs.Prelude.{ℕ, ◌+◌, ◌-◌, max, cond, ltb}
use Rattle.subchars.specs.declared.VerticalSmushing.TheVariants.{Universal, Controlled}
use Rattle.subchars.specs.declared.VerticalLayout.{VerticalLayout}
use Rattle.subchars.specs.declared.VerticalLayout.TheVariants.{FullHeight, Fitting, Smushing}
use Rattle.subchars.specs.Hardblank.{blank, blanked}
use Rattle.lanes.specs.Blocks.{Cells}
use Rattle.lanes.specs.Overlap.{furthest, fitting, smushing}
use Rattle.lanes.specs.Joined.{joined_cells}
use Rattle.blocks.specs.Block.{Block}
use Rattle.vertical.specs.VerticalPair.{VerticalLine, set_has, merges, merged_byte, barred, other_rules}

-- "Hardblanks are first made blanks, the narrower block is filled with blanks on the right": column c, row r of a block.
unfoldable pub upright : ℕ → Block → Cells
upright hardblank a c r = cond (ltb c a.width) (blanked hardblank (a.cells r c)) blank

-- "With supersmushing, take the largest overlap, at most the smaller height, that together with all smaller ones faces only pairs with a blank or of two
-- bars; if it exceeds the fitting overlap it is the answer, else the other rules are tried one row further": of w columns, n rows high in the
-- upper block and m in the lower.
unfoldable pub supersmushing : ℕ → ℕ → ℕ → ℕ → Cells → Cells → ℕ
supersmushing set w n m a b =
    let far = furthest barred w n m a b in
    cond (ltb (fitting w n m a b) far) far (smushing (merges (Smushing (Controlled (other_rules set)))) w n m a b)

-- "Vertical full height .., fitting and smushing .., universal or with the five rules."
unfoldable pub columns_overlap : VerticalLayout → ℕ → ℕ → ℕ → Cells → Cells → ℕ
columns_overlap FullHeight w n m a b = 0
columns_overlap Fitting w n m a b = fitting w n m a b
columns_overlap (Smushing Universal) w n m a b = smushing (merges (Smushing Universal)) w n m a b
columns_overlap (Smushing (Controlled set)) w n m a b =
    cond (set_has set VerticalLine) (supersmushing set w n m a b) (smushing (merges (Smushing (Controlled set))) w n m a b)

-- The width of both: that of the wider one.
abbrev pub wider : Block → Block → ℕ
wider a b = max a.width b.width

-- The overlap of a, n rows high, above b, m rows high.
unfoldable pub stack_overlap : VerticalLayout → ℕ → ℕ → Block → ℕ → Block → ℕ
stack_overlap layout hardblank n a m b = columns_overlap layout (wider a b) n m (upright hardblank a) (upright hardblank b)

-- Row r, column c of both at overlap o: each column joined as a lane.
unfoldable pub stacked_at : VerticalLayout → ℕ → ℕ → ℕ → Block → Block → Cells
stacked_at layout hardblank n o a b r c = joined_cells (merged_byte layout) n o (upright hardblank a) (upright hardblank b) c r

-- "Site name above, device name below, closed up as the font says."
pub record Stack : Type 0 where
  pub overlap : ℕ
  pub height : ℕ
  pub block : Block

unfoldable pub stacked : VerticalLayout → ℕ → ℕ → Block → ℕ → Block → Stack
stacked layout hardblank n a m b =
    let o = stack_overlap layout hardblank n a m b in
    record { overlap = o; height = n + m - o; block = record { width = wider a b; cells = stacked_at layout hardblank n o a b } }
