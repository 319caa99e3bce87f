-- "An empty text is a line of width 0": an empty upper text at full height puts Height empty rows above the lower line.
-- Assumes nothing.
use mathlib.Core.Path.{◌≡◌, refl, ap, ◌∙◌}
use mathlib.Core.List.{List, []}
use Prim.Native.Nat.{ℕ, ◌+◌, ◌-◌, ◌*◌, ◌≤◌, ◌<◌}
use native.Mathlib.Omega.{arith}
use lib.ListN.{get_or}
use borrow.Author.Tests.{lt-ltb, le-ltb}
use Rattle.subchars.specs.declared.VerticalLayout.{VerticalLayout}
use Rattle.subchars.specs.declared.VerticalLayout.TheVariants.{FullHeight}
use Rattle.subchars.specs.Hardblank.{blank, blanked}
use Rattle.blocks.specs.Block.{Block}
use Rattle.figure.specs.Line.{empty, line_from}
use Rattle.header.specs.declared.Header.{Header}
use Rattle.chars.specs.declared.Entry.{Entry}
use Rattle.flc.specs.declared.Command.{Command}
use Rattle.columns.specs.Stack.{Stack, upright, stack_overlap, stacked}
use Rattle.columns.proofs.Demand.{full_height_nothing, stack_cells, stack_width}
use Rattle.drawing.specs.Drawing.{codes_of, mapped_codes, characters_of, line_of, font_line}
use Rattle.twolines.specs.TwoLines.{vertical_of, draw_lines, lines_size, lines_output}
use Rattle.twolines.proofs.Answers.{FilesRead, LinesFit, line_by, stack_by}
use Rattle.twolines.proofs.Bytes.{output-byte}

-- "An empty text is a line of width 0."
pub empty-text : (s : List ℕ) (h : Header) (es : List Entry) (cs : List Command) (k : ℕ) → font_line s h es cs k [] ≡ empty
unfolding codes_of mapped_codes characters_of line_of line_from
empty-text s h es cs k = refl

-- It is above a line b, both n rows high, at full height:
module _ (layout : VerticalLayout) (full : layout ≡ FullHeight) (hardblank n : ℕ) (b : Block) where
  abbrev result : Stack
  result = stacked layout hardblank n empty n b

  overlap_0 : stack_overlap layout hardblank n empty n b ≡ 0
  overlap_0 = ap (λ (v : VerticalLayout). stack_overlap v hardblank n empty n b) full ∙ full_height_nothing hardblank n empty n b

  -- the first rows are blanks,
  pub blank-above : (r k : ℕ) → r < n → result.block.cells r k ≡ blank
  unfolding upright
  blank-above r k u = (stack_cells hardblank n empty n b layout).left_stays k r (omega (arith, overlap_0)) ∙ simp (le-ltb k 0 (omega arith))

  -- and the line stands under them, its hardblanks as blanks.
  pub line-below : (r k : ℕ) → k < b.width → result.block.cells (n + r) k ≡ blanked hardblank (b.cells r k)
  unfolding upright
  line-below r k u =
      let place : n + r - (n - stack_overlap layout hardblank n empty n b) ≡ r = omega (arith, overlap_0) in
      (stack_cells hardblank n empty n b layout).right_stays k (n + r) (omega arith) ∙ (ap (upright hardblank b k) place ∙ simp (lt-ltb k b.width u))

-- The output of an empty upper text.
module _ (size : ℕ) (s control lower : List ℕ) (room : ℕ) (x : FilesRead size s control [] lower room) (f : LinesFit size s control [] lower room x) (m : lines_size (stack_by size s control [] lower room x) ≤ room) (full : vertical_of x.header.full_layout ≡ FullHeight) where
  abbrev layout : VerticalLayout
  layout = vertical_of x.header.full_layout

  abbrev hardblank : ℕ
  hardblank = x.header.hardblank.0

  abbrev height : ℕ
  height = x.header.height

  abbrev line : Block
  line = line_by size s control [] lower room x lower

  abbrev both : Stack
  both = stack_by size s control [] lower room x

  abbrev output : List ℕ
  output = lines_output (draw_lines size s control [] lower) room

  under_empty : both ≡ stacked layout hardblank height empty height line
  under_empty = ap (λ (a : Block). stacked layout hardblank height a height line) (empty-text s x.header x.characters x.commands x.stages)

  twice_high : both.height ≡ height + height
  unfolding stacked
  twice_high = ap (λ (t : Stack). t.height) under_empty ∙ omega (arith, overlap_0 layout full hardblank height line)

  -- Height rows of blanks,
  pub rows_above : (r k : ℕ) → r < height → k < both.block.width → get_or output (r * (both.block.width + 1) + k) 0 ≡ blank
  rows_above r k u v =
      output-byte size s control [] lower room x f m r k (omega (arith, twice_high)) v
      ∙ (ap (λ (t : Stack). t.block.cells r k) under_empty ∙ blank-above layout full hardblank height line r k u)

  -- then the rows of the lower line.
  pub rows-below : (r k : ℕ) → r < height → k < line.width → get_or output ((height + r) * (both.block.width + 1) + k) 0 ≡ blanked hardblank (line.cells r k)
  rows-below r k u v =
      output-byte size s control [] lower room x f m (height + r) k (omega (arith, twice_high)) (omega (arith, v, stack_width hardblank height (line_by size s control [] lower room x []) height line layout))
      ∙ (ap (λ (t : Stack). t.block.cells (height + r) k) under_empty ∙ line-below layout full hardblank height line r k v)
