-- `stack::writing::Overlaid::cell` meets its contract.
use mathlib.Core.Path.{◌∙◌, sym, ap₂}
use Rattle.vertical.specs.VerticalPair.{merged_byte}
use Rattle.columns.specs.Placing.{placed_block}
use Rattle.columns.proofs.Cells.{upper_cell, merged_cell, lower_cell}
use Rattle.stack.proofs.writing.Overlaid.cell.Goals as goal

pub returns-then-r-cut : goal.returns-then-r-cut
returns-then-r-cut c =
    let b = c.args.self.now in
    c.cell.ensures ∙ sym (upper_cell b.layout b.hardblank.0 b.upper.height b.overlap (placed_block b.upper) (placed_block b.lower) c.args.r c.args.c c.if-r-cut.true)

pub returns-then-r-self : goal.returns-then-r-self
returns-then-r-self c =
    let b = c.args.self.now in
    c.merged_byte.ensures
    ∙ (ap₂ (merged_byte b.layout) c.cell-x.ensures c.cell-y.ensures
    ∙ sym (merged_cell b.layout b.hardblank.0 b.upper.height b.overlap (placed_block b.upper) (placed_block b.lower) c.args.r c.args.c c.if-r-cut.false c.if-r-self.true))

pub returns : goal.returns
returns c =
    let b = c.args.self.now in
    c.cell-y.ensures ∙ sym (lower_cell b.layout b.hardblank.0 b.upper.height b.overlap (placed_block b.upper) (placed_block b.lower) c.args.r c.args.c c.if-r-cut.false c.if-r-self.false)
