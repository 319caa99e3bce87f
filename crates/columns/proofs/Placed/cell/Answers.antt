-- `columns::Placed::cell` meets its contract.
use mathlib.Core.Path.{◌∙◌, sym}
use Rattle.columns.specs.Placing.{placed_block}
use Rattle.columns.proofs.Columns.{cell_inside, cell_beyond}
use Rattle.columns.proofs.Placed.cell.Goals as goal

pub returns-then-c-self : goal.returns-then-c-self
returns-then-c-self c =
    let a = c.args in
    c.blanked.ensures ∙ sym (cell_inside a.hardblank.0 (placed_block a.self) a.c a.r c.if-c-self.true)

pub returns : goal.returns
returns c =
    let a = c.args in
    sym (cell_beyond a.hardblank.0 (placed_block a.self) a.c a.r c.if-c-self.false)
