-- `console::printing::print_line` is safe: where a line is drawn, its rows lie in the output.
use Rattle.console.proofs.RowLaws.{rows_answered}
use Rattle.console.proofs.printing.print_line.Goals as goal

pub print_rows-requires : goal.print_rows-requires
print_rows-requires g c =
    let a = c.args in
    let held = c.requires.by_index in
    rows_answered a.font.now held.0 a.text.now a.codes.now a.starts.now a.widths.now a.places.now a.stages.now a.firsts.now a.lasts.now a.news.now _ _ _ _ a.files held.1 c.draw_line.result _ c.in-Drawn.is (c.draw_line.ensures held.0 held.1) c.draw_line.auto.out
