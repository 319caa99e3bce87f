-- `wrapping::wrap_lines` meets its contract.
use mathlib.Core.Path.{sym}
use lib.ListN.{length}
use Rattle.breaks.specs.Breaking.{spans_of}
use Rattle.spans.specs.Spans.{line_by, wide_in, drawings}
use Rattle.wrapping.proofs.OrderLaws.{put_room}
use Rattle.wrapping.proofs.wrap_lines.Goals as goal

pub finish_lines-requires : goal.finish_lines-requires
finish_lines-requires c =
    let a = c.args in
    let x = c.requires.none_wider.0 in
    let put = c.put_lines-put in
    let y = a.drawer.mode in
    let h = a.drawer.height in
    let line = line_by y h x.source x.held.commands x.held.count in
    let spans = spans_of (wide_in line a.text.now) a.drawer.limit a.text.now in
    let drawn = drawings y.hardblank.0 h line a.text.now in
    (spans, drawn, put_room spans drawn (length a.out.now) put.new.line_firsts put.new.line_ends put.new.out put.result (length put.new.out) (sym put.auto.out) (put.ensures x c.requires.none_wider.1))
