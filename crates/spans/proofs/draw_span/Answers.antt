-- `spans::draw_span` meets its contract.
use Rattle.spans.proofs.draw_span.Goals as goal

pub returns : goal.returns
returns c = record { out_unchanged = c.seek_end-sought.ensures.out_unchanged; span_drawn = λ x o. c.finish_span.ensures.by_index x o c.args.at c.seek_end-sought.new.out (c.seek_end-sought.ensures.sought_from x o) }
