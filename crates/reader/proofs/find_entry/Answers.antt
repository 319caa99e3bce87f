-- `reader::find_entry` meets its contract: what the lists hold at the place that look_up finds.
use mathlib.Core.Path.{◌∙◌}
use Rattle.reader.proofs.UseLaws.{found_within, found-used}
use Rattle.reader.proofs.find_entry.Goals as goal

pub entry_at-requires : goal.entry_at-requires
entry_at-requires c = record { character_room = c.requires; found_below = found_within c.args.code c.args.codes.now _ _ c.look_up-found.ensures c.requires.for_codes }

pub returns : goal.returns
returns c =
    let a = c.args in
    λ es m l. c.entry_at.ensures es m l ∙ found-used a.code a.codes.now a.count _ c.look_up-found.ensures a.starts.now a.widths.now es m l
