-- `twofonts::read_both` meets its contract.
use mathlib.Core.Path.{sym, subst}
use native.Mathlib.Omega.{arith}
use lib.Seq.{length-take-le}
use Rattle.ground.specs.Limits.{max_characters}
use Rattle.ground.proofs.Halves.{first_half, second_half, same-long}
use Rattle.index.specs.Latest.{small_codes}
use Rattle.twofonts.specs.declared.BothRead.{BothRead}
use Rattle.twofonts.specs.Held.{BothHeld}
use Rattle.twofonts.proofs.FontsLaws.{filled, both_held}
use Rattle.twofonts.proofs.read_both.Goals as goal

pub slice_bounds-read_font-end-2 : goal.slice_bounds-read_font-end-2
slice_bounds-read_font-end-2 c = sym (length-take-le max_characters c.args.codes.now (omega (arith, c.requires.character_room.for_codes)))

pub slice_bounds-read_font-end-4 : goal.slice_bounds-read_font-end-4
slice_bounds-read_font-end-4 c = sym (length-take-le max_characters c.args.starts.now (omega (arith, c.requires.character_room.for_starts)))

pub slice_bounds-read_font-end-6 : goal.slice_bounds-read_font-end-6
slice_bounds-read_font-end-6 c = sym (length-take-le max_characters c.args.widths.now (omega (arith, c.requires.character_room.for_widths)))

pub slice_bounds-read_font-end-8 : goal.slice_bounds-read_font-end-8
slice_bounds-read_font-end-8 c = sym (length-take-le small_codes c.args.places.now (omega (arith, c.requires.places_len)))

pub read_font-a-requires : goal.read_font-a-requires
read_font-a-requires c =
    let a = c.args in
    let p = c.requires in
    record { character_room = record { for_codes = omega (arith, length-take-le max_characters a.codes.now (omega (arith, p.character_room.for_codes))); for_starts = omega (arith, length-take-le max_characters a.starts.now (omega (arith, p.character_room.for_starts))); for_widths = omega (arith, length-take-le max_characters a.widths.now (omega (arith, p.character_room.for_widths))) }; places_len = length-take-le small_codes a.places.now (omega (arith, p.places_len)) }

pub returns : goal.returns
returns c =
    let a = c.args in
    let p = c.requires in
    let one = c.read_font-a in
    let two = c.read_font-b in
    subst (λ (r : BothRead). BothHeld a.first.now a.second.now r (filled max_characters a.codes.now one.new.codes two.new.codes) (filled max_characters a.starts.now one.new.starts two.new.starts) (filled max_characters a.widths.now one.new.widths two.new.widths) (filled small_codes a.places.now one.new.places two.new.places)) (sym c.both_of.ensures)
    (both_held a.first.now a.second.now (filled max_characters a.codes.now one.new.codes two.new.codes) (filled max_characters a.starts.now one.new.starts two.new.starts) (filled max_characters a.widths.now one.new.widths two.new.widths) (filled small_codes a.places.now one.new.places two.new.places) (record { for_codes = omega (arith, p.character_room.for_codes, same-long max_characters a.codes.now one.new.codes two.new.codes (omega (arith, p.character_room.for_codes)) one.auto.codes two.auto.codes); for_starts = omega (arith, p.character_room.for_starts, same-long max_characters a.starts.now one.new.starts two.new.starts (omega (arith, p.character_room.for_starts)) one.auto.starts two.auto.starts); for_widths = omega (arith, p.character_room.for_widths, same-long max_characters a.widths.now one.new.widths two.new.widths (omega (arith, p.character_room.for_widths)) one.auto.widths two.auto.widths) }) one.result two.result
    (rw (first_half max_characters a.codes.now one.new.codes two.new.codes (omega (arith, p.character_room.for_codes)) one.auto.codes two.auto.codes, first_half max_characters a.starts.now one.new.starts two.new.starts (omega (arith, p.character_room.for_starts)) one.auto.starts two.auto.starts, first_half max_characters a.widths.now one.new.widths two.new.widths (omega (arith, p.character_room.for_widths)) one.auto.widths two.auto.widths, first_half small_codes a.places.now one.new.places two.new.places (omega (arith, p.places_len)) one.auto.places two.auto.places) one.ensures)
    (rw (second_half max_characters a.codes.now one.new.codes two.new.codes (omega (arith, p.character_room.for_codes)) one.auto.codes two.auto.codes, second_half max_characters a.starts.now one.new.starts two.new.starts (omega (arith, p.character_room.for_starts)) one.auto.starts two.auto.starts, second_half max_characters a.widths.now one.new.widths two.new.widths (omega (arith, p.character_room.for_widths)) one.auto.widths two.auto.widths, second_half small_codes a.places.now one.new.places two.new.places (omega (arith, p.places_len)) one.auto.places two.auto.places) two.ensures))
