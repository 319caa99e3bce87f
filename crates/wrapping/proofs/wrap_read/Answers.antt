-- `wrapping::wrap_read` meets its contract.
use mathlib.Core.Path.{sym, ap, ◌∙◌}
use Rattle.subchars.specs.declared.Mode.{Mode}
use Rattle.source.specs.Source.{font_source}
use Rattle.source.proofs.CharacterLaws.{font_gives}
use Rattle.drawing.specs.Drawing.{mode_of}
use Rattle.wrapping.specs.Wrapping.{unwrapped, wrap_text}
use Rattle.wrapping.proofs.OrderLaws.{out_as, limit_good, read-wrapped, tested_long, tested_limit, tested_text}
use Rattle.wrapping.proofs.wrap_read.Goals as goal

pub returns-then-text-gt-MAX_TEXT : goal.returns-then-text-gt-MAX_TEXT
returns-then-text-gt-MAX_TEXT c =
    let a = c.args in
    let f = c.requires.font_held in
    λ control held.
    out_as _ _ _ _ _ _ _ _ _ (read-wrapped a.font.now control a.limit a.text.now a.header f.characters held.commands held.count f.said held.said ∙ tested_long (mode_of a.header) a.header.height (font_source a.font.now f.characters) held.commands held.count a.limit a.text.now c.if-text-gt-MAX_TEXT.true ∙ ap unwrapped (sym c.of.ensures)) c.refuse.ensures

pub returns-then-bad_limit : goal.returns-then-bad_limit
returns-then-bad_limit c =
    let a = c.args in
    let f = c.requires.font_held in
    λ control held.
    out_as _ _ _ _ _ _ _ _ _ (read-wrapped a.font.now control a.limit a.text.now a.header f.characters held.commands held.count f.said held.said ∙ tested_limit (mode_of a.header) a.header.height (font_source a.font.now f.characters) held.commands held.count a.limit a.text.now c.if-text-gt-MAX_TEXT.false (sym c.bad_limit.ensures ∙ c.if-bad_limit.true) ∙ ap unwrapped (sym c.of-then-bad_limit.ensures)) c.refuse-then-bad_limit.ensures

pub wrap_text-requires : goal.wrap_text-requires
wrap_text-requires c =
    let a = c.args in
    let p = c.requires in record { draws_by = record { source = font_source a.font.now p.font_held.characters; given = font_gives _ _ _ _ _ _ _ _ p.font_held; control = p.by_index.0; held = p.by_index.1 }; limit_le_max_line_width = (limit_good a.limit (sym c.bad_limit.ensures ∙ c.if-bad_limit.false), p.min_scratch_in_bounds, c.if-text-gt-MAX_TEXT.false); min_lines_in_bounds = p.min_lines_in_bounds }

pub returns : goal.returns
returns c =
    let a = c.args in
    let f = c.requires.font_held in
    λ control held.
    out_as _ _ _ _ _ _ _ _ _
    (read-wrapped a.font.now control a.limit a.text.now a.header f.characters held.commands held.count f.said held.said ∙ tested_text (mode_of a.header) a.header.height (font_source a.font.now f.characters) held.commands held.count a.limit a.text.now c.if-text-gt-MAX_TEXT.false (sym c.bad_limit.ensures ∙ c.if-bad_limit.false)
    ∙ ap (λ (y : Mode). wrap_text y a.header.height (font_source a.font.now f.characters) held.commands held.count a.limit a.text.now) (sym c.mode_of-mode.ensures))
    (c.wrap_text.ensures (record { source = font_source a.font.now f.characters; given = font_gives _ _ _ _ _ _ _ _ f; control = control; held = held }))
