-- `twolines::draw_texts` meets its contract.
use mathlib.Core.Path.{sym, ◌∙◌, ap, ap₂}
use native.Mathlib.Omega.{arith}
use Rattle.subchars.specs.declared.Mode.{Mode}
use Rattle.subchars.specs.declared.VerticalLayout.{VerticalLayout}
use Rattle.source.specs.Source.{font_source}
use Rattle.source.proofs.CharacterLaws.{given-high, font_gives}
use Rattle.drawing.specs.Drawing.{text_codes, lined_text}
use Rattle.drawing.proofs.DrawingLaws.{as_many}
use Rattle.twolines.specs.TwoLines.{no_lines, closed_up}
use Rattle.twolines.proofs.LinesLaws.{lines_as, upper_long, lower_long, both_lined}
use Rattle.twolines.proofs.draw_texts.Goals.{then-upper-gt-MAX_TEXT-via-then-upper-gt-MAX_TEXT, then-upper-gt-MAX_TEXT-via-else-upper-gt-MAX_TEXT+then-lower-gt-MAX_TEXT}
use Rattle.twolines.proofs.draw_texts.Goals as goal

pub returns-then-upper-gt-MAX_TEXT : goal.returns-then-upper-gt-MAX_TEXT
returns-then-upper-gt-MAX_TEXT c =
    let a = c.args in
    let f = c.requires.font_held in
    let said = ap no_lines (sym c.of.ensures) in
    elim c.then-upper-gt-MAX_TEXT.branch [
      | then-upper-gt-MAX_TEXT-via-then-upper-gt-MAX_TEXT w ↦ λ control held.
          lines_as _ _ _ _ _ (upper_long a.font.now control a.upper.now a.lower.now a.header f.characters held.commands held.count f.said held.said w.if-upper-gt-MAX_TEXT.true ∙ said) c.refuse.ensures
      | then-upper-gt-MAX_TEXT-via-else-upper-gt-MAX_TEXT+then-lower-gt-MAX_TEXT w ↦ λ control held.
          lines_as _ _ _ _ _ (lower_long a.font.now control a.upper.now a.lower.now a.header f.characters held.commands held.count f.said held.said w.if-upper-gt-MAX_TEXT.false w.if-lower-gt-MAX_TEXT.true ∙ said) c.refuse.ensures
    ]

pub join_both-drawn-requires : goal.join_both-drawn-requires
join_both-drawn-requires c =
    let p = c.requires in
    record { gives = (font_source c.args.font.now p.font_held.characters, font_gives _ _ _ _ _ _ _ _ p.font_held); by_index = p.by_index; min_stacked_scratch_in_bounds = p.min_stacked_scratch_in_bounds }

pub count_both-counts-requires : goal.count_both-counts-requires
count_both-counts-requires c =
    let a = c.args in
    let f = c.requires.font_held in
    let given = font_gives c.args.font.now c.args.font.now _ _ _ _ _ _ f in
    let held = c.requires.by_index.1 in
    let drawn = c.join_both-drawn.ensures (font_source a.font.now f.characters) given c.requires.by_index.0 held in record { gives = (font_source a.font.now f.characters, given); missing_le_max_text = (omega (arith, drawn.first.few, as_many held.commands held.count a.upper.now, c.if-upper-gt-MAX_TEXT.false), omega (arith, drawn.second.few, as_many held.commands held.count a.lower.now, c.if-lower-gt-MAX_TEXT.false)) }

pub put_lines-requires : goal.put_lines-requires
put_lines-requires c =
    let f = c.requires.font_held in
    let high = given-high (font_source c.args.font.now f.characters) _ _ _ _ _ _ _ _ (font_gives c.args.font.now c.args.font.now _ _ _ _ _ _ f) in
    (high.0, high.1, omega (arith, c.requires.min_stacked_scratch_in_bounds))

pub returns : goal.returns
returns c =
    let a = c.args in
    let f = c.requires.font_held in
    let h = a.header.height in
    λ control held.
    let source = font_source a.font.now f.characters in
    let given = font_gives c.args.font.now c.args.font.now _ _ _ _ _ _ f in
    let us = text_codes held.commands held.count a.upper.now in
    let ls = text_codes held.commands held.count a.lower.now in
    let drawn = c.join_both-drawn.ensures source given control held in
    lines_as _ _ _ _ _
    (both_lined a.font.now control a.upper.now a.lower.now a.header f.characters held.commands held.count f.said held.said c.if-upper-gt-MAX_TEXT.false c.if-lower-gt-MAX_TEXT.false
    ∙ sym (ap₂ (λ (v : VerticalLayout) (y : Mode). closed_up v (lined_text y h source us) (lined_text y h source ls)) c.vertical_of.ensures c.mode_of-mode.ensures))
    (c.put_lines.ensures source us ls drawn (c.count_both-counts.ensures source given _ us ls _ drawn))
