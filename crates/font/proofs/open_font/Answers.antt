-- `font::open_font` meets its contract.
use mathlib.Core.Path.{ap, ◌∙◌}
use Rattle.std.specs.Prelude.{Err}
use Rattle.font.proofs.OpenLaws.{open_long, open_short}
use Rattle.font.proofs.open_font.Goals as goal

pub returns-then-font-gt-MAX_FONT_LENGTH : goal.returns-then-font-gt-MAX_FONT_LENGTH
returns-then-font-gt-MAX_FONT_LENGTH c = ap Err c.of.ensures ∙ open_long _ c.if-font-gt-MAX_FONT_LENGTH.true

pub returns : goal.returns
returns c = open_short _ _ c.if-font-gt-MAX_FONT_LENGTH.false c.first_line.ensures
