-- What two texts come to: by the files that were read, and by the size of the scratch.
-- Assumes nothing.
use mathlib.Core.Path.{◌≡◌, sym, ◌∙◌, ap, ap₂, subst}
use mathlib.Core.Bool.{Bool, true, false, cond}
use mathlib.Core.List.{List}
use Prim.Native.Nat.{ℕ, ◌≤◌, ◌<◌}
use lib.Dec.{ltb}
use lib.ListN.{length}
use borrow.Author.Tests.{lt-ltb, le-ltb}
use Rattle.ground.specs.Limits.{max_text, min_stacked_scratch}
use Rattle.ground.specs.Refusals.{refusal, area_too_small, text_too_long}
use Rattle.ground.specs.declared.refusals.Refusal.{Refusal}
use Rattle.subchars.specs.declared.VerticalLayout.{VerticalLayout}
use Rattle.header.specs.declared.Header.{Header}
use Rattle.chars.specs.declared.Entry.{Entry}
use Rattle.font.specs.Font as font
use Rattle.flc.specs.declared.Command.{Command}
use Rattle.flc.specs.Control as flc
use Rattle.drawing.specs.Drawing.{text_codes, mode_of, Lined, lined_text, unlined, lined_of}
use Rattle.source.specs.Source.{font_source}
use Rattle.drawing.proofs.OutputLaws.{text-long, text-lined}
use Rattle.twolines.specs.declared.LinesAnswer.{LinesAnswer}
use Rattle.twolines.specs.TwoLines.{vertical_of, font_vertical, TwoLines, no_lines, closed_up, lines_of, draw_lines, LinesOut}

-- what is known of lines is known of all that they are
pub lines_as : (t u : TwoLines) (room : ℕ) (r : LinesAnswer) (out : List ℕ) → t ≡ u → LinesOut u room r out → LinesOut t room r out
lines_as t u room r out e p = subst (λ (x : TwoLines). LinesOut x room r out) (sym e) p

module _ (s control upper lower : List ℕ) where
  abbrev vertical : VerticalLayout
  vertical = font_vertical (font.reading s)

  -- a refusal of the upper text, then of the lower one
  pub upper_refused : (r : Refusal) → lined_of s control upper ≡ unlined r → lines_of s control upper lower ≡ no_lines r
  unfolding lines_of
  upper_refused r e = ap (λ (x : Lined). closed_up vertical x (lined_of s control lower)) e

  -- by a font and a control file that are read
  module _ (h : Header) (es : List Entry) (cs : List Command) (k : ℕ) (font-said : font.reading s ≡ font.says h es) (control-said : flc.control control ≡ flc.reads cs k) where
    pub upper_long : max_text < length upper → lines_of s control upper lower ≡ no_lines (refusal text_too_long 0)
    upper_long u = upper_refused (refusal text_too_long 0) (text-long s control upper h es cs k font-said control-said u)

    module _ (fits : length upper ≤ max_text) where
      -- the line of a text, and its counts
      abbrev lined_by : List ℕ → Lined
      lined_by text = lined_text (mode_of h) h.height (font_source s es) (text_codes cs k text)

      first : lined_of s control upper ≡ lined_by upper
      first = text-lined s control upper h es cs k font-said control-said fits

      pub lower_long : max_text < length lower → lines_of s control upper lower ≡ no_lines (refusal text_too_long 0)
      unfolding lines_of
      lower_long u = ap₂ (closed_up vertical) first (text-long s control lower h es cs k font-said control-said u)

      pub both_lined : length lower ≤ max_text →
          lines_of s control upper lower ≡ closed_up (vertical_of h.full_layout) (lined_by upper) (lined_by lower)
      unfolding lines_of
      both_lined u =
          ap₂ (closed_up vertical) first (text-lined s control lower h es cs k font-said control-said u)
          ∙ ap (λ (f : font.FontReading). closed_up (font_vertical f) (lined_by upper) (lined_by lower)) font-said

  module _ (size : ℕ) where
    by_size : (b : Bool) → ltb size min_stacked_scratch ≡ b → draw_lines size s control upper lower ≡ cond b (no_lines (refusal area_too_small 0)) (lines_of s control upper lower)
    unfolding draw_lines
    by_size b e = ap (λ (x : Bool). cond x (no_lines (refusal area_too_small 0)) (lines_of s control upper lower)) e

    pub lines_small : size < min_stacked_scratch → draw_lines size s control upper lower ≡ no_lines (refusal area_too_small 0)
    lines_small u = by_size true (lt-ltb size min_stacked_scratch u)

    pub lines_enough : min_stacked_scratch ≤ size → draw_lines size s control upper lower ≡ lines_of s control upper lower
    lines_enough u = by_size false (le-ltb size min_stacked_scratch u)
