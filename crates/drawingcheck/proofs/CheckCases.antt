-- What a check of a drawing comes to, case by case.
-- Assumes nothing.
use mathlib.Core.Path.{◌≡◌, sym, ap, ◌∙◌}
use mathlib.Core.Bool.{Bool, cond}
use mathlib.Core.List.{List, []}
use Prim.Native.Nat.{ℕ, ◌≤◌, ◌<◌}
use native.Mathlib.Omega.{arith}
use native.Mathlib.Decide.{dec_lt}
use lib.ListN.{length}
use borrow.Author.Tests.{lt-ltb, le-ltb}
use Rattle.ground.specs.Limits.{max_text, max_line_width, min_scratch}
use Rattle.ground.specs.Refusals.{refusal, area_too_small, text_too_long}
use Rattle.ground.specs.declared.refusals.Refusal.{Refusal}
use Rattle.ground.proofs.Tests.{clash}
use Rattle.subchars.specs.declared.Code.{Code}
use Rattle.subchars.specs.declared.Mode.{Mode}
use Rattle.showing.specs.Scratch.{scratch_line}
use Rattle.header.specs.declared.Header.{Header}
use Rattle.chars.specs.declared.Entry.{Entry}
use Rattle.font.specs.Font as font
use Rattle.flc.specs.declared.Command.{Command}
use Rattle.flc.specs.Control as flc
use Rattle.source.specs.Source.{Source, font_source}
use Rattle.drawing.specs.Drawing.{text_codes, line_of, trace_of, mode_of, unlined, lined_by, lined_of, draws, refuses}
use Rattle.drawing.specs.Steps.{Reached}
use Rattle.checking.specs.declared.Verdict.{Verdict}
use Rattle.std.specs.Prelude.{Result, Err}
use Rattle.checking.specs.Verdict.{line_checked}
use Rattle.checking.proofs.VerdictLaws.{checked_like, line_16}
use Rattle.drawingcheck.specs.CheckDrawing.{codes_checked, checked_read, checked_from, checked_by, checked_of, drawing_checked}

-- From a source on.
module _ (y : Mode) (h : ℕ) (source : Source) (control text overlaps figure : List ℕ) (cs : List Command) (k : ℕ) (c : flc.control control ≡ flc.reads cs k) where
  abbrev said : Result Verdict Refusal
  said = checked_from y h source (flc.reads cs k) text overlaps figure

  is_said : checked_from y h source (flc.control control) text overlaps figure ≡ said
  is_said = ap (λ (x : flc.ControlReading). checked_from y h source x text overlaps figure) c

  pub check_long : max_text < length text → Err (refusal text_too_long 0) ≡ checked_from y h source (flc.control control) text overlaps figure
  check_long l = sym (is_said ∙ ap (λ (b : Bool). checked_read y h source (cond b (refuses (refusal text_too_long 0)) (draws (text_codes cs k text))) overlaps figure) (lt-ltb max_text (length text) l))

  pub check_short : length text ≤ max_text → codes_checked y h source (text_codes cs k text) overlaps figure ≡ checked_from y h source (flc.control control) text overlaps figure
  check_short l = sym (is_said ∙ ap (λ (b : Bool). checked_read y h source (cond b (refuses (refusal text_too_long 0)) (draws (text_codes cs k text))) overlaps figure) (le-ltb max_text (length text) l))

-- The line in the area, w wide, is checked as the line of the text.
module _ (y : Mode) (h : ℕ) (source : Source) (codes : List Code) (overlaps figure : List ℕ) (w : ℕ) (area : List ℕ) (reached : Reached y h max_line_width w area (line_of y h source codes)) where
  abbrev trace : List ℕ
  trace = (trace_of y h source codes).overlaps

  pub reached_checked : line_checked y.hardblank.0 h (scratch_line y.direction w area) trace overlaps figure ≡ codes_checked y h source codes overlaps figure
  reached_checked =
      elim (dec_lt max_line_width w) [
        | yes l ↦ (line_16 y.hardblank.0 h (scratch_line y.direction w area) trace overlaps figure).1 l ∙ sym ((line_16 y.hardblank.0 h (line_of y h source codes) trace overlaps figure).1 (reached.beyond l))
        | no l ↦ checked_like y.hardblank.0 h (scratch_line y.direction w area) (line_of y h source codes) trace overlaps figure (reached.within (omega arith))
      ]

-- By what the font says.
pub files_said : (s control text overlaps figure : List ℕ) (h : Header) (es : List Entry) → font.reading s ≡ font.says h es → checked_from (mode_of h) h.height (font_source s es) (flc.control control) text overlaps figure ≡ checked_of s control text overlaps figure
unfolding checked_of
files_said s control text overlaps figure h es e = sym (ap (λ (m : font.FontReading). checked_by s m (flc.control control) text overlaps figure) e)

-- Files that refuse every text refuse every check.
pub files_refused : (s control text overlaps figure : List ℕ) (r : Refusal) → ((t : List ℕ) → lined_of s control t ≡ unlined r) → Err r ≡ checked_of s control text overlaps figure
unfolding checked_of lined_of
files_refused s control text overlaps figure r all = go (font.reading s) (flc.control control) (all [])
  where
    go : (m : font.FontReading) (x : flc.ControlReading) → lined_by s m x [] ≡ unlined r → Err r ≡ checked_by s m x text overlaps figure
    go (font.refuses q) x e = let p : q ≡ r = cc in sym (ap Err p)
    go (font.says h es) (flc.refuses q) e = let p : q ≡ r = cc in sym (ap Err p)
    go (font.says h es) (flc.reads cs k) e = clash (cc)

-- The scratch is tested first.
module _ (s control text overlaps figure : List ℕ) (scratch : ℕ) where
  pub scratch_small : scratch < min_scratch → Err (refusal area_too_small 0) ≡ drawing_checked scratch s control text overlaps figure
  unfolding drawing_checked
  scratch_small l = sym (rw (lt-ltb scratch min_scratch l))

  pub scratch_enough : min_scratch ≤ scratch → checked_of s control text overlaps figure ≡ drawing_checked scratch s control text overlaps figure
  unfolding drawing_checked
  scratch_enough l = sym (rw (le-ltb scratch min_scratch l))
