-- What is put out of the scratch area is what the line of the text comes to, and what each refusal leaves.
-- Assumes nothing.
use mathlib.Core.Path.{◌≡◌, refl, sym, ap, ◌∙◌}
use mathlib.Core.Bool.{Bool, true, false, cond}
use mathlib.Core.List.{List}
use Prim.Native.Nat.{ℕ, ◌-◌, ◌≤◌, ◌<◌}
use native.Mathlib.Omega.{arith}
use native.Mathlib.Decide.{dec_lt}
use lib.Dec.{ltb}
use lib.ListN.{length}
use borrow.Author.Tests.{lt-ltb, le-ltb}
use Rattle.ground.specs.Area.{zeros, padded}
use Rattle.ground.specs.Limits.{max_line_width, max_text}
use Rattle.ground.specs.Refusals.{refusal, text_too_long, line_too_wide}
use Rattle.ground.specs.declared.refusals.Refusal.{Refusal}
use Rattle.subchars.specs.declared.Code.{Code}
use Rattle.subchars.specs.declared.Mode.{Mode}
use Rattle.blocks.specs.Block.{Block}
use Rattle.showing.specs.Output.{output_of, output_bytes}
use Rattle.showing.specs.Scratch.{scratch_line}
use Rattle.showing.proofs.Showing.{too_wide, no_bytes, output-like, bytes-like}
use Rattle.header.specs.declared.Header.{Header}
use Rattle.chars.specs.declared.Entry.{Entry}
use Rattle.font.specs.Font as font
use Rattle.flc.specs.declared.Command.{Command}
use Rattle.flc.specs.Control as flc
use Rattle.std.specs.Prelude.{Result}
use Rattle.source.specs.declared.Counts.{Counts}
use Rattle.source.specs.Source.{Source, font_source}
use Rattle.source.specs.Counting.{counts_of}
use Rattle.drawing.specs.declared.DrawAnswer.{DrawAnswer}
use Rattle.drawing.specs.declared.DrawAnswer.TheVariants.{Refused}
use Rattle.drawing.specs.Drawing.{text_codes, line_of, mode_of, draws, refuses, lined_text, unlined, lined_read, lined_from, lined_by, lined_of, with_counts, lined_answer, bytes_of, PutOut}
use Rattle.drawing.specs.Steps.{Reached}

-- A refusal leaves zeros.
pub unlined_out : (r : Refusal) (room : ℕ) (out : List ℕ) → out ≡ zeros (room - 0) → PutOut (unlined r) room (Refused r) out
unfolding lined_answer bytes_of
unlined_out r room out e = record { answers = refl; holds = e }

-- The line in the area, w wide, and the line that it stands for.
module _ (y : Mode) (h : ℕ) (source : Source) (codes : List Code) (w : ℕ) (counts : Counts) (area : List ℕ) (reached : Reached y h max_line_width w area (line_of y h source codes)) (are : w ≤ max_line_width → counts ≡ counts_of source codes) (room : ℕ) where
  abbrev line : Block
  line = line_of y h source codes

  abbrev held : Block
  held = scratch_line y.direction w area

  both_wide : max_line_width < w → output_of h held room ≡ output_of h line room
  both_wide l = sym (too_wide 0 h held room l) ∙ too_wide 0 h line room (reached.beyond l)

  same-output : output_of h held room ≡ output_of h line room
  same-output =
      elim (dec_lt max_line_width w) [
        | yes l ↦ both_wide l
        | no l ↦ output-like h held line (reached.within (omega arith)) room
      ]

  same_bytes : (hardblank : ℕ) → padded (output_bytes hardblank h held room) room ≡ padded (output_bytes hardblank h line room) room
  same_bytes hardblank =
      elim (dec_lt max_line_width w) [
        | yes l ↦
            sym (no_bytes hardblank h held room (refusal line_too_wide 0) (too_wide 0 h held room l)) ∙
            no_bytes hardblank h line room (refusal line_too_wide 0) (too_wide 0 h line room (reached.beyond l))
        | no l ↦ ap (λ (b : List ℕ). padded b room) (bytes-like h held line (reached.within (omega arith)) hardblank room)
      ]

  -- a line that is too wide has no counts
  same-counts : with_counts counts (output_of h line room) ≡ with_counts (counts_of source codes) (output_of h line room)
  same-counts =
      elim (dec_lt max_line_width w) [
        | yes l ↦ let e = sym (too_wide 0 h line room (reached.beyond l)) in ap (with_counts counts) e ∙ sym (ap (with_counts (counts_of source codes)) e)
        | no l ↦ ap (λ (n : Counts). with_counts n (output_of h line room)) (are (omega arith))
      ]

  pub lined_out : (a : DrawAnswer) (p : Result ℕ Refusal) (out : List ℕ) → a ≡ with_counts counts p → p ≡ output_of h held room → out ≡ padded (output_bytes y.hardblank.0 h held room) room → PutOut (lined_text y h source codes) room a out
  unfolding lined_answer bytes_of
  lined_out a p out f e b = record { answers = f ∙ ap (with_counts counts) (e ∙ same-output) ∙ same-counts; holds = b ∙ same_bytes y.hardblank.0 }

-- A text from a source, by a control file that is read.
module _ (y : Mode) (h : ℕ) (source : Source) (control text : List ℕ) (cs : List Command) (k : ℕ) (control-said : flc.control control ≡ flc.reads cs k) where
  by_length : (b : Bool) → ltb max_text (length text) ≡ b → lined_from y h source (flc.control control) text ≡ lined_read y h source (cond b (refuses (refusal text_too_long 0)) (draws (text_codes cs k text)))
  by_length b e = ap (λ (c : flc.ControlReading). lined_from y h source c text) control-said ∙ ap (λ (x : Bool). lined_read y h source (cond x (refuses (refusal text_too_long 0)) (draws (text_codes cs k text)))) e

  -- 15: "text too long"
  pub source-long : max_text < length text → lined_from y h source (flc.control control) text ≡ unlined (refusal text_too_long 0)
  source-long l = by_length true (lt-ltb max_text (length text) l)

  pub source-lined : length text ≤ max_text → lined_from y h source (flc.control control) text ≡ lined_text y h source (text_codes cs k text)
  source-lined l = by_length false (le-ltb max_text (length text) l)

-- The same by a font that is read.
pub font_lined : (s control text : List ℕ) (h : Header) (es : List Entry) → font.reading s ≡ font.says h es → lined_of s control text ≡ lined_from (mode_of h) h.height (font_source s es) (flc.control control) text
unfolding lined_of
font_lined s control text h es font-said = ap (λ (f : font.FontReading). lined_by s f (flc.control control) text) font-said

-- A font that is refused has no line.
pub font_unlined : (s control text : List ℕ) (r : Refusal) → font.reading s ≡ font.refuses r → lined_of s control text ≡ unlined r
unfolding lined_of
font_unlined s control text r refused = ap (λ (f : font.FontReading). lined_by s f (flc.control control) text) refused

module _ (s control text : List ℕ) (h : Header) (es : List Entry) (cs : List Command) (k : ℕ) (font-said : font.reading s ≡ font.says h es) (control-said : flc.control control ≡ flc.reads cs k) where
  pub text-long : max_text < length text → lined_of s control text ≡ unlined (refusal text_too_long 0)
  text-long l = font_lined s control text h es font-said ∙ source-long (mode_of h) h.height (font_source s es) control text cs k control-said l

  pub text-lined : length text ≤ max_text → lined_of s control text ≡ lined_text (mode_of h) h.height (font_source s es) (text_codes cs k text)
  text-lined l = font_lined s control text h es font-said ∙ source-lined (mode_of h) h.height (font_source s es) control text cs k control-said l
