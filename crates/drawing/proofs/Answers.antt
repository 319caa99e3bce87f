-- Each answer of a drawing is given exactly when document 01 says so: the answer is one of those named here, and what is named for an answer gives it.
-- Then the bytes of the output.
-- Assumes nothing.
use mathlib.Core.Path.{◌≡◌, refl, sym, ap, ap₂, ◌∙◌, subst}
use mathlib.Core.Bool.{Bool, true, false}
use mathlib.Core.List.{List}
use mathlib.Core.Logic.{◌↔◌, ◌⊎◌, inl, inr, ⊎_elim}
use Prim.Native.Nat.{ℕ, ◌+◌, ◌*◌, ◌≤◌, ◌<◌}
use native.Mathlib.Omega.{arith}
use lib.Dec.{ltb}
use lib.ListN.{length, get_or}
use borrow.Author.Tests.{ltb-true, ltb-false}
use Rattle.ground.specs.Area.{padded}
use Rattle.ground.specs.Text.{byte}
use Rattle.ground.specs.Limits.{max_line_width, max_text, min_scratch}
use Rattle.ground.specs.Refusals.{refusal, number_of, too_many_characters, area_too_small, control_file_too_long, too_many_commands, text_too_long, line_too_wide}
use Rattle.ground.specs.declared.refusals.Reason.{Reason}
use Rattle.ground.specs.declared.refusals.Refusal.{Refusal}
use Rattle.ground.proofs.Areas.{padded-at}
use Rattle.subchars.specs.Hardblank.{blanked}
use Rattle.blocks.specs.Block.{Block}
use Rattle.blocks.proofs.Rows.{row_room}
use Rattle.showing.specs.Output.{shown, output_of, output_bytes, put_only}
use Rattle.showing.proofs.Showing.{too_wide, no_room, drawn, shown-byte, shown_lf, length-shown}
use Rattle.header.specs.declared.Header.{Header}
use Rattle.chars.specs.declared.Entry.{Entry}
use Rattle.font.specs.Font as font
use Rattle.font.proofs.ReadingLaws.{font_refusal}
use Rattle.flc.specs.declared.Command.{Command}
use Rattle.flc.specs.Control as flc
use Rattle.flc.proofs.RefusalLaws.{control-refusal}
use Rattle.std.specs.Prelude.{Result}
use Rattle.source.specs.declared.Counts.{Counts}
use Rattle.drawing.specs.declared.DrawAnswer.{DrawAnswer}
use Rattle.drawing.specs.declared.DrawAnswer.TheVariants.{Drawn, Refused}
use Rattle.drawing.specs.Drawing.{mode_of, font_line, font_counts, Lined, lined, unlined, lined_by, lined_of, draw_lined, with_counts, lined_answer, bytes_of}
use Rattle.drawing.proofs.OutputLaws.{text-long, text-lined}
use Rattle.drawing.proofs.SizeLaws.{lined-small, lined_enough}

module _ (size : ℕ) (s control text : List ℕ) (room : ℕ) where
  -- Neither 9 for the scratch nor a refusal of a file.
  pub record FilesRead : Type 0 where
    pub scratch_enough : min_scratch ≤ size
    pub header : Header
    pub characters : List Entry
    pub font_read : font.reading s ≡ font.says header characters
    pub commands : List Command
    pub stages : ℕ
    pub control-read : flc.control control ≡ flc.reads commands stages

  -- The line of the text by these files.
  abbrev pub line_by : FilesRead → Block
  line_by x = font_line s x.header x.characters x.commands x.stages text

  -- Its counts.
  abbrev pub counts_by : FilesRead → Counts
  counts_by x = font_counts s x.characters x.commands x.stages text

  -- The bytes that it takes.
  abbrev pub bytes_by : FilesRead → ℕ
  bytes_by x = x.header.height * ((line_by x).width + 1)

  -- "Drawing: 9 for all working areas, the font's, the control file's, 15, 16, then 9 for the output"; otherwise the width and the counts.
  pub data DrawsTo : DrawAnswer → Type 0 where
    scratch_small : size < min_scratch → DrawsTo (Refused (refusal area_too_small 0))
    font_refused : min_scratch ≤ size → (r : Refusal) → font.reading s ≡ font.refuses r → DrawsTo (Refused r)
    control-refused : min_scratch ≤ size → (h : Header) (es : List Entry) → font.reading s ≡ font.says h es → (r : Refusal) → flc.control control ≡ flc.refuses r → DrawsTo (Refused r)
    text_too_long_lem : FilesRead → max_text < length text → DrawsTo (Refused (refusal text_too_long 0))
    line_too_wide_lem : (x : FilesRead) → length text ≤ max_text → max_line_width < (line_by x).width → DrawsTo (Refused (refusal line_too_wide 0))
    output-small : (x : FilesRead) → length text ≤ max_text → (line_by x).width ≤ max_line_width → room < bytes_by x → DrawsTo (Refused (refusal area_too_small 0))
    draws : (x : FilesRead) → length text ≤ max_text → (line_by x).width ≤ max_line_width → bytes_by x ≤ room → DrawsTo (Drawn (line_by x).width (counts_by x))

  abbrev pub answer : DrawAnswer
  answer = lined_answer (draw_lined size s control text) room

  by-line : (l : Lined) → draw_lined size s control text ≡ l → answer ≡ lined_answer l room
  by-line l e = ap (λ (x : Lined). lined_answer x room) e

  refused-by : (r : Refusal) → draw_lined size s control text ≡ unlined r → answer ≡ Refused r
  unfolding lined_answer
  refused-by r e = by-line (unlined r) e

  is-lined : (x : FilesRead) → length text ≤ max_text → draw_lined size s control text ≡ lined (mode_of x.header) x.header.height (line_by x) (counts_by x)
  is-lined x t =
      lined_enough size s control text x.scratch_enough ∙
      text-lined s control text x.header x.characters x.commands x.stages x.font_read x.control-read t

  put_by : (x : FilesRead) → length text ≤ max_text → answer ≡ with_counts (counts_by x) (output_of x.header.height (line_by x) room)
  unfolding lined_answer
  put_by x t = by-line _ (is-lined x t)

  -- Each of these gives its answer,
  pub gives : (a : DrawAnswer) → DrawsTo a → answer ≡ a
  unfolding lined_of
  gives _ (scratch_small u) = refused-by _ (lined-small size s control text u)
  gives _ (font_refused u r f) = refused-by r (lined_enough size s control text u ∙ ap (λ (x : font.FontReading). lined_by s x (flc.control control) text) f)
  gives _ (control-refused u h es f r c) =
      refused-by r (lined_enough size s control text u ∙ ap (λ (x : font.FontReading). lined_by s x (flc.control control) text) f ∙ ap (λ (x : flc.ControlReading). lined_by s (font.says h es) x text) c)
  gives _ (text_too_long_lem x t) =
      refused-by _ (lined_enough size s control text x.scratch_enough ∙ text-long s control text x.header x.characters x.commands x.stages x.font_read x.control-read t)
  gives _ (line_too_wide_lem x t w) = put_by x t ∙ ap (with_counts (counts_by x)) (sym (too_wide 0 x.header.height (line_by x) room w))
  gives _ (output-small x t w m) = put_by x t ∙ ap (with_counts (counts_by x)) (sym (no_room 0 x.header.height (line_by x) room w m))
  gives _ (draws x t w m) = put_by x t ∙ ap (with_counts (counts_by x)) (sym (drawn 0 x.header.height (line_by x) room w m))

  -- and the answer is one of them.
  pub one_of : DrawsTo answer
  one_of = by_size (ltb size min_scratch) refl
    where
      as_told : (a : DrawAnswer) → DrawsTo a → DrawsTo answer
      as_told a d = subst DrawsTo (sym (gives a d)) d

      by-room : (x : FilesRead) → length text ≤ max_text → (line_by x).width ≤ max_line_width → (b : Bool) → ltb room (bytes_by x) ≡ b → DrawsTo answer
      by-room x t w true e = as_told _ (output-small x t w (ltb-true room (bytes_by x) e))
      by-room x t w false e = as_told _ (draws x t w (ltb-false room (bytes_by x) e))

      by_width : (x : FilesRead) → length text ≤ max_text → (b : Bool) → ltb max_line_width (line_by x).width ≡ b → DrawsTo answer
      by_width x t true e = as_told _ (line_too_wide_lem x t (ltb-true max_line_width (line_by x).width e))
      by_width x t false e = by-room x t (ltb-false max_line_width (line_by x).width e) (ltb room (bytes_by x)) refl

      by-text : FilesRead → (b : Bool) → ltb max_text (length text) ≡ b → DrawsTo answer
      by-text x true e = as_told _ (text_too_long_lem x (ltb-true max_text (length text) e))
      by-text x false e = by_width x (ltb-false max_text (length text) e) (ltb max_line_width (line_by x).width) refl

      by-control : min_scratch ≤ size → (h : Header) (es : List Entry) → font.reading s ≡ font.says h es → (x : flc.ControlReading) → flc.control control ≡ x → DrawsTo answer
      by-control u h es f (flc.refuses r) c = as_told _ (control-refused u h es f r c)
      by-control u h es f (flc.reads cs k) c =
          by-text (record { scratch_enough = u; header = h; characters = es; font_read = f; commands = cs; stages = k; control-read = c }) (ltb max_text (length text)) refl

      by_font : min_scratch ≤ size → (x : font.FontReading) → font.reading s ≡ x → DrawsTo answer
      by_font u (font.refuses r) f = as_told _ (font_refused u r f)
      by_font u (font.says h es) f = by-control u h es f (flc.control control) refl

      by_size : (b : Bool) → ltb size min_scratch ≡ b → DrawsTo answer
      by_size true e = as_told _ (scratch_small (ltb-true size min_scratch e))
      by_size false e = by_font (ltb-false size min_scratch e) (font.reading s) refl

  -- Each answer by itself: what it is given for. The scratch is large enough, and the two files say this.
  abbrev Read : Header → List Entry → List Command → ℕ → Type 0
  Read h es cs k = (min_scratch ≤ size) × (font.reading s ≡ font.says h es) × (flc.control control ≡ flc.reads cs k)

  abbrev line_for : Header → List Entry → List Command → ℕ → Block
  line_for h es cs k = font_line s h es cs k text

  abbrev pub files : (h : Header) (es : List Entry) (cs : List Command) (k : ℕ) → Read h es cs k → FilesRead
  files h es cs k r = record { scratch_enough = r.0; header = h; characters = es; font_read = r.1; commands = cs; stages = k; control-read = r.2 }

  read : (x : FilesRead) → Read x.header x.characters x.commands x.stages
  read x = (x.scratch_enough, x.font_read, x.control-read)

  abbrev FontFor : Refusal → Type 0
  FontFor r = (min_scratch ≤ size) × (font.reading s ≡ font.refuses r)

  abbrev ControlFor : Refusal → Type 0
  ControlFor r = (min_scratch ≤ size) × (h : Header) × (es : List Entry) × (font.reading s ≡ font.says h es) × (flc.control control ≡ flc.refuses r)

  abbrev TooLong : ℕ → Type 0
  TooLong p = (p ≡ 0) × (h : Header) × (es : List Entry) × (cs : List Command) × (k : ℕ) × (Read h es cs k) × (max_text < length text)

  abbrev TooWide : ℕ → Type 0
  TooWide p = (p ≡ 0) × (h : Header) × (es : List Entry) × (cs : List Command) × (k : ℕ) × (Read h es cs k) × (length text ≤ max_text) × (max_line_width < (line_for h es cs k).width)

  abbrev TooSmall : ℕ → Type 0
  TooSmall p =
      (p ≡ 0) ×
      ((size < min_scratch) ⊎
      ((h : Header) × (es : List Entry) × (cs : List Command) × (k : ℕ) × (Read h es cs k) × (length text ≤ max_text) × ((line_for h es cs k).width ≤ max_line_width) ×
      (room < h.height * ((line_for h es cs k).width + 1))))

  abbrev DrawnAs : ℕ → Counts → Type 0
  DrawnAs w n =
      (h : Header) × (es : List Entry) × (cs : List Command) × (k : ℕ) × (Read h es cs k) × (length text ≤ max_text) × ((line_for h es cs k).width ≤ max_line_width) ×
      (h.height * ((line_for h es cs k).width + 1) ≤ room) × (w ≡ (line_for h es cs k).width) × (n ≡ font_counts s es cs k text)

  abbrev Told : DrawAnswer → Type 0
  Told (Drawn w n) = DrawnAs w n
  Told (Refused r) =
      (number_of r.reason ≤ number_of too_many_characters → FontFor r) ×
      (number_of control_file_too_long ≤ number_of r.reason → number_of r.reason ≤ number_of too_many_commands → ControlFor r) ×
      (number_of r.reason ≡ number_of text_too_long → TooLong r.place) ×
      (number_of r.reason ≡ number_of line_too_wide → TooWide r.place) ×
      (number_of r.reason ≡ number_of area_too_small → TooSmall r.place)

  told : (a : DrawAnswer) → DrawsTo a → Told a
  told _ (scratch_small u) = (λ e. absurd (omega arith), λ e f. absurd (omega arith), λ e. absurd (omega arith), λ e. absurd (omega arith), λ e. (refl, inl u))
  told _ (font_refused u r f) =
      let b = font_refusal s r f in
      (λ e. (u, f), λ e g. absurd (omega (arith, b.1)), λ e. absurd (omega (arith, b.1)), λ e. absurd (omega (arith, b.1)), λ e. absurd (omega (arith, b.1)))
  told _ (control-refused u h es f r c) =
      let b = control-refusal control r c in
      (λ e. absurd (omega (arith, b.0)), λ e g. (u, h, es, f, c), λ e. absurd (omega (arith, b.1)), λ e. absurd (omega (arith, b.1)), λ e. absurd (omega (arith, b.0)))
  told _ (text_too_long_lem x t) =
      (λ e. absurd (omega arith), λ e f. absurd (omega arith), λ e. (refl, x.header, x.characters, x.commands, x.stages, read x, t), λ e. absurd (omega arith), λ e. absurd (omega arith))
  told _ (line_too_wide_lem x t w) =
      (λ e. absurd (omega arith), λ e f. absurd (omega arith), λ e. absurd (omega arith), λ e. (refl, x.header, x.characters, x.commands, x.stages, read x, t, w), λ e. absurd (omega arith))
  told _ (output-small x t w m) =
      (λ e. absurd (omega arith), λ e f. absurd (omega arith), λ e. absurd (omega arith), λ e. absurd (omega arith), λ e. (refl, inr (x.header, x.characters, x.commands, x.stages, read x, t, w, m)))
  told _ (draws x t w m) = (x.header, x.characters, x.commands, x.stages, read x, t, w, m, refl, refl)

  tells : (a : DrawAnswer) → answer ≡ a → Told a
  tells a e = told a (subst DrawsTo e one_of)

  refused-at : (reason : Reason) (p : ℕ) → p ≡ 0 → answer ≡ Refused (refusal reason 0) → answer ≡ Refused (refusal reason p)
  refused-at reason p e a = subst (λ (q : ℕ). answer ≡ Refused (refusal reason q)) (sym e) a

  pub row_font : (r : Refusal) → number_of r.reason ≤ number_of too_many_characters → answer ≡ Refused r ↔ FontFor r
  row_font r u = (λ e. (tells _ e).0 u, λ w. gives _ (font_refused w.0 r w.1))

  pub row-control : (r : Refusal) → number_of control_file_too_long ≤ number_of r.reason → number_of r.reason ≤ number_of too_many_commands → answer ≡ Refused r ↔ ControlFor r
  row-control r u v = (λ e. (tells _ e).1 u v, λ w. gives _ (control-refused w.0 w.1 w.2 w.3 r w.4))

  pub row_15 : (p : ℕ) → answer ≡ Refused (refusal text_too_long p) ↔ TooLong p
  row_15 p = (λ e. (tells _ e).2 refl, λ w. refused-at text_too_long p w.0 (gives _ (text_too_long_lem (files w.1 w.2 w.3 w.4 w.5) w.6)))

  pub row_16 : (p : ℕ) → answer ≡ Refused (refusal line_too_wide p) ↔ TooWide p
  row_16 p = (λ e. (tells _ e).3 refl, λ w. refused-at line_too_wide p w.0 (gives _ (line_too_wide_lem (files w.1 w.2 w.3 w.4 w.5) w.6 w.7)))

  pub row_9 : (p : ℕ) → answer ≡ Refused (refusal area_too_small p) ↔ TooSmall p
  row_9 p = (
    λ e. (tells _ e).4 refl,
    λ w. refused-at area_too_small p w.0
        (⊎_elim (λ u. gives _ (scratch_small u)) (λ v. gives _ (output-small (files v.0 v.1 v.2 v.3 v.4) v.5 v.6 v.7)) w.1),
  )

  pub row_drawn : (w : ℕ) (n : Counts) → answer ≡ Drawn w n ↔ DrawnAs w n
  row_drawn w n = (λ e. tells _ e, λ v. gives _ (draws (files v.0 v.1 v.2 v.3 v.4) v.5 v.6 v.7) ∙ ap₂ Drawn (sym v.8) (sym v.9))

  -- The output of a text that is drawn.
  module _ (x : FilesRead) (t : length text ≤ max_text) (w : (line_by x).width ≤ max_line_width) (m : bytes_by x ≤ room) where
    abbrev hardblank : ℕ
    hardblank = x.header.hardblank.0

    abbrev output : List ℕ
    output = padded (bytes_of (draw_lined size s control text) room) room

    pub bytes_are : bytes_of (draw_lined size s control text) room ≡ shown hardblank x.header.height (line_by x)
    unfolding bytes_of output_bytes mode_of
    bytes_are =
        ap (λ (l : Lined). bytes_of l room) (is-lined x t) ∙
        ap (λ (a : Result ℕ Refusal). put_only a (shown hardblank x.header.height (line_by x))) (sym (drawn 0 x.header.height (line_by x) room w m))

    at_place : (r k : ℕ) → r < x.header.height → k < (line_by x).width + 1 → get_or output (r * ((line_by x).width + 1) + k) 0 ≡ get_or (shown hardblank x.header.height (line_by x)) (r * ((line_by x).width + 1) + k) 0
    at_place r k u v =
        ap (λ (b : List ℕ). get_or (padded b room) (r * ((line_by x).width + 1) + k) 0) bytes_are ∙
        padded-at (shown hardblank x.header.height (line_by x)) room _ (omega (arith, row_room r x.header.height ((line_by x).width + 1) u, length-shown hardblank x.header.height (line_by x)))

    -- "The output is each row with hardblanks as blanks,
    pub output-byte : (r k : ℕ) → r < x.header.height → k < (line_by x).width → get_or output (r * ((line_by x).width + 1) + k) 0 ≡ blanked hardblank ((line_by x).cells r k)
    output-byte r k u v = at_place r k u (omega arith) ∙ shown-byte hardblank x.header.height (line_by x) r k u v

    -- then LF."
    pub output_lf : (r : ℕ) → r < x.header.height → get_or output (r * ((line_by x).width + 1) + (line_by x).width) 0 ≡ byte "\n"
    output_lf r u = at_place r (line_by x).width u (omega arith) ∙ shown_lf hardblank x.header.height (line_by x) r u
