-- Each answer of a check of a drawing is given exactly when document 02, Q-8, says so: the answer is one of those named here, and what is named for an answer gives it.
-- Assumes nothing.
use mathlib.Core.Path.{◌≡◌, refl, sym, ap, ◌∙◌, subst}
use mathlib.Core.Bool.{Bool, true, false}
use mathlib.Core.List.{List, ◌∷◌}
use mathlib.Core.Logic.{◌↔◌}
use Prim.Native.Nat.{ℕ, ◌-◌, ◌≤◌, ◌<◌}
use native.Mathlib.Omega.{arith}
use lib.Dec.{ltb}
use lib.ListN.{length, get_or, take}
use borrow.Author.Tests.{ltb-true, ltb-false}
use Rattle.ground.specs.Limits.{max_text, max_line_width, min_scratch}
use Rattle.ground.specs.Refusals.{refusal, number_of, too_many_characters, area_too_small, control_file_too_long, too_many_commands, text_too_long, line_too_wide, wrong_length}
use Rattle.ground.specs.declared.refusals.Reason.{Reason}
use Rattle.ground.specs.declared.refusals.Refusal.{Refusal}
use Rattle.ground.proofs.Tests.{clash}
use Rattle.blocks.specs.Block.{Block}
use Rattle.figure.specs.Line.{empty, overlap_with, line_from, overlaps_from}
use Rattle.showing.specs.Output.{shown}
use Rattle.header.specs.declared.Header.{Header}
use Rattle.chars.specs.declared.Entry.{Entry}
use Rattle.font.specs.Font as font
use Rattle.font.proofs.ReadingLaws.{font_refusal}
use Rattle.flc.specs.declared.Command.{Command}
use Rattle.flc.specs.Control as flc
use Rattle.flc.proofs.RefusalLaws.{control-refusal}
use Rattle.source.specs.declared.Counts.{Counts}
use Rattle.source.specs.Source.{font_source}
use Rattle.drawing.specs.declared.DrawAnswer.TheVariants.{Drawn}
use Rattle.drawing.specs.Drawing.{text_codes, characters_of, line_of, trace_of, mode_of, draw_lined, lined_answer, bytes_of}
use Rattle.drawing.proofs.Answers as drawn
use Rattle.checking.specs.declared.Verdict.{Verdict}
use Rattle.std.specs.Prelude.{Result, Ok, Err}
use Rattle.checking.specs.declared.Verdict.TheVariants.{Accepted, WrongOverlap, WrongByte}
use Rattle.checking.proofs.DifferenceLaws.{PartsFirst}
use Rattle.checking.specs.Verdict.{after_first, verdict, line_checked}
use Rattle.checking.proofs.TraceLaws.{one_less, each-overlap}
use Rattle.checking.proofs.VerdictLaws.{FirstWrong, accepted_exactly, overlap_exactly, byte_exactly, refused_exactly, line_16, not_too_wide}
use Rattle.drawingcheck.specs.CheckDrawing.{checked_from, checked_by, checked_of, drawing_checked}
use Rattle.drawingcheck.proofs.CheckCases as cases

module _ (size : ℕ) (s control text : List ℕ) where
  -- Neither 9, a refusal of either file, nor 15.
  pub record CheckRead : Type 0 where
    pub enough : min_scratch ≤ size
    pub header : Header
    pub characters : List Entry
    pub font_read : font.reading s ≡ font.says header characters
    pub commands : List Command
    pub stages : ℕ
    pub control-read : flc.control control ≡ flc.reads commands stages
    pub short : length text ≤ max_text

  -- The line of the text, its right overlaps, and its drawing.
  abbrev pub line_by : CheckRead → Block
  line_by x = line_of (mode_of x.header) x.header.height (font_source s x.characters) (text_codes x.commands x.stages text)

  abbrev pub right_by : CheckRead → List ℕ
  right_by x = after_first (trace_of (mode_of x.header) x.header.height (font_source s x.characters) (text_codes x.commands x.stages text)).overlaps

  abbrev pub drawing_by : CheckRead → List ℕ
  drawing_by x = shown x.header.hardblank.0 x.header.height (line_by x)

  -- "The list has one overlap for each drawn character after the first",
  pub right_many : (x : CheckRead) → length (right_by x) ≡ length (characters_of (font_source s x.characters) (text_codes x.commands x.stages text)) - 1
  unfolding trace_of
  right_many x = one_less (mode_of x.header) x.header.height (characters_of (font_source s x.characters) (text_codes x.commands x.stages text))

  -- and "each overlap is the one of demand 3".
  pub right_each : (x : CheckRead) (c : Block) (cs : List Block) → characters_of (font_source s x.characters) (text_codes x.commands x.stages text) ≡ c ∷ cs → (k : ℕ) → k < length cs →
      get_or (right_by x) k 0 ≡ overlap_with (mode_of x.header) x.header.height (line_from (mode_of x.header) x.header.height empty (c ∷ take k cs)) (get_or cs k empty)
  unfolding trace_of
  right_each x c cs e k u =
      ap (λ (all : List Block). get_or (after_first (overlaps_from (mode_of x.header) x.header.height empty all)) k 0) e ∙
      each-overlap (mode_of x.header) x.header.height c cs k u

  module _ (overlaps figure : List ℕ) where
    -- "9 (scratch under 32,000), font, control, 15, .. 16"; then the verdict: 25, the first wrong overlap, the first wrong byte, or accepted.
    pub data ChecksTo : Result Verdict Refusal → Type 0 where
      scratch_small : size < min_scratch → ChecksTo (Err (refusal area_too_small 0))
      font_refused : min_scratch ≤ size → (r : Refusal) → font.reading s ≡ font.refuses r → ChecksTo (Err r)
      control-refused : min_scratch ≤ size → (h : Header) (es : List Entry) → font.reading s ≡ font.says h es → (r : Refusal) → flc.control control ≡ flc.refuses r → ChecksTo (Err r)
      text_too_long_lem : min_scratch ≤ size → (h : Header) (es : List Entry) → font.reading s ≡ font.says h es → (cs : List Command) (k : ℕ) → flc.control control ≡ flc.reads cs k → max_text < length text → ChecksTo (Err (refusal text_too_long 0))
      line_too_wide_lem : (x : CheckRead) → max_line_width < (line_by x).width → ChecksTo (Err (refusal line_too_wide 0))
      judged : (x : CheckRead) → (line_by x).width ≤ max_line_width → ChecksTo (verdict (right_by x) (drawing_by x) overlaps figure)

    abbrev pub answer : Result Verdict Refusal
    answer = drawing_checked size s control text overlaps figure

    by_files : min_scratch ≤ size → checked_by s (font.reading s) (flc.control control) text overlaps figure ≡ answer
    unfolding checked_of
    by_files u = cases.scratch_enough s control text overlaps figure size u

    by-source : min_scratch ≤ size → (h : Header) (es : List Entry) → font.reading s ≡ font.says h es → checked_from (mode_of h) h.height (font_source s es) (flc.control control) text overlaps figure ≡ answer
    by-source u h es e = cases.files_said s control text overlaps figure h es e ∙ cases.scratch_enough s control text overlaps figure size u

    line-by : (x : CheckRead) → line_checked x.header.hardblank.0 x.header.height (line_by x) (trace_of (mode_of x.header) x.header.height (font_source s x.characters) (text_codes x.commands x.stages text)).overlaps overlaps figure ≡ answer
    unfolding mode_of
    line-by x = cases.check_short (mode_of x.header) x.header.height (font_source s x.characters) control text overlaps figure x.commands x.stages x.control-read x.short ∙ by-source x.enough x.header x.characters x.font_read

    -- Each of these gives its answer,
    pub gives : (a : Result Verdict Refusal) → ChecksTo a → answer ≡ a
    gives _ (scratch_small u) = sym (cases.scratch_small s control text overlaps figure size u)
    gives _ (font_refused u r p) = sym (by_files u) ∙ ap (λ (m : font.FontReading). checked_by s m (flc.control control) text overlaps figure) p
    gives _ (control-refused u h es p r c) = sym (by-source u h es p) ∙ ap (λ (x : flc.ControlReading). checked_from (mode_of h) h.height (font_source s es) x text overlaps figure) c
    gives _ (text_too_long_lem u h es p cs k c l) = sym (by-source u h es p) ∙ sym (cases.check_long (mode_of h) h.height (font_source s es) control text overlaps figure cs k c l)
    gives _ (line_too_wide_lem x l) = sym (line-by x) ∙ (line_16 x.header.hardblank.0 x.header.height (line_by x) _ overlaps figure).1 l
    gives _ (judged x l) = sym (line-by x) ∙ not_too_wide x.header.hardblank.0 x.header.height (line_by x) _ overlaps figure l

    -- and the answer is one of them.
    pub one_of : ChecksTo answer
    one_of = by_size (ltb size min_scratch) refl
      where
        as_told : (a : Result Verdict Refusal) → ChecksTo a → ChecksTo answer
        as_told a d = subst ChecksTo (sym (gives a d)) d

        by_width : (x : CheckRead) (b : Bool) → ltb max_line_width (line_by x).width ≡ b → ChecksTo answer
        by_width x true e = as_told _ (line_too_wide_lem x (ltb-true max_line_width (line_by x).width e))
        by_width x false e = as_told _ (judged x (ltb-false max_line_width (line_by x).width e))

        by-text : min_scratch ≤ size → (h : Header) (es : List Entry) → font.reading s ≡ font.says h es → (cs : List Command) (k : ℕ) → flc.control control ≡ flc.reads cs k → (b : Bool) → ltb max_text (length text) ≡ b → ChecksTo answer
        by-text u h es p cs k c true e = as_told _ (text_too_long_lem u h es p cs k c (ltb-true max_text (length text) e))
        by-text u h es p cs k c false e =
            let x : CheckRead = record { enough = u; header = h; characters = es; font_read = p; commands = cs; stages = k; control-read = c; short = ltb-false max_text (length text) e } in
            by_width x (ltb max_line_width (line_by x).width) refl

        by-control : min_scratch ≤ size → (h : Header) (es : List Entry) → font.reading s ≡ font.says h es → (x : flc.ControlReading) → flc.control control ≡ x → ChecksTo answer
        by-control u h es p (flc.refuses r) c = as_told _ (control-refused u h es p r c)
        by-control u h es p (flc.reads cs k) c = by-text u h es p cs k c (ltb max_text (length text)) refl

        by_font : min_scratch ≤ size → (m : font.FontReading) → font.reading s ≡ m → ChecksTo answer
        by_font u (font.refuses r) p = as_told _ (font_refused u r p)
        by_font u (font.says h es) p = by-control u h es p (flc.control control) refl

        by_size : (b : Bool) → ltb size min_scratch ≡ b → ChecksTo answer
        by_size true e = as_told _ (scratch_small (ltb-true size min_scratch e))
        by_size false e = by_font (ltb-false size min_scratch e) (font.reading s) refl

    -- Each verdict by itself.
    pub record Judged (a : Result Verdict Refusal) : Type 0 where
      pub files : CheckRead
      pub narrow : (line_by files).width ≤ max_line_width
      pub is : verdict (right_by files) (drawing_by files) overlaps figure ≡ a

    judged_as : (a : Result Verdict Refusal) → ((r : Refusal) → a ≡ Err r → ⊥) → answer ≡ a → Judged a
    judged_as a n e = go answer e one_of
      where
        go : (b : Result Verdict Refusal) → b ≡ a → ChecksTo b → Judged a
        go _ p (scratch_small u) = absurd (n _ (sym p))
        go _ p (font_refused u r q) = absurd (n _ (sym p))
        go _ p (control-refused u h es q r c) = absurd (n _ (sym p))
        go _ p (text_too_long_lem u h es q cs k c l) = absurd (n _ (sym p))
        go _ p (line_too_wide_lem x l) = absurd (n _ (sym p))
        go _ p (judged x l) = record { files = x; narrow = l; is = p }

    judged_gives : (a : Result Verdict Refusal) → Judged a → answer ≡ a
    judged_gives a j = gives _ (judged j.files j.narrow) ∙ j.is

    -- "Accept exactly if each overlap is the one of demand 3 and the bytes are the drawing."
    pub accepted : answer ≡ Ok Accepted ↔ ((x : CheckRead) × ((line_by x).width ≤ max_line_width) × (overlaps ≡ right_by x) × (figure ≡ drawing_by x))
    accepted = (
      λ e. let j = judged_as (Ok Accepted) (λ r p. clash (cc)) e in let w = (accepted_exactly (right_by j.files) (drawing_by j.files) overlaps figure).0 j.is in (j.files, j.narrow, w.0, w.1),
      λ w. judged_gives (Ok Accepted) (record { files = w.0; narrow = w.1; is = (accepted_exactly (right_by w.0) (drawing_by w.0) overlaps figure).1 (w.2, w.3) }),
    )

    -- "The check names the first wrong overlap,
    pub wrong_overlap : (k : ℕ) → answer ≡ Ok (WrongOverlap k) ↔ ((x : CheckRead) × ((line_by x).width ≤ max_line_width) × FirstWrong k (right_by x) overlaps)
    wrong_overlap k = (
      λ e. let j = judged_as (Ok (WrongOverlap k)) (λ r p. clash (cc)) e in (j.files, j.narrow, (overlap_exactly (right_by j.files) (drawing_by j.files) overlaps figure k).0 j.is),
      λ w. judged_gives (Ok (WrongOverlap k)) (record { files = w.0; narrow = w.1; is = (overlap_exactly (right_by w.0) (drawing_by w.0) overlaps figure k).1 w.2 }),
    )

    -- else the first wrong byte."
    pub wrong_byte : (p : ℕ) → answer ≡ Ok (WrongByte p) ↔ ((x : CheckRead) × ((line_by x).width ≤ max_line_width) × (overlaps ≡ right_by x) × PartsFirst p (drawing_by x) figure)
    wrong_byte p = (
      λ e. let j = judged_as (Ok (WrongByte p)) (λ r q. clash (cc)) e in let w = (byte_exactly (right_by j.files) (drawing_by j.files) overlaps figure p).0 j.is in (j.files, j.narrow, w.0, w.1),
      λ w. judged_gives (Ok (WrongByte p)) (record { files = w.0; narrow = w.1; is = (byte_exactly (right_by w.0) (drawing_by w.0) overlaps figure p).1 (w.2, w.3) }),
    )

    -- Each refusal by itself: what it is given for.
    abbrev FontFor : Refusal → Type 0
    FontFor r = (min_scratch ≤ size) × (font.reading s ≡ font.refuses r)

    abbrev ControlFor : Refusal → Type 0
    ControlFor r = (min_scratch ≤ size) × (h : Header) × (es : List Entry) × (font.reading s ≡ font.says h es) × (flc.control control ≡ flc.refuses r)

    abbrev TooLong : ℕ → Type 0
    TooLong p = (p ≡ 0) × (min_scratch ≤ size) × (h : Header) × (es : List Entry) × (font.reading s ≡ font.says h es) × (cs : List Command) × (k : ℕ) × (flc.control control ≡ flc.reads cs k) × (max_text < length text)

    abbrev TooWide : ℕ → Type 0
    TooWide p = (p ≡ 0) × (x : CheckRead) × (max_line_width < (line_by x).width)

    abbrev WrongList : ℕ → Type 0
    WrongList p = (p ≡ 0) × (x : CheckRead) × ((line_by x).width ≤ max_line_width) × (length overlaps ≡ length (right_by x) → ⊥)

    abbrev Told : Refusal → Type 0
    Told r =
        (number_of r.reason ≤ number_of too_many_characters → FontFor r) ×
        (number_of r.reason ≡ number_of area_too_small → (r.place ≡ 0) × (size < min_scratch)) ×
        (number_of control_file_too_long ≤ number_of r.reason → number_of r.reason ≤ number_of too_many_commands → ControlFor r) ×
        (number_of r.reason ≡ number_of text_too_long → TooLong r.place) ×
        (number_of r.reason ≡ number_of line_too_wide → TooWide r.place) ×
        (number_of r.reason ≡ number_of wrong_length → WrongList r.place)

    same_number : {q r : Refusal} → q ≡ r → number_of q.reason ≡ number_of r.reason
    same_number e = ap (λ (x : Refusal). number_of x.reason) e

    told_judged : (r : Refusal) (x : CheckRead) → (line_by x).width ≤ max_line_width → verdict (right_by x) (drawing_by x) overlaps figure ≡ Err r → Told r
    told_judged r x l e =
        let w = (refused_exactly (right_by x) (drawing_by x) overlaps figure r).0 e in
        let n = same_number w.0 in
        let p : r.place ≡ 0 = ap (λ (q : Refusal). q.place) w.0 in
        (λ e. absurd (omega arith), λ e. absurd (omega arith), λ e f. absurd (omega arith), λ e. absurd (omega arith), λ e. absurd (omega arith), λ e. (p, x, l, w.1))

    told : (a : Result Verdict Refusal) → ChecksTo a → (r : Refusal) → a ≡ Err r → Told r
    told _ (scratch_small u) r e =
        let q : refusal area_too_small 0 ≡ r = cc in
        let n = same_number q in
        let p : 0 ≡ r.place = ap (λ (x : Refusal). x.place) q in
        (λ e. absurd (omega arith), λ e. (sym p, u), λ e f. absurd (omega arith), λ e. absurd (omega arith), λ e. absurd (omega arith), λ e. absurd (omega arith))
    told _ (font_refused u q m) r e =
        let p : q ≡ r = cc in
        let b = font_refusal s q m in
        let n = same_number p in
        (λ e. (u, m ∙ ap font.refuses p), λ e. absurd (omega (arith, b.1)), λ e f. absurd (omega (arith, b.1)), λ e. absurd (omega (arith, b.1)), λ e. absurd (omega (arith, b.1)), λ e. absurd (omega (arith, b.1)))
    told _ (control-refused u h es m q c) r e =
        let p : q ≡ r = cc in
        let b = control-refusal control q c in
        let n = same_number p in
        (λ e. absurd (omega (arith, b.0)), λ e. absurd (omega (arith, b.0)), λ e f. (u, h, es, m, c ∙ ap flc.refuses p), λ e. absurd (omega (arith, b.1)), λ e. absurd (omega (arith, b.1)), λ e. absurd (omega (arith, b.1)))
    told _ (text_too_long_lem u h es m cs k c l) r e =
        let q : refusal text_too_long 0 ≡ r = cc in
        let n = same_number q in
        let p : 0 ≡ r.place = ap (λ (x : Refusal). x.place) q in
        (λ e. absurd (omega arith), λ e. absurd (omega arith), λ e f. absurd (omega arith), λ e. (sym p, u, h, es, m, cs, k, c, l), λ e. absurd (omega arith), λ e. absurd (omega arith))
    told _ (line_too_wide_lem x l) r e =
        let q : refusal line_too_wide 0 ≡ r = cc in
        let n = same_number q in
        let p : 0 ≡ r.place = ap (λ (x : Refusal). x.place) q in
        (λ e. absurd (omega arith), λ e. absurd (omega arith), λ e f. absurd (omega arith), λ e. absurd (omega arith), λ e. (sym p, x, l), λ e. absurd (omega arith))
    told _ (judged x l) r e = told_judged r x l e

    tells : (r : Refusal) → answer ≡ Err r → Told r
    tells r e = told answer one_of r e

    refused-at : (reason : Reason) (p : ℕ) → p ≡ 0 → answer ≡ Err (refusal reason 0) → answer ≡ Err (refusal reason p)
    refused-at reason p e a = subst (λ (q : ℕ). answer ≡ Err (refusal reason q)) (sym e) a

    pub row_font : (r : Refusal) → number_of r.reason ≤ number_of too_many_characters → answer ≡ Err r ↔ FontFor r
    row_font r l = (λ e. (tells r e).0 l, λ w. gives _ (font_refused w.0 r w.1))

    pub row_9 : (p : ℕ) → answer ≡ Err (refusal area_too_small p) ↔ ((p ≡ 0) × (size < min_scratch))
    row_9 p = (λ e. (tells _ e).1 refl, λ w. refused-at area_too_small p w.0 (gives _ (scratch_small w.1)))

    pub row-control : (r : Refusal) → number_of control_file_too_long ≤ number_of r.reason → number_of r.reason ≤ number_of too_many_commands → answer ≡ Err r ↔ ControlFor r
    row-control r u v = (λ e. (tells r e).2 u v, λ w. gives _ (control-refused w.0 w.1 w.2 w.3 r w.4))

    pub row_15 : (p : ℕ) → answer ≡ Err (refusal text_too_long p) ↔ TooLong p
    row_15 p = (λ e. (tells _ e).3 refl, λ w. refused-at text_too_long p w.0 (gives _ (text_too_long_lem w.1 w.2 w.3 w.4 w.5 w.6 w.7 w.8)))

    pub row_16 : (p : ℕ) → answer ≡ Err (refusal line_too_wide p) ↔ TooWide p
    row_16 p = (λ e. (tells _ e).4 refl, λ w. refused-at line_too_wide p w.0 (gives _ (line_too_wide_lem w.1 w.2)))

    pub row_25 : (p : ℕ) → answer ≡ Err (refusal wrong_length p) ↔ WrongList p
    row_25 p = (λ e. (tells _ e).5 refl, λ w. refused-at wrong_length p w.0 (gives _ (judged w.1 w.2) ∙ (refused_exactly (right_by w.1) (drawing_by w.1) overlaps figure (refusal wrong_length 0)).1 (refl, w.3)))

  -- What `draw` puts out, with the overlaps of its trace, is accepted.
  pub own_drawing : (room w : ℕ) (n : Counts) → lined_answer (draw_lined size s control text) room ≡ Drawn w n →
      (x : CheckRead) × (drawing_checked size s control text (right_by x) (bytes_of (draw_lined size s control text) room) ≡ Ok Accepted)
  own_drawing room w n e =
      let v = (drawn.row_drawn size s control text room w n).0 e in
      let x : CheckRead = record { enough = v.4.0; header = v.0; characters = v.1; font_read = v.4.1; commands = v.2; stages = v.3; control-read = v.4.2; short = v.5 } in
      let b = drawn.bytes_are size s control text room (drawn.files size s control text room v.0 v.1 v.2 v.3 v.4) v.5 v.6 v.7 in
      (x, ap (λ (figure : List ℕ). drawing_checked size s control text (right_by x) figure) b ∙ (accepted (right_by x) (drawing_by x)).1 (x, v.6, refl, refl))
