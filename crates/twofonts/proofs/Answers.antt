-- Each answer of a drawing by two fonts is given exactly when document 02, Q-7, says so: the answer is one of those named here, and what is named for an answer gives it.
-- Assumes nothing.
use mathlib.Core.Path.{◌≡◌, refl, sym, ap, ap₂, ◌∙◌, subst}
use mathlib.Core.Bool.{Bool, true, false, cond}
use mathlib.Core.List.{List}
use mathlib.Core.Logic.{◌↔◌, ◌⊎◌, inl, inr, ⊎_elim}
use Prim.Native.Nat.{ℕ, ◌+◌, ◌*◌, ◌≤◌, ◌<◌}
use native.Mathlib.Omega.{arith}
use lib.Dec.{ltb}
use lib.ListN.{length}
use borrow.Author.Tests.{ltb-true, ltb-false}
use Rattle.ground.specs.Limits.{max_line_width, max_text, min_scratch}
use Rattle.ground.specs.Refusals.{refusal, number_of, too_many_characters, area_too_small, control_file_too_long, too_many_commands, text_too_long, line_too_wide, fonts_differ}
use Rattle.ground.specs.declared.refusals.Reason.{Reason}
use Rattle.ground.specs.declared.refusals.Refusal.{Refusal}
use Rattle.blocks.specs.Block.{Block}
use Rattle.header.specs.declared.Header.{Header}
use Rattle.chars.specs.declared.Entry.{Entry}
use Rattle.font.specs.Font.{FontReading, says, refuses, reading}
use Rattle.font.proofs.ReadingLaws.{font_refusal}
use Rattle.flc.specs.declared.Command.{Command}
use Rattle.flc.specs.Control as flc
use Rattle.flc.proofs.RefusalLaws.{control-refusal}
use Rattle.source.specs.declared.Counts.{Counts}
use Rattle.source.specs.Source.{two_source}
use Rattle.source.specs.Counting.{counts_of}
use Rattle.drawing.specs.declared.DrawAnswer.{DrawAnswer}
use Rattle.drawing.specs.declared.DrawAnswer.TheVariants.{Drawn, Refused}
use Rattle.drawing.specs.Drawing.{text_codes, line_of, mode_of, Lined, unlined, lined_from, lined_answer}
use Rattle.drawing.proofs.SourceAnswers as source
use Rattle.twofonts.specs.Fonts.{Fonts, fonts, unfit, alike, fonts_by, fonts_of}
use Rattle.twofonts.specs.TwoDrawing.{two_by, two_of, two_lined}
use Rattle.twofonts.proofs.FontsLaws.{scratch_small, scratch_enough, unfit-lined}
use Rattle.twofonts.proofs.RowLaws.{BothSay, say_fonts}

-- Why two fonts are refused: "the first font's, the second's, then 24, heights or hardblanks differ".
pub data Unfit (s t : List ℕ) : Refusal → Type 0 where
  first-refused : (r : Refusal) → reading s ≡ refuses r → Unfit s t r
  second-refused : (h : Header) (es : List Entry) → reading s ≡ says h es → (r : Refusal) → reading t ≡ refuses r → Unfit s t r
  differ : (h k : Header) (es fs : List Entry) → reading s ≡ says h es → reading t ≡ says k fs → alike h k ≡ false → Unfit s t (refusal fonts_differ 0)

pub unfit-is : (s t : List ℕ) (r : Refusal) → Unfit s t r → fonts_of s t ≡ unfit r
unfolding fonts_of
unfit-is s t _ (first-refused r p) = ap (λ (m : FontReading). fonts_by m (reading t)) p
unfit-is s t _ (second-refused h es p r q) = λ i. fonts_by (p i) (q i)
unfit-is s t _ (differ h k es fs p q e) = (λ i. fonts_by (p i) (q i)) ∙ ap (λ (b : Bool). cond b (fonts h es fs) (unfit (refusal fonts_differ 0))) e

-- Two fonts are refused, or both are read and alike.
pub data Both (s t : List ℕ) : Type 0 where
  refused : (r : Refusal) → Unfit s t r → Both s t
  read : (h : Header) (es fs : List Entry) → BothSay s t h es fs → Both s t

pub both : (s t : List ℕ) → Both s t
both s t = go (reading s) refl (reading t) refl
  where
    by : (h k : Header) (es fs : List Entry) → reading s ≡ says h es → reading t ≡ says k fs → (b : Bool) → alike h k ≡ b → Both s t
    by h k es fs p q true e = read h es fs (record { other = k; first = p; second = q; equal = e })
    by h k es fs p q false e = refused _ (differ h k es fs p q e)

    go : (m : FontReading) → reading s ≡ m → (n : FontReading) → reading t ≡ n → Both s t
    go (refuses r) p n q = refused r (first-refused r p)
    go (says h es) p (refuses r) q = refused r (second-refused h es p r q)
    go (says h es) p (says k fs) q = by h k es fs p q (alike h k) refl

module _ (size : ℕ) (s t control text : List ℕ) (room : ℕ) where
  abbrev From : Header → List Entry → List Entry → DrawAnswer → Type 0
  From h es fs = source.DrawsFrom (mode_of h) h.height (two_source s t es fs) control text room

  -- "9 (scratch), first's, second's, 24, the control file's, 15, .. 16, 9 (out)"; otherwise the width and the counts.
  pub data DrawsTo : DrawAnswer → Type 0 where
    scratch_refused : size < min_scratch → DrawsTo (Refused (refusal area_too_small 0))
    fonts-refused : min_scratch ≤ size → (r : Refusal) → Unfit s t r → DrawsTo (Refused r)
    from_both : min_scratch ≤ size → (h : Header) (es fs : List Entry) → BothSay s t h es fs → (a : DrawAnswer) → From h es fs a → DrawsTo a

  abbrev pub answer : DrawAnswer
  answer = lined_answer (two_lined size s t control text) room

  refused-by : (r : Refusal) → two_lined size s t control text ≡ unlined r → answer ≡ Refused r
  unfolding lined_answer
  refused-by r e = ap (λ (x : Lined). lined_answer x room) e

  by-source : min_scratch ≤ size → (h : Header) (es fs : List Entry) → BothSay s t h es fs → two_lined size s t control text ≡ lined_from (mode_of h) h.height (two_source s t es fs) (flc.control control) text
  unfolding two_of
  by-source u h es fs x = scratch_enough s t control text size u ∙ ap (λ (f : Fonts). two_by s t f (flc.control control) text) (say_fonts s t h es fs x)

  -- Each of these gives its answer,
  pub gives : (a : DrawAnswer) → DrawsTo a → answer ≡ a
  gives _ (scratch_refused u) = refused-by _ (scratch_small s t control text size u)
  gives _ (fonts-refused u r x) = refused-by r (scratch_enough s t control text size u ∙ unfit-lined s t r (unfit-is s t r x) control text)
  gives _ (from_both u h es fs x a d) = ap (λ (y : Lined). lined_answer y room) (by-source u h es fs x) ∙ source.gives (mode_of h) h.height (two_source s t es fs) control text room a d

  -- and the answer is one of them.
  pub one_of : DrawsTo answer
  one_of = by_size (ltb size min_scratch) refl
    where
      as_told : (a : DrawAnswer) → DrawsTo a → DrawsTo answer
      as_told a d = subst DrawsTo (sym (gives a d)) d

      by_both : min_scratch ≤ size → Both s t → DrawsTo answer
      by_both u (refused r x) = as_told _ (fonts-refused u r x)
      by_both u (read h es fs x) = as_told _ (from_both u h es fs x _ (source.one_of (mode_of h) h.height (two_source s t es fs) control text room))

      by_size : (b : Bool) → ltb size min_scratch ≡ b → DrawsTo answer
      by_size true e = as_told _ (scratch_refused (ltb-true size min_scratch e))
      by_size false e = by_both (ltb-false size min_scratch e) (both s t)

  -- Each answer by itself: what it is given for. The scratch is large enough, both fonts are read and alike, and the control file says this.
  abbrev line_for : Header → List Entry → List Entry → List Command → ℕ → Block
  line_for h es fs cs k = line_of (mode_of h) h.height (two_source s t es fs) (text_codes cs k text)

  abbrev Read : Header → List Entry → List Entry → List Command → ℕ → Type 0
  Read h es fs cs k = (min_scratch ≤ size) × BothSay s t h es fs × (flc.control control ≡ flc.reads cs k)

  abbrev FontsFor : Refusal → Type 0
  FontsFor r = (min_scratch ≤ size) × ((reading s ≡ refuses r) ⊎ ((h : Header) × (es : List Entry) × (reading s ≡ says h es) × (reading t ≡ refuses r)))

  abbrev Differ : ℕ → Type 0
  Differ p = (p ≡ 0) × (min_scratch ≤ size) × (h : Header) × (k : Header) × (es : List Entry) × (fs : List Entry) × (reading s ≡ says h es) × (reading t ≡ says k fs) × (alike h k ≡ false)

  abbrev ControlFor : Refusal → Type 0
  ControlFor r = (min_scratch ≤ size) × (h : Header) × (es : List Entry) × (fs : List Entry) × BothSay s t h es fs × (flc.control control ≡ flc.refuses r)

  abbrev TooLong : ℕ → Type 0
  TooLong p = (p ≡ 0) × (h : Header) × (es : List Entry) × (fs : List Entry) × (cs : List Command) × (k : ℕ) × (Read h es fs cs k) × (max_text < length text)

  abbrev TooWide : ℕ → Type 0
  TooWide p = (p ≡ 0) × (h : Header) × (es : List Entry) × (fs : List Entry) × (cs : List Command) × (k : ℕ) × (Read h es fs cs k) × (length text ≤ max_text) × (max_line_width < (line_for h es fs cs k).width)

  abbrev NoRoom : Type 0
  NoRoom = (h : Header) × (es : List Entry) × (fs : List Entry) × (cs : List Command) × (k : ℕ) × (Read h es fs cs k) × (length text ≤ max_text) × ((line_for h es fs cs k).width ≤ max_line_width) × (room < h.height * ((line_for h es fs cs k).width + 1))

  abbrev TooSmall : ℕ → Type 0
  TooSmall p = (p ≡ 0) × ((size < min_scratch) ⊎ NoRoom)

  abbrev DrawnAs : ℕ → Counts → Type 0
  DrawnAs w n =
      (h : Header) × (es : List Entry) × (fs : List Entry) × (cs : List Command) × (k : ℕ) × (Read h es fs cs k) × (length text ≤ max_text) × ((line_for h es fs cs k).width ≤ max_line_width) ×
      (h.height * ((line_for h es fs cs k).width + 1) ≤ room) × (w ≡ (line_for h es fs cs k).width) × (n ≡ counts_of (two_source s t es fs) (text_codes cs k text))

  abbrev Told : DrawAnswer → Type 0
  Told (Drawn w n) = DrawnAs w n
  Told (Refused r) =
      (number_of r.reason ≤ number_of too_many_characters → FontsFor r) ×
      (number_of r.reason ≡ number_of fonts_differ → Differ r.place) ×
      (number_of control_file_too_long ≤ number_of r.reason → number_of r.reason ≤ number_of too_many_commands → ControlFor r) ×
      (number_of r.reason ≡ number_of text_too_long → TooLong r.place) ×
      (number_of r.reason ≡ number_of line_too_wide → TooWide r.place) ×
      (number_of r.reason ≡ number_of area_too_small → TooSmall r.place)

  told-unfit : min_scratch ≤ size → (r : Refusal) → Unfit s t r → Told (Refused r)
  told-unfit u _ (first-refused r p) =
      let b = font_refusal s r p in
      (λ e. (u, inl p), λ e. absurd (omega (arith, b.1)), λ e f. absurd (omega (arith, b.1)), λ e. absurd (omega (arith, b.1)), λ e. absurd (omega (arith, b.1)), λ e. absurd (omega (arith, b.1)))
  told-unfit u _ (second-refused h es p r q) =
      let b = font_refusal t r q in
      (λ e. (u, inr (h, es, p, q)), λ e. absurd (omega (arith, b.1)), λ e f. absurd (omega (arith, b.1)), λ e. absurd (omega (arith, b.1)), λ e. absurd (omega (arith, b.1)), λ e. absurd (omega (arith, b.1)))
  told-unfit u _ (differ h k es fs p q x) =
      (λ e. absurd (omega arith), λ e. (refl, u, h, k, es, fs, p, q, x), λ e f. absurd (omega arith), λ e. absurd (omega arith), λ e. absurd (omega arith), λ e. absurd (omega arith))

  told_from : min_scratch ≤ size → (h : Header) (es fs : List Entry) → BothSay s t h es fs → (a : DrawAnswer) → From h es fs a → Told a
  told_from u h es fs x _ (source.control-refused r c) =
      let b = control-refusal control r c in
      (λ e. absurd (omega (arith, b.0)), λ e. absurd (omega (arith, b.1)), λ e f. (u, h, es, fs, x, c), λ e. absurd (omega (arith, b.1)), λ e. absurd (omega (arith, b.1)), λ e. absurd (omega (arith, b.0)))
  told_from u h es fs x _ (source.text_too_long_lem cs k c l) =
      (λ e. absurd (omega arith), λ e. absurd (omega arith), λ e f. absurd (omega arith), λ e. (refl, h, es, fs, cs, k, (u, x, c), l), λ e. absurd (omega arith), λ e. absurd (omega arith))
  told_from u h es fs x _ (source.line_too_wide_lem cs k c l w) =
      (λ e. absurd (omega arith), λ e. absurd (omega arith), λ e f. absurd (omega arith), λ e. absurd (omega arith), λ e. (refl, h, es, fs, cs, k, (u, x, c), l, w), λ e. absurd (omega arith))
  told_from u h es fs x _ (source.output-small cs k c l w m) =
      (λ e. absurd (omega arith), λ e. absurd (omega arith), λ e f. absurd (omega arith), λ e. absurd (omega arith), λ e. absurd (omega arith), λ e. (refl, inr (h, es, fs, cs, k, (u, x, c), l, w, m)))
  told_from u h es fs x _ (source.draws cs k c l w m) = (h, es, fs, cs, k, (u, x, c), l, w, m, refl, refl)

  told : (a : DrawAnswer) → DrawsTo a → Told a
  told _ (scratch_refused u) =
      (λ e. absurd (omega arith), λ e. absurd (omega arith), λ e f. absurd (omega arith), λ e. absurd (omega arith), λ e. absurd (omega arith), λ e. (refl, inl u))
  told _ (fonts-refused u r x) = told-unfit u r x
  told _ (from_both u h es fs x a d) = told_from u h es fs x a d

  tells : (a : DrawAnswer) → answer ≡ a → Told a
  tells a e = told a (subst DrawsTo e one_of)

  refused-at : (why : Reason) (p : ℕ) → p ≡ 0 → answer ≡ Refused (refusal why 0) → answer ≡ Refused (refusal why p)
  refused-at why p e a = subst (λ (q : ℕ). answer ≡ Refused (refusal why q)) (sym e) a

  pub row-fonts : (r : Refusal) → number_of r.reason ≤ number_of too_many_characters → answer ≡ Refused r ↔ FontsFor r
  row-fonts r l = (λ e. (tells _ e).0 l, λ w. ⊎_elim (λ p. gives _ (fonts-refused w.0 r (first-refused r p))) (λ v. gives _ (fonts-refused w.0 r (second-refused v.0 v.1 v.2 r v.3))) w.1)

  pub row_24 : (p : ℕ) → answer ≡ Refused (refusal fonts_differ p) ↔ Differ p
  row_24 p = (λ e. (tells _ e).1 refl, λ w. refused-at fonts_differ p w.0 (gives _ (fonts-refused w.1 _ (differ w.2 w.3 w.4 w.5 w.6 w.7 w.8))))

  pub row-control : (r : Refusal) → number_of control_file_too_long ≤ number_of r.reason → number_of r.reason ≤ number_of too_many_commands → answer ≡ Refused r ↔ ControlFor r
  row-control r u v = (λ e. (tells _ e).2 u v, λ w. gives _ (from_both w.0 w.1 w.2 w.3 w.4 _ (source.control-refused r w.5)))

  pub row_15 : (p : ℕ) → answer ≡ Refused (refusal text_too_long p) ↔ TooLong p
  row_15 p = (λ e. (tells _ e).3 refl, λ w. refused-at text_too_long p w.0 (gives _ (from_both w.6.0 w.1 w.2 w.3 w.6.1 _ (source.text_too_long_lem w.4 w.5 w.6.2 w.7))))

  pub row_16 : (p : ℕ) → answer ≡ Refused (refusal line_too_wide p) ↔ TooWide p
  row_16 p = (λ e. (tells _ e).4 refl, λ w. refused-at line_too_wide p w.0 (gives _ (from_both w.6.0 w.1 w.2 w.3 w.6.1 _ (source.line_too_wide_lem w.4 w.5 w.6.2 w.7 w.8))))

  pub row_9 : (p : ℕ) → answer ≡ Refused (refusal area_too_small p) ↔ TooSmall p
  row_9 p = (
    λ e. (tells _ e).5 refl,
    λ w. refused-at area_too_small p w.0
        (⊎_elim (λ u. gives _ (scratch_refused u)) (λ v. gives _ (from_both v.5.0 v.0 v.1 v.2 v.5.1 _ (source.output-small v.3 v.4 v.5.2 v.6 v.7 v.8))) w.1),
  )

  pub row_drawn : (w : ℕ) (n : Counts) → answer ≡ Drawn w n ↔ DrawnAs w n
  row_drawn w n = (λ e. tells _ e, λ v. gives _ (from_both v.5.0 v.0 v.1 v.2 v.5.1 _ (source.draws v.3 v.4 v.5.2 v.6 v.7 v.8)) ∙ ap₂ Drawn (sym v.9) (sym v.10))
