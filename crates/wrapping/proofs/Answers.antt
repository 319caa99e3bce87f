-- Each answer of drawing in lines is given exactly when document 02 says so: the answer is one of those named here, and what is named for an answer gives it.
-- Assumes nothing.
use mathlib.Core.Path.{◌≡◌, refl, sym, ap, ◌∙◌, subst}
use mathlib.Core.Bool.{Bool, true, false, not, cond, ◌&&◌}
use mathlib.Core.List.{List}
use mathlib.Core.Logic.{◌⊎◌, inl, inr, ⊎_elim}
use Prim.Native.Nat.{ℕ, ◌≤◌, ◌<◌}
use native.Mathlib.Omega.{arith}
use lib.Dec.{ltb}
use lib.ListN.{length, get_or}
use borrow.Author.Tests.{lt-ltb, le-ltb, ltb-true, ltb-false, not-true, not-false}
use Rattle.ground.specs.Limits.{max_line_width, max_text, min_lines, min_scratch}
use Rattle.ground.specs.Refusals.{refusal, number_of, area_too_small, text_too_long, line_too_wide, bad_shape, character_too_wide}
use Rattle.ground.specs.declared.refusals.Refusal.{Refusal}
use Rattle.ground.proofs.Tests.{and_left, and_right, or_left, or_right, below_or_not}
use Rattle.blocks.specs.Block.{Block}
use Rattle.header.specs.declared.Header.{Header}
use Rattle.chars.specs.declared.Entry.{Entry}
use Rattle.font.specs.Font as font
use Rattle.font.proofs.ReadingLaws.{font_refusal}
use Rattle.source.specs.declared.Counts.{Counts}
use Rattle.source.specs.Source.{Choice, Source, font_source}
use Rattle.flc.specs.declared.Command.{Command}
use Rattle.flc.specs.Control as flc
use Rattle.flc.proofs.RefusalLaws.{control-refusal}
use Rattle.drawing.specs.Drawing.{byte_choice, mode_of, font_counts}
use Rattle.wrapping.specs.declared.WrapAnswer.{WrapAnswer}
use Rattle.wrapping.specs.declared.WrapAnswer.TheVariants.{Wrapped, Refused}
use Rattle.breaks.specs.Words.{in_word}
use Rattle.breaks.specs.Breaking.{Span, spans_of}
use Rattle.spans.specs.Spans.{line_by, wide_in, drawings, choice_width, too_wide, first_wider}
use Rattle.wrapping.specs.Wrapping.{Wrap, wrapped, unwrapped, wrap_text, bad_limit, wrap_tested, wrap_by, wrap_of, draw_wrapped, wrap_in, wrap_answer}
use Rattle.breaks.proofs.Largest.{run_at, run_end}
use Rattle.wrapping.proofs.OrderLaws.{text-wider, text-fits, tested_long, tested_limit, tested_text, limit_large, read-wrapped, firsts-small, ends-small, scratch_small, areas_enough}

-- 19: "the first text character other than byte 32 whose FIGcharacter, after mapping and stand-in, is itself wider than the limit".
module _ (source : Source) (cs : List Command) (k limit : ℕ) (text : List ℕ) where
  abbrev choice_at : ℕ → Choice
  choice_at p = byte_choice source cs k (get_or text p 0)

  abbrev passes : ℕ → Bool
  passes x = not (too_wide limit x (byte_choice source cs k x))

  pub wider-at : first_wider source cs k limit text < length text → (in_word (get_or text (first_wider source cs k limit text) 0) ≡ true) × (limit < choice_width (choice_at (first_wider source cs k limit text)))
  unfolding first_wider
  wider-at l =
      let p = first_wider source cs k limit text in
      let t = not-false (too_wide limit (get_or text p 0) (choice_at p)) (run_end passes text l) in
      (and_left (in_word (get_or text p 0)) _ t, ltb-true limit (choice_width (choice_at p)) (and_right (in_word (get_or text p 0)) (ltb limit (choice_width (choice_at p))) t))

  pub none_before : (p : ℕ) → p < first_wider source cs k limit text → in_word (get_or text p 0) ≡ true → choice_width (choice_at p) ≤ limit
  unfolding first_wider
  none_before p l v =
      let u = not-true (too_wide limit (get_or text p 0) (choice_at p)) (run_at passes text p l) in
      ltb-false limit (choice_width (choice_at p)) (sym (ap (λ (q : Bool). q && ltb limit (choice_width (choice_at p))) v) ∙ u)

module _ (firstRoom endRoom size : ℕ) (s control : List ℕ) (limit : ℕ) (text : List ℕ) (room : ℕ) where
  -- Not 9 for a working area.
  pub record Enough : Type 0 where
    pub firsts_enough : min_lines ≤ firstRoom
    pub ends_enough : min_lines ≤ endRoom
    pub scratch_enough : min_scratch ≤ size

  -- Nor a refusal of a file.
  pub record FilesRead : Type 0 where
    pub enough : Enough
    pub header : Header
    pub characters : List Entry
    pub font_read : font.reading s ≡ font.says header characters
    pub commands : List Command
    pub stages : ℕ
    pub control-read : flc.control control ≡ flc.reads commands stages

  -- Nor 15, nor 17.
  pub record LimitGood : Type 0 where
    pub short : length text ≤ max_text
    pub from_1 : 1 ≤ limit
    pub to_1000 : limit ≤ max_line_width

  module _ (x : FilesRead) where
    abbrev source-by : Source
    source-by = font_source s x.characters

    abbrev pub line_with : List ℕ → Block
    line_with = line_by (mode_of x.header) x.header.height source-by x.commands x.stages

    -- The first place that is too wide, the lines, the bytes of their drawings, and the counts of the whole text.
    abbrev pub wider_by : ℕ
    wider_by = first_wider source-by x.commands x.stages limit text

    abbrev pub lines_by : List Span
    lines_by = spans_of (wide_in line_with text) limit text

    abbrev pub bytes_by : List ℕ
    bytes_by = drawings (mode_of x.header).hardblank.0 x.header.height line_with text lines_by

    abbrev pub counts_by : Counts
    counts_by = font_counts s x.characters x.commands x.stages text

  -- "9 (firsts or ends under 1,024 entries, scratch under 32,000), font, control, 15, .. 17 (limit outside 1 to 1,000), 19, 9 (out)", 19 at its place; otherwise
  -- how many lines, and the counts.
  pub data WrapsTo : WrapAnswer → Type 0 where
    areas_small : (firstRoom < min_lines) ⊎ ((endRoom < min_lines) ⊎ (size < min_scratch)) → WrapsTo (Refused (refusal area_too_small 0))
    font_refused : Enough → (r : Refusal) → font.reading s ≡ font.refuses r → WrapsTo (Refused r)
    control-refused : Enough → (h : Header) (es : List Entry) → font.reading s ≡ font.says h es → (r : Refusal) → flc.control control ≡ flc.refuses r → WrapsTo (Refused r)
    text_too_long_lem : FilesRead → max_text < length text → WrapsTo (Refused (refusal text_too_long 0))
    limit_bad : FilesRead → length text ≤ max_text → (limit < 1) ⊎ (max_line_width < limit) → WrapsTo (Refused (refusal bad_shape 0))
    character_wide : (x : FilesRead) → LimitGood → wider_by x < length text → WrapsTo (Refused (refusal character_too_wide (wider_by x)))
    output-small : (x : FilesRead) → LimitGood → length text ≤ wider_by x → room < length (bytes_by x) → WrapsTo (Refused (refusal area_too_small 0))
    wraps : (x : FilesRead) → LimitGood → length text ≤ wider_by x → length (bytes_by x) ≤ room → WrapsTo (Wrapped (length (lines_by x)) (counts_by x))

  abbrev pub all_told : Wrap
  all_told = draw_wrapped firstRoom endRoom size s control limit text

  abbrev pub answer : WrapAnswer
  answer = wrap_answer (wrap_in room all_told)

  told_as : (w : Wrap) → all_told ≡ w → answer ≡ wrap_answer (wrap_in room w)
  told_as w e = ap (λ (z : Wrap). wrap_answer (wrap_in room z)) e

  refused_as : (r : Refusal) → all_told ≡ unwrapped r → answer ≡ Refused r
  unfolding wrap_in
  refused_as r e = told_as (unwrapped r) e

  past_areas : Enough → all_told ≡ wrap_of s control limit text
  past_areas u = areas_enough s control limit text firstRoom endRoom size u.firsts_enough u.ends_enough u.scratch_enough

  small_areas : (firstRoom < min_lines) ⊎ ((endRoom < min_lines) ⊎ (size < min_scratch)) → all_told ≡ unwrapped (refusal area_too_small 0)
  small_areas (inl l) = firsts-small s control limit text firstRoom endRoom size l
  small_areas (inr (inl l)) = ends-small s control limit text firstRoom endRoom size l
  small_areas (inr (inr l)) = scratch_small s control limit text firstRoom endRoom size l

  bad : (limit < 1) ⊎ (max_line_width < limit) → bad_limit limit ≡ true
  bad (inl l) = or_left (ltb limit 1) (ltb max_line_width limit) (lt-ltb limit 1 l)
  bad (inr l) = or_right (ltb limit 1) (ltb max_line_width limit) (lt-ltb max_line_width limit l)

  good : LimitGood → bad_limit limit ≡ false
  good g = sym (limit_large limit g.from_1) ∙ le-ltb max_line_width limit g.to_1000

  module _ (x : FilesRead) where
    read : all_told ≡ wrap_tested (mode_of x.header) x.header.height (source-by x) x.commands x.stages limit text
    read = past_areas x.enough ∙ read-wrapped s control limit text x.header x.characters x.commands x.stages x.font_read x.control-read

    by-text : LimitGood → all_told ≡ wrap_text (mode_of x.header) x.header.height (source-by x) x.commands x.stages limit text
    by-text g = read ∙ tested_text (mode_of x.header) x.header.height (source-by x) x.commands x.stages limit text g.short (good g)

    by_lines : LimitGood → length text ≤ wider_by x → all_told ≡ wrapped (lines_by x) (bytes_by x) (counts_by x)
    by_lines g n = by-text g ∙ text-fits (mode_of x.header) x.header.height (source-by x) x.commands x.stages limit text n

    by-room : LimitGood → length text ≤ wider_by x → (t : Bool) → ltb room (length (bytes_by x)) ≡ t → answer ≡ wrap_answer (cond t (unwrapped (refusal area_too_small 0)) (wrapped (lines_by x) (bytes_by x) (counts_by x)))
    unfolding wrap_in
    by-room g n t e = told_as _ (by_lines g n) ∙ ap (λ (b : Bool). wrap_answer (cond b (unwrapped (refusal area_too_small 0)) (wrapped (lines_by x) (bytes_by x) (counts_by x)))) e

  -- Each of these gives its answer,
  pub gives : (a : WrapAnswer) → WrapsTo a → answer ≡ a
  unfolding wrap_of
  gives _ (areas_small l) = refused_as _ (small_areas l)
  gives _ (font_refused u r f) = refused_as r (past_areas u ∙ ap (λ (z : font.FontReading). wrap_by s z (flc.control control) limit text) f)
  gives _ (control-refused u h es f r c) =
      refused_as r (past_areas u ∙ ap (λ (z : font.FontReading). wrap_by s z (flc.control control) limit text) f ∙ ap (λ (z : flc.ControlReading). wrap_by s (font.says h es) z limit text) c)
  gives _ (text_too_long_lem x l) = refused_as _ (read x ∙ tested_long (mode_of x.header) x.header.height (source-by x) x.commands x.stages limit text l)
  gives _ (limit_bad x l m) = refused_as _ (read x ∙ tested_limit (mode_of x.header) x.header.height (source-by x) x.commands x.stages limit text l (bad m))
  gives _ (character_wide x g l) = refused_as _ (by-text x g ∙ text-wider (mode_of x.header) x.header.height (source-by x) x.commands x.stages limit text l)
  gives _ (output-small x g n l) = by-room x g n true (lt-ltb room (length (bytes_by x)) l)
  gives _ (wraps x g n l) = by-room x g n false (le-ltb room (length (bytes_by x)) l)

  -- and the answer is one of them.
  pub one_of : WrapsTo answer
  one_of =
      ⊎_elim (λ l. as_told _ (areas_small (inl l)))
      (λ (f : min_lines ≤ firstRoom).
      ⊎_elim (λ l. as_told _ (areas_small (inr (inl l))))
      (λ (g : min_lines ≤ endRoom).
      ⊎_elim (λ l. as_told _ (areas_small (inr (inr l)))) (λ (z : min_scratch ≤ size). by_font (record { firsts_enough = f; ends_enough = g; scratch_enough = z }) (font.reading s) refl)
      (below_or_not size min_scratch))
      (below_or_not endRoom min_lines))
      (below_or_not firstRoom min_lines)
    where
      as_told : (a : WrapAnswer) → WrapsTo a → WrapsTo answer
      as_told a d = subst WrapsTo (sym (gives a d)) d

      by-output : (x : FilesRead) → LimitGood → length text ≤ wider_by x → WrapsTo answer
      by-output x g n = ⊎_elim (λ l. as_told _ (output-small x g n l)) (λ l. as_told _ (wraps x g n l)) (below_or_not room (length (bytes_by x)))

      by_width : (x : FilesRead) → LimitGood → WrapsTo answer
      by_width x g = ⊎_elim (λ l. as_told _ (character_wide x g l)) (λ l. by-output x g l) (below_or_not (wider_by x) (length text))

      by_limit : (x : FilesRead) → length text ≤ max_text → WrapsTo answer
      by_limit x t =
          ⊎_elim (λ l. as_told _ (limit_bad x t (inl l)))
          (λ (l : 1 ≤ limit). ⊎_elim (λ m. as_told _ (limit_bad x t (inr m))) (λ m. by_width x (record { short = t; from_1 = l; to_1000 = m })) (below_or_not max_line_width limit))
          (below_or_not limit 1)

      by_length : FilesRead → WrapsTo answer
      by_length x = ⊎_elim (λ l. as_told _ (text_too_long_lem x l)) (λ l. by_limit x l) (below_or_not max_text (length text))

      by-control : Enough → (h : Header) (es : List Entry) → font.reading s ≡ font.says h es → (c : flc.ControlReading) → flc.control control ≡ c → WrapsTo answer
      by-control u h es f (flc.refuses r) c = as_told _ (control-refused u h es f r c)
      by-control u h es f (flc.reads cs k) c = by_length (record { enough = u; header = h; characters = es; font_read = f; commands = cs; stages = k; control-read = c })

      by_font : Enough → (f : font.FontReading) → font.reading s ≡ f → WrapsTo answer
      by_font u (font.refuses r) f = as_told _ (font_refused u r f)
      by_font u (font.says h es) f = by-control u h es f (flc.control control) refl

  -- "16 is not given by this call."
  abbrev number_in : WrapAnswer → ℕ
  number_in (Refused r) = number_of r.reason
  number_in (Wrapped n counts) = 0

  pub never_16 : number_in answer ≡ number_of line_too_wide → ⊥
  never_16 e = go answer one_of e
    where
      go : (a : WrapAnswer) → WrapsTo a → number_in a ≡ number_of line_too_wide → ⊥
      go _ (areas_small l) e = omega arith
      go _ (font_refused u r f) e = omega (arith, (font_refusal s r f).1, e)
      go _ (control-refused u h es f r c) e = omega (arith, (control-refusal control r c).1, e)
      go _ (text_too_long_lem x l) e = omega arith
      go _ (limit_bad x l m) e = omega arith
      go _ (character_wide x g l) e = omega arith
      go _ (output-small x g n l) e = omega arith
      go _ (wraps x g n l) e = omega arith
