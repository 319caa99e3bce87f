-- The rows of the refusal table for a text in lines: what each answer is given for, spelled out.
-- Assumes nothing.
use mathlib.Core.Path.{◌≡◌, refl, sym, ◌∙◌, subst}
use mathlib.Core.Bool.{true}
use mathlib.Core.List.{List}
use mathlib.Core.Logic.{◌↔◌, ◌⊎◌, inl, inr, ⊎_elim}
use Prim.Native.Nat.{ℕ, ◌≤◌, ◌<◌}
use native.Mathlib.Omega.{arith}
use native.Mathlib.Decide.{dec_lt}
use lib.ListN.{length, get_or}
use Rattle.ground.specs.Limits.{max_line_width, max_text, min_lines, min_scratch}
use Rattle.ground.specs.Refusals.{refusal, number_of, too_many_characters, area_too_small, control_file_too_long, too_many_commands, text_too_long, bad_shape, character_too_wide}
use Rattle.ground.specs.declared.refusals.Reason.{Reason}
use Rattle.ground.specs.declared.refusals.Refusal.{Refusal}
use Rattle.header.specs.declared.Header.{Header}
use Rattle.chars.specs.declared.Entry.{Entry}
use Rattle.font.specs.Font as font
use Rattle.font.proofs.ReadingLaws.{font_refusal}
use Rattle.source.specs.declared.Counts.{Counts}
use Rattle.source.specs.Source.{Source, font_source}
use Rattle.flc.specs.declared.Command.{Command}
use Rattle.flc.specs.Control as flc
use Rattle.flc.proofs.RefusalLaws.{control-refusal}
use Rattle.drawing.specs.Drawing.{byte_choice, font_counts, font_line, mode_of}
use Rattle.wrapping.specs.declared.WrapAnswer.{WrapAnswer}
use Rattle.wrapping.specs.declared.WrapAnswer.TheVariants.{Wrapped, Refused}
use Rattle.breaks.specs.Words.{in_word}
use Rattle.breaks.specs.Breaking.{Span, spans_of}
use Rattle.spans.specs.Spans.{wide_in, drawings, choice_width, first_wider}
use Rattle.wrapping.proofs.Answers as answers
use Rattle.wrapping.proofs.Answers.{Enough, FilesRead, LimitGood, WrapsTo, areas_small, font_refused, control-refused, text_too_long_lem, limit_bad, character_wide, output-small, wraps, wider-at, none_before}

-- "A single character other than a blank wider than the limit."
module _ (source : Source) (cs : List Command) (k limit : ℕ) (text : List ℕ) where
  abbrev pub TooWideAt : ℕ → Type 0
  TooWideAt p = (p < length text) × (in_word (get_or text p 0) ≡ true) × (limit < choice_width (byte_choice source cs k (get_or text p 0)))

  -- "The first such one", and none.
  abbrev pub FirstTooWide : ℕ → Type 0
  FirstTooWide p = TooWideAt p × ((q : ℕ) → q < p → TooWideAt q → ⊥)

  abbrev pub NoneTooWide : Type 0
  NoneTooWide = (p : ℕ) → TooWideAt p → ⊥

  abbrev first : ℕ
  first = first_wider source cs k limit text

  not_before : (q : ℕ) → q < first → TooWideAt q → ⊥
  not_before q l t = omega (arith, none_before source cs k limit text q l t.1, t.2)

  pub at_first : first < length text → FirstTooWide first
  at_first l = let w = wider-at source cs k limit text l in ((l, w.0, w.1), not_before)

  pub first-at : (p : ℕ) → FirstTooWide p → p ≡ first
  first-at p w =
      elim (dec_lt p first) [
        | yes l ↦ absurd (not_before p l w.0)
        | no g ↦ elim (dec_lt first p) [
          | yes l ↦ absurd (w.1 first l (at_first (omega (arith, w.0.0))).0)
          | no f ↦ omega arith
        ]
      ]

  pub none-wider : length text ≤ first → NoneTooWide
  none-wider l p t = not_before p (omega (arith, t.0)) t

  pub wider-none : NoneTooWide → length text ≤ first
  wider-none n =
      elim (dec_lt first (length text)) [
        | yes l ↦ absurd (n first (at_first l).0)
        | no g ↦ omega arith
      ]

module _ (firstRoom endRoom size : ℕ) (s control : List ℕ) (limit : ℕ) (text : List ℕ) (room : ℕ) where
  abbrev answer : WrapAnswer
  answer = answers.answer firstRoom endRoom size s control limit text room

  abbrev Known : Type 0
  Known = FilesRead firstRoom endRoom size s control limit text room

  abbrev Due : WrapAnswer → Type 0
  Due a = WrapsTo firstRoom endRoom size s control limit text room a

  gives : (a : WrapAnswer) → Due a → answer ≡ a
  gives = answers.gives firstRoom endRoom size s control limit text room

  -- The lists and the scratch are large enough,
  abbrev Areas : Type 0
  Areas = (min_lines ≤ firstRoom) × (min_lines ≤ endRoom) × (min_scratch ≤ size)

  abbrev enough : Areas → Enough firstRoom endRoom size s control limit text room
  enough a = record { firsts_enough = a.0; ends_enough = a.1; scratch_enough = a.2 }

  areas : Enough firstRoom endRoom size s control limit text room → Areas
  areas u = (u.firsts_enough, u.ends_enough, u.scratch_enough)

  -- and the two files say this.
  abbrev Read : Header → List Entry → List Command → ℕ → Type 0
  Read h es cs k = Areas × (font.reading s ≡ font.says h es) × (flc.control control ≡ flc.reads cs k)

  abbrev files : (h : Header) (es : List Entry) (cs : List Command) (k : ℕ) → Read h es cs k → Known
  files h es cs k r = record { enough = enough r.0; header = h; characters = es; font_read = r.1; commands = cs; stages = k; control-read = r.2 }

  read : (x : Known) → Read x.header x.characters x.commands x.stages
  read x = (areas x.enough, x.font_read, x.control-read)

  -- Neither 15 nor 17.
  abbrev Good : Type 0
  Good = (length text ≤ max_text) × (1 ≤ limit) × (limit ≤ max_line_width)

  abbrev good : Good → LimitGood firstRoom endRoom size s control limit text room
  good g = record { short = g.0; from_1 = g.1; to_1000 = g.2 }

  is_good : LimitGood firstRoom endRoom size s control limit text room → Good
  is_good g = (g.short, g.from_1, g.to_1000)

  -- By these files: the character that is too wide, the lines, and the bytes of their drawings.
  abbrev First : List Entry → List Command → ℕ → ℕ → Type 0
  First es cs k p = FirstTooWide (font_source s es) cs k limit text p

  abbrev None : List Entry → List Command → ℕ → Type 0
  None es cs k = NoneTooWide (font_source s es) cs k limit text

  abbrev lines_for : Header → List Entry → List Command → ℕ → List Span
  lines_for h es cs k = spans_of (wide_in (font_line s h es cs k) text) limit text

  abbrev bytes_for : Header → List Entry → List Command → ℕ → List ℕ
  bytes_for h es cs k = drawings h.hardblank.0 h.height (font_line s h es cs k) text (lines_for h es cs k)

  abbrev FontFor : Refusal → Type 0
  FontFor r = Areas × (font.reading s ≡ font.refuses r)

  abbrev ControlFor : Refusal → Type 0
  ControlFor r = Areas × (h : Header) × (es : List Entry) × (font.reading s ≡ font.says h es) × (flc.control control ≡ flc.refuses r)

  abbrev TooLong : ℕ → Type 0
  TooLong p = (p ≡ 0) × (h : Header) × (es : List Entry) × (cs : List Command) × (k : ℕ) × (Read h es cs k) × (max_text < length text)

  abbrev OutOfRange : ℕ → Type 0
  OutOfRange p =
      (p ≡ 0) × (h : Header) × (es : List Entry) × (cs : List Command) × (k : ℕ) × (Read h es cs k) × (length text ≤ max_text) × ((limit < 1) ⊎ (max_line_width < limit))

  abbrev TooWide : ℕ → Type 0
  TooWide p = (h : Header) × (es : List Entry) × (cs : List Command) × (k : ℕ) × (Read h es cs k) × Good × First es cs k p

  abbrev TooSmall : ℕ → Type 0
  TooSmall p =
      (p ≡ 0) ×
      (((firstRoom < min_lines) ⊎ ((endRoom < min_lines) ⊎ (size < min_scratch))) ⊎
      ((h : Header) × (es : List Entry) × (cs : List Command) × (k : ℕ) × (Read h es cs k) × Good × (None es cs k) × (room < length (bytes_for h es cs k))))

  abbrev WrappedAs : ℕ → Counts → Type 0
  WrappedAs n counts =
      (h : Header) × (es : List Entry) × (cs : List Command) × (k : ℕ) × (Read h es cs k) × Good × (None es cs k) × (length (bytes_for h es cs k) ≤ room) ×
      (n ≡ length (lines_for h es cs k)) × (counts ≡ font_counts s es cs k text)

  -- What a refusal is given for, by its number, and what a success tells.
  abbrev RefusedFor : Refusal → Type 0
  RefusedFor r =
      (number_of r.reason ≤ number_of too_many_characters → FontFor r) ×
      (number_of control_file_too_long ≤ number_of r.reason → number_of r.reason ≤ number_of too_many_commands → ControlFor r) ×
      (number_of r.reason ≡ number_of text_too_long → TooLong r.place) ×
      (number_of r.reason ≡ number_of bad_shape → OutOfRange r.place) ×
      (number_of r.reason ≡ number_of character_too_wide → TooWide r.place) ×
      (number_of r.reason ≡ number_of area_too_small → TooSmall r.place)

  abbrev Told : WrapAnswer → Type 0
  Told (Refused r) = RefusedFor r
  Told (Wrapped n counts) = WrappedAs n counts

  told : (a : WrapAnswer) → Due a → Told a
  unfolding mode_of
  told _ (areas_small u) = (λ e. absurd (omega arith), λ e f. absurd (omega arith), λ e. absurd (omega arith), λ e. absurd (omega arith), λ e. absurd (omega arith), λ e. (refl, inl u))
  told _ (font_refused u r f) =
      let b = (font_refusal s r f).1 in
      (λ e. (areas u, f), λ e g. absurd (omega (arith, b)), λ e. absurd (omega (arith, b)), λ e. absurd (omega (arith, b)), λ e. absurd (omega (arith, b)), λ e. absurd (omega (arith, b)))
  told _ (control-refused u h es f r c) =
      let b = control-refusal control r c in
      (λ e. absurd (omega (arith, b.0)), λ e g. (areas u, h, es, f, c), λ e. absurd (omega (arith, b.1)), λ e. absurd (omega (arith, b.1)), λ e. absurd (omega (arith, b.1)), λ e. absurd (omega (arith, b.0)))
  told _ (text_too_long_lem x t) = (
    λ e. absurd (omega arith),
    λ e f. absurd (omega arith),
    λ e. (refl, x.header, x.characters, x.commands, x.stages, read x, t),
    λ e. absurd (omega arith),
    λ e. absurd (omega arith),
    λ e. absurd (omega arith),
  )
  told _ (limit_bad x t l) = (
    λ e. absurd (omega arith),
    λ e f. absurd (omega arith),
    λ e. absurd (omega arith),
    λ e. (refl, x.header, x.characters, x.commands, x.stages, read x, t, l),
    λ e. absurd (omega arith),
    λ e. absurd (omega arith),
  )
  told _ (character_wide x g l) = (
    λ e. absurd (omega arith),
    λ e f. absurd (omega arith),
    λ e. absurd (omega arith),
    λ e. absurd (omega arith),
    λ e. (x.header, x.characters, x.commands, x.stages, read x, is_good g, at_first _ _ _ _ _ l),
    λ e. absurd (omega arith),
  )
  told _ (output-small x g n m) = (
    λ e. absurd (omega arith),
    λ e f. absurd (omega arith),
    λ e. absurd (omega arith),
    λ e. absurd (omega arith),
    λ e. absurd (omega arith),
    λ e. (refl, inr (x.header, x.characters, x.commands, x.stages, read x, is_good g, none-wider _ _ _ _ _ n, m)),
  )
  told _ (wraps x g n m) = (x.header, x.characters, x.commands, x.stages, read x, is_good g, none-wider _ _ _ _ _ n, m, refl, refl)

  tells : (a : WrapAnswer) → answer ≡ a → Told a
  tells a e = told a (subst (λ (x : WrapAnswer). Due x) e (answers.one_of firstRoom endRoom size s control limit text room))

  refused-at : (reason : Reason) (q p : ℕ) → p ≡ q → answer ≡ Refused (refusal reason q) → answer ≡ Refused (refusal reason p)
  refused-at reason q p e a = subst (λ (j : ℕ). answer ≡ Refused (refusal reason j)) (sym e) a

  -- "9 (firsts or ends under 1,024 entries, scratch under 32,000), font,
  pub row_font : (r : Refusal) → number_of r.reason ≤ number_of too_many_characters → answer ≡ Refused r ↔ FontFor r
  row_font r u = (λ e. (tells (Refused r) e).0 u, λ w. gives _ (font_refused (enough w.0) r w.1))

  -- control,
  pub row-control : (r : Refusal) → number_of control_file_too_long ≤ number_of r.reason → number_of r.reason ≤ number_of too_many_commands → answer ≡ Refused r ↔ ControlFor r
  row-control r u v = (λ e. (tells (Refused r) e).1 u v, λ w. gives _ (control-refused (enough w.0) w.1 w.2 w.3 r w.4))

  -- 15, ..
  pub row_15 : (p : ℕ) → answer ≡ Refused (refusal text_too_long p) ↔ TooLong p
  row_15 p = (λ e. (tells (Refused (refusal text_too_long p)) e).2 refl, λ w. refused-at text_too_long 0 p w.0 (gives _ (text_too_long_lem (files w.1 w.2 w.3 w.4 w.5) w.6)))

  -- 17 (limit outside 1 to 1,000),
  pub row_17 : (p : ℕ) → answer ≡ Refused (refusal bad_shape p) ↔ OutOfRange p
  row_17 p = (λ e. (tells (Refused (refusal bad_shape p)) e).3 refl, λ w. refused-at bad_shape 0 p w.0 (gives _ (limit_bad (files w.1 w.2 w.3 w.4 w.5) w.6 w.7)))

  -- 19,
  pub row_19 : (p : ℕ) → answer ≡ Refused (refusal character_too_wide p) ↔ TooWide p
  row_19 p = (λ e. (tells (Refused (refusal character_too_wide p)) e).4 refl, so)
    where
      so : TooWide p → answer ≡ Refused (refusal character_too_wide p)
      so w =
          let e = first-at (font_source s w.1) w.2 w.3 limit text p w.6 in
          refused-at character_too_wide _ p e (gives _ (character_wide (files w.0 w.1 w.2 w.3 w.4) (good w.5) (omega (arith, e, w.6.0.0))))

  -- 9 (out)."
  pub row_9 : (p : ℕ) → answer ≡ Refused (refusal area_too_small p) ↔ TooSmall p
  unfolding mode_of
  row_9 p = (
    λ e. (tells (Refused (refusal area_too_small p)) e).5 refl,
    λ w. refused-at area_too_small 0 p w.0
        (⊎_elim (λ u. gives _ (areas_small u)) (λ v. gives _ (output-small (files v.0 v.1 v.2 v.3 v.4) (good v.5) (wider-none _ _ _ _ _ v.6) v.7)) w.1),
  )

  -- "Answer: how many lines, and Q-2's two counts of the whole text."
  pub row-wrapped : (n : ℕ) (counts : Counts) → answer ≡ Wrapped n counts ↔ WrappedAs n counts
  unfolding mode_of
  row-wrapped n counts = (λ e. tells (Wrapped n counts) e, so)
    where
      so : WrappedAs n counts → answer ≡ Wrapped n counts
      so v = gives _ (wraps (files v.0 v.1 v.2 v.3 v.4) (good v.5) (wider-none _ _ _ _ _ v.6) v.7) ∙ rw (v.8, v.9) refl
