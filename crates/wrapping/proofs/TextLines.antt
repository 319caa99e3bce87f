-- The lines of a text: the sentences of document 02, Q-4, each as a theorem. The premise is that 19 is not given.
-- Assumes nothing.
use mathlib.Core.Path.{◌≡◌, refl, sym, ap, ◌∙◌, subst}
use mathlib.Core.Bool.{true}
use mathlib.Core.List.{List, [], ◌∷◌, ◌++◌}
use Prim.Native.Nat.{ℕ, ◌+◌, ◌-◌, ◌≤◌, ◌<◌}
use native.Mathlib.Omega.{arith}
use native.Mathlib.Decide.{dec_lt}
use lib.ListN.{length, drop, get_or, take-append-drop}
use lib.Seq.{drop-drop}
use borrow.Author.Tests.{not-true}
use Rattle.ground.proofs.Tests.{never_both}
use Rattle.subchars.specs.declared.Mode.{Mode}
use Rattle.blocks.specs.Block.{Block}
use Rattle.showing.specs.Output.{shown}
use Rattle.source.specs.Source.{Source}
use Rattle.flc.specs.declared.Command.{Command}
use Rattle.breaks.specs.Words.{is_break, in_word, word_from, word_behind, ends_word}
use Rattle.breaks.specs.Breaking.{Span, span, span_end, spans_from, spans_of}
use Rattle.spans.specs.Spans.{part, line_by, wide_in, drawings, first_wider}
use Rattle.breaks.specs.Steps.{NoneWider, Grows, last_behind}
use Rattle.breaks.proofs.WordLaws.{run-place, start_in_word, behind_le, behind-ends, behind-all, word_before, word_none}
use Rattle.breaks.proofs.BreakingLaws.{Each, each_so, each_at, InOrder, Apart, Line, line-is, whole_words, word_broken, from_some, from_none, lines_each, lines_in_order, lines_at_most, lines_apart, no_words}
use Rattle.spans.proofs.DrawnLaws.{part_grows, none-wider}
use Rattle.spans.proofs.PuttingLaws.{drawings-append, drawings-one}

-- The parts of the lines in order, with what stands before them, between them and behind them.
unfoldable pub pieces : List ℕ → ℕ → List Span → List ℕ
pieces s p [] = drop p s
pieces s p (x ∷ xs) = part s p x.first ++ (part s x.first x.behind ++ pieces s x.behind xs)

part_then : (s : List ℕ) (a b : ℕ) → a ≤ b → part s a b ++ drop b s ≡ drop a s
part_then s a b l =
    let z : b ≡ a + (b - a) = omega arith in
    ap (λ (x : List ℕ). part s a b ++ x) (ap (λ (j : ℕ). drop j s) z ∙ sym (drop-drop (b - a) a s)) ∙ take-append-drop (b - a) (drop a s)

pieces_from : (s : List ℕ) (xs : List Span) (p : ℕ) → InOrder p xs → Each (λ (x : Span). x.first < x.behind) xs → pieces s p xs ≡ drop p s
unfolding pieces
pieces_from s [] p o e = refl
pieces_from s (x ∷ xs) p o e =
    ap (λ (t : List ℕ). part s p x.first ++ (part s x.first x.behind ++ t)) (pieces_from s xs x.behind o.1 e.1) ∙
    ap (λ (t : List ℕ). part s p x.first ++ t) (part_then s x.first x.behind (omega (arith, e.0))) ∙ part_then s p x.first o.0

module _ (y : Mode) (h : ℕ) (source : Source) (cs : List Command) (k limit : ℕ) (text : List ℕ) (narrow : length text ≤ first_wider source cs k limit text) where
  abbrev line : List ℕ → Block
  line = line_by y h source cs k

  abbrev wide : ℕ → ℕ → ℕ
  wide = wide_in line text

  abbrev lines : List Span
  lines = spans_of wide limit text

  none : NoneWider wide limit text
  none = none-wider y h source cs k text limit narrow

  grows : Grows wide text
  grows = part_grows y h source cs k text

  -- A line of the text, from b to before e.
  pub record TextLine (b e : ℕ) : Type 0 where
    -- "A line is the part of the text from its first word's first byte to the end of its last": bytes of words stand at both ends.
    pub starts : in_word (get_or text b 0) ≡ true
    pub ends : in_word (get_or text (e - 1) 0) ≡ true
    pub longer : b < e
    pub within : e ≤ length text
    -- "whose drawing is at most the limit wide"
    pub at_most_limit : (line (part text b e)).width ≤ limit
    -- "Each line takes the most words whose drawing, with the blanks between them, fits": where the first word fits, the line ends with a word, and with one
    -- word more it does not fit.
    pub most_words : wide b (word_behind text b) ≤ limit → (ends_word text e ≡ true) × ((e' : ℕ) → e < e' → e' ≤ length text → ends_word text e' ≡ true → limit < wide b e')
    -- "A first word that does not fit is broken after the most characters that fit": the line ends in it, and with one character more it does not fit.
    pub broken : limit < wide b (word_behind text b) → (e < word_behind text b) × ((e' : ℕ) → e < e' → e' ≤ word_behind text b → limit < wide b e')

  text-line : (b e : ℕ) → Line wide limit text b e → TextLine b e
  text-line b e l =
      let u : b < length text = omega (arith, l.longer, l.within) in
      record {
        starts = l.starts;
        ends = l.ends;
        longer = l.longer;
        within = l.within;
        at_most_limit = l.narrow;
        most_words = λ n. (
          (whole_words wide limit text grows b e u l.starts l n).0,
          λ e' m w t.
              elim (dec_lt limit (wide b e')) [
                | yes q ↦ q
                | no q ↦ absurd (omega (arith, m, (l.most_words e' (record { behind = omega (arith, l.longer); within = w; ends = t; narrow = omega arith })).1))
              ],
        );
        broken = λ n.
            let z = word_broken wide limit text grows b e u l.starts l n in (
              z.0,
              λ e' m w.
                  elim (dec_lt limit (wide b e')) [
                    | yes q ↦ q
                    | no q ↦ absurd (omega (arith, m, z.1 e' (omega (arith, l.longer)) w (omega arith)))
                  ],
            );
      }

  pub each_line : Each (λ (x : Span). TextLine x.first x.behind) lines
  each_line = each_so (λ (x : Span). Line wide limit text x.first x.behind) (λ (x : Span). TextLine x.first x.behind) (λ x l. text-line x.first x.behind l) lines (lines_each wide limit text none)

  pub line_at : (before : List Span) (x : Span) (behind : List Span) → lines ≡ before ++ (x ∷ behind) → TextLine x.first x.behind
  line_at before x behind e = each_at (λ (z : Span). TextLine z.first z.behind) before x behind (subst (Each (λ (z : Span). TextLine z.first z.behind)) e each_line)

  -- The lines stand in the order of the text, and there are no more of them than bytes.
  pub in_order : InOrder 0 lines
  in_order = lines_in_order wide limit text none

  pub at_most : length lines ≤ length text
  at_most = lines_at_most wide limit text none

  -- "Blanks at a break and at either end of the text are not drawn": what is in no line is blank.
  pub blanks_apart : Apart text 0 lines
  blanks_apart = lines_apart wide limit text none

  -- Nothing is lost and nothing drawn twice: the lines' parts in order, with the blanks between them, are the text.
  pub all_of_text : pieces text 0 lines ≡ text
  all_of_text =
      pieces_from text lines 0 in_order
      (each_so (λ (x : Span). TextLine x.first x.behind) (λ (x : Span). x.first < x.behind) (λ x l. l.longer) lines each_line)

  -- Where a byte of a word stands, the next word starts there.
  here : (p : ℕ) → in_word (get_or text p 0) ≡ true → word_from text p ≡ p
  here p v =
      elim (dec_lt p (word_from text p)) [
        | yes l ↦ absurd (never_both (is_break (get_or text p 0)) (run-place text is_break p p (omega arith) l) (not-true _ v))
        | no g ↦ omega arith
      ]

  -- "Its rest is the next line's first word": behind a line that breaks a word the next line starts at once.
  pub rest_next : (p : ℕ) → p < length text → in_word (get_or text p 0) ≡ true → spans_from wide limit text p ≡ span p (span_end wide limit text p) ∷ spans_from wide limit text (span_end wide limit text p)
  rest_next p u v =
      let z : word_from text p ≡ p = here p v in
      from_some wide limit text none p (omega (arith, z)) ∙ ap (λ (j : ℕ). span j (span_end wide limit text j) ∷ spans_from wide limit text (span_end wide limit text j)) z

  -- "A text without words has no lines."
  pub no_lines : ((p : ℕ) → p < length text → is_break (get_or text p 0) ≡ true) → lines ≡ []
  no_lines f = no_words wide limit text f

  -- A text that fits is one line, and its drawing is that of the text without the blanks at its ends.
  module _ (u : 0 < last_behind text) (fits : wide (word_from text 0) (last_behind text) ≤ limit) where
    one_line : lines ≡ span (word_from text 0) (last_behind text) ∷ []
    one_line =
        let b = word_from text 0 in
        let l = word_before text 0 u in
        let in-text : b < length text = omega (arith, l, behind_le text) in
        let v = start_in_word text 0 in-text in
        let is = line-is wide limit text b in-text v (none b in-text v) in
        let m = is.most_words (last_behind text) (record { behind = l; within = behind_le text; ends = behind-ends text u; narrow = fits }) in
        let e : span_end wide limit text b ≡ last_behind text = omega (arith, m.1, behind-all text (span_end wide limit text b) (omega (arith, is.longer)) is.within m.0) in
        from_some wide limit text none 0 in-text ∙ ap (λ (j : ℕ). span b j ∷ spans_from wide limit text j) e ∙
        ap (λ (t : List Span). span b (last_behind text) ∷ t) (from_none wide limit text none (last_behind text) (word_none text (last_behind text) (omega arith)))

    pub one_line_drawn : (lines ≡ span (word_from text 0) (last_behind text) ∷ []) × (drawings y.hardblank.0 h line text lines ≡ shown y.hardblank.0 h (line (part text (word_from text 0) (last_behind text))))
    one_line_drawn = (one_line, ap (drawings y.hardblank.0 h line text) one_line ∙ drawings-one y.hardblank.0 h line text (span (word_from text 0) (last_behind text)))

  -- "The drawings of the lines follow one another": behind those of the lines before it stands the drawing of a line.
  pub follow_one_another : (before : List Span) (x : Span) (behind : List Span) → lines ≡ before ++ (x ∷ behind) → drawings y.hardblank.0 h line text lines ≡ drawings y.hardblank.0 h line text before ++ (shown y.hardblank.0 h (line (part text x.first x.behind)) ++ drawings y.hardblank.0 h line text behind)
  unfolding drawings
  follow_one_another before x behind e = ap (drawings y.hardblank.0 h line text) e ∙ drawings-append y.hardblank.0 h line text before (x ∷ behind)
