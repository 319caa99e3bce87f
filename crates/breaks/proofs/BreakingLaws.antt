-- Lines of a text: each takes the most words, or the most characters of a word that does not fit; none is empty, and no word is lost.
-- Assumes nothing.
use mathlib.Core.Path.{◌≡◌, refl, sym, ◌∙◌, ap}
use mathlib.Core.Bool.{true, ◌&&◌}
use mathlib.Core.List.{List, [], ◌∷◌, ◌++◌}
use Prim.Native.Nat.{ℕ, zero, suc, ◌+◌, ◌-◌, ◌≤◌, ◌<◌}
use native.Mathlib.Omega.{arith}
use native.Mathlib.Decide.{dec_lt}
use lib.ListN.{length, drop, get_or}
use borrow.Author.Tests.{lt-ltb, le-ltb, le-leb, leb-true, eq-eqb, ne_eqb, not-true}
use Rattle.ground.specs.Runs.{run}
use Rattle.ground.proofs.Tests.{and_both, and_left, and_right, never_both}
use Rattle.breaks.specs.Words.{is_break, in_word, word_from, word_behind, ends_word}
use Rattle.breaks.specs.Breaking.{fits_within, by_words, by_characters, span_end, Span, span, spans_by, spans_from, spans_of}
use Rattle.breaks.specs.Steps.{NoneWider, Grows}
use Rattle.breaks.proofs.Largest.{largest_le, largest-holds, largest-max}
use Rattle.breaks.proofs.WordLaws.{run-within, run-place, run-one, start_in_word, word_ends, ends_in_word, first-end}

-- Each of a list of lines.
abbrev pub Each : (Span → Type 0) → List Span → Type 0
Each P [] = Unit {0}
Each P (x ∷ xs) = P x × Each P xs

pub each_so : (P Q : Span → Type 0) → ((x : Span) → P x → Q x) → (xs : List Span) → Each P xs → Each Q xs
each_so P Q f [] e = tt
each_so P Q f (x ∷ xs) e = (f x e.0, each_so P Q f xs e.1)

pub each_at : (P : Span → Type 0) (before : List Span) (x : Span) (behind : List Span) → Each P (before ++ (x ∷ behind)) → P x
each_at P [] x behind e = e.0
each_at P (b ∷ bs) x behind e = each_at P bs x behind e.1

-- The lines stand one behind the other, from p on.
abbrev pub InOrder : ℕ → List Span → Type 0
InOrder p [] = Unit {0}
InOrder p (x ∷ xs) = (p ≤ x.first) × InOrder x.behind xs

-- Before the lines, between them and behind them stand blanks alone, from p on.
abbrev pub Apart : List ℕ → ℕ → List Span → Type 0
Apart s p [] = (k : ℕ) → p ≤ k → k < length s → is_break (get_or s k 0) ≡ true
Apart s p (x ∷ xs) = ((k : ℕ) → p ≤ k → k < x.first → is_break (get_or s k 0) ≡ true) × Apart s x.behind xs

module _ (wide : ℕ → ℕ → ℕ) (limit : ℕ) (s : List ℕ) where
  -- a word ends before e, and the text from b to there fits
  pub record WordsFit (b e : ℕ) : Type 0 where
    pub behind : b < e
    pub within : e ≤ length s
    pub ends : ends_word s e ≡ true
    pub narrow : wide b e ≤ limit

  -- e is where a line ends that starts at b
  pub record Line (b e : ℕ) : Type 0 where
    -- it starts and ends with a byte of a word, and has at least one
    pub starts : in_word (get_or s b 0) ≡ true
    pub ends : in_word (get_or s (e - 1) 0) ≡ true
    pub longer : b < e
    pub within : e ≤ length s
    pub narrow : wide b e ≤ limit
    -- "the most words whose drawing .. fits": where a word fits, the line ends with a word, and no further one fits
    pub most_words : (e' : ℕ) → WordsFit b e' → (ends_word s e ≡ true) × (e' ≤ e)
    -- where no word fits, the line ends in the first word, "after the most characters that fit"
    pub most_characters : ((e' : ℕ) → WordsFit b e' → ⊥) → (e ≤ word_behind s b) × ((e' : ℕ) → b < e' → e' ≤ word_behind s b → wide b e' ≤ limit → e' ≤ e)

  module _ (b : ℕ) (h : b < length s) (v : in_word (get_or s b 0) ≡ true) (one : wide b (b + 1) ≤ limit) where
    abbrev W : ℕ
    W = by_words wide limit s b

    abbrev C : ℕ
    C = by_characters wide limit s b

    words_most : (e : ℕ) → WordsFit b e → e - b ≤ W
    unfolding by_words
    words_most e f =
        let l = f.behind in
        let m = f.within in
        let z : b + (e - b) ≡ e = omega arith in
        largest-max (λ k. ends_word s (b + k) && fits_within wide limit b k) (length s - b) (e - b) (omega arith) (omega arith)
        (and_both (ends_word s (b + (e - b))) (fits_within wide limit b (e - b)) (ap (ends_word s) z ∙ f.ends) (le-leb (wide b (b + (e - b))) limit (rw z f.narrow)))

    words_fit : 0 < W → WordsFit b (b + W)
    unfolding by_words
    words_fit l =
        let t = largest-holds (λ k. ends_word s (b + k) && fits_within wide limit b k) (length s - b) l in
        let m = largest_le (λ k. ends_word s (b + k) && fits_within wide limit b k) (length s - b) in
        record { behind = omega arith; within = omega arith; ends = and_left (ends_word s (b + W)) _ t; narrow = leb-true _ _ (and_right (ends_word s (b + W)) (fits_within wide limit b W) t) }

    characters_most : (e : ℕ) → b < e → e ≤ word_behind s b → wide b e ≤ limit → e - b ≤ C
    unfolding by_characters
    characters_most e l m n =
        let z : b + (e - b) ≡ e = omega arith in
        largest-max (fits_within wide limit b) (run in_word (drop b s)) (e - b) (omega arith) (omega arith) (le-leb (wide b (b + (e - b))) limit (rw z n))

    one_character : 1 ≤ C
    one_character = let m = run-one s in_word b h v in omega (arith, characters_most (b + 1) (omega arith) (omega arith) one)

    characters_le : C ≤ run in_word (drop b s)
    unfolding by_characters
    characters_le = largest_le (fits_within wide limit b) (run in_word (drop b s))

    characters_fit : wide b (b + C) ≤ limit
    unfolding by_characters
    characters_fit = leb-true _ _ (largest-holds (fits_within wide limit b) (run in_word (drop b s)) one_character)

    end_words : 0 < W → span_end wide limit s b ≡ b + W
    unfolding span_end
    end_words l = rw (ne_eqb W 0 (λ e. omega arith))

    end-characters : W ≡ 0 → span_end wide limit s b ≡ b + C
    unfolding span_end
    end-characters e = rw (eq-eqb W 0 e)

    pub line-is : Line b (span_end wide limit s b)
    line-is =
        elim (dec_lt 0 W) [
          | yes l ↦ rw (end_words l) (of_words l)
          | no g ↦ rw (end-characters (omega arith)) (of_characters (omega arith))
        ]
      where
        of_words : 0 < W → Line b (b + W)
        of_words l =
            let f = words_fit l in
            record {
              starts = v;
              ends = ends_in_word s (b + W) f.ends;
              longer = omega arith;
              within = f.within;
              narrow = f.narrow;
              most_words = λ e g. (f.ends, omega (arith, words_most e g, g.behind));
              most_characters = λ none. absurd (none (b + W) f);
            }

        of_characters : W ≡ 0 → Line b (b + C)
        of_characters z =
            let m = one_character in
            let n = characters_le in
            let k = run-within s in_word b (omega arith) in
            record {
              starts = v;
              ends = run-place s in_word b (b + C - 1) (omega arith) (omega arith);
              longer = omega arith;
              within = omega arith;
              narrow = characters_fit;
              most_words = λ e g. absurd (omega (arith, words_most e g, g.behind, z));
              most_characters = λ none. (omega arith, λ e l m n. omega (arith, characters_most e l m n));
            }

  -- what a text that grows makes of it: the first word decides
  module _ (grows : Grows wide s) (b e : ℕ) (h : b < length s) (v : in_word (get_or s b 0) ≡ true) (line : Line b e) where
    first_fits : wide b (word_behind s b) ≤ limit → WordsFit b (word_behind s b)
    first_fits n =
        record { behind = run-one s in_word b h v; within = run-within s in_word b (omega arith); ends = word_ends s b h v; narrow = n }

    -- where the first word fits, the line ends with a word
    pub whole_words : wide b (word_behind s b) ≤ limit → (ends_word s e ≡ true) × (word_behind s b ≤ e)
    whole_words n = line.most_words (word_behind s b) (first_fits n)

    -- where it does not, the line ends in it, after the most characters
    pub word_broken : limit < wide b (word_behind s b) → (e < word_behind s b) × ((e' : ℕ) → b < e' → e' ≤ word_behind s b → wide b e' ≤ limit → e' ≤ e)
    word_broken l =
        let m = line.most_characters (λ e' f. let q = first-end s b e' f.behind f.ends in omega (arith, grows b (word_behind s b) e' (omega arith) q f.within, f.narrow)) in (
          elim (dec_lt e (word_behind s b)) [
            | yes k ↦ k
            | no g ↦ let z : word_behind s b ≡ e = omega (arith, m.0) in absurd (too_wide z)
          ],
          m.1,
        )
      where
        too_wide : word_behind s b ≡ e → ⊥
        too_wide z = let n : wide b (word_behind s b) ≤ limit = rw z line.narrow in omega arith

  -- All lines, one step and the next.
  lines_some : (n p : ℕ) → word_from s p < length s → spans_by (suc n) wide limit s p ≡ span (word_from s p) (span_end wide limit s (word_from s p)) ∷ spans_by n wide limit s (span_end wide limit s (word_from s p))
  unfolding spans_by
  lines_some n p h = simp (lt-ltb _ _ h)

  lines_none : (n p : ℕ) → length s ≤ word_from s p → spans_by n wide limit s p ≡ []
  unfolding spans_by
  lines_none zero p h = refl
  lines_none (suc n) p h = simp (le-ltb _ _ h)

  lines_zero : (p : ℕ) → spans_by 0 wide limit s p ≡ []
  unfolding spans_by
  lines_zero p = refl

  -- a text without words has no lines
  pub no_words : ((k : ℕ) → k < length s → is_break (get_or s k 0) ≡ true) → spans_of wide limit s ≡ []
  unfolding spans_from
  no_words f =
      elim (dec_lt (word_from s 0) (length s)) [
        | yes l ↦ absurd (never_both (is_break (get_or s (word_from s 0) 0)) (f (word_from s 0) l) (not-true _ (start_in_word s 0 l)))
        | no g ↦ lines_none (length s - 0) 0 (omega arith)
      ]

  module _ (none-wider : NoneWider wide limit s) where
    line_at : (p : ℕ) → word_from s p < length s → Line (word_from s p) (span_end wide limit s (word_from s p))
    line_at p h = let v = start_in_word s p h in line-is (word_from s p) h v (none-wider (word_from s p) h v)

    -- as many steps as there are bytes left are enough
    pub enough : (n m p : ℕ) → length s ≤ p + n → length s ≤ p + m → spans_by n wide limit s p ≡ spans_by m wide limit s p
    enough zero zero p u v = refl
    enough zero (suc m) p u v = lines_none 0 p (omega arith) ∙ sym (lines_none (suc m) p (omega arith))
    enough (suc n) zero p u v = lines_none (suc n) p (omega arith) ∙ sym (lines_none 0 p (omega arith))
    enough (suc n) (suc m) p u v =
        elim (dec_lt (word_from s p) (length s)) [
          | yes l ↦
              let b = word_from s p in
              let e = span_end wide limit s b in
              let k = (line_at p l).longer in
              lines_some n p l ∙ (ap (λ (ls : List Span). span b e ∷ ls) (enough n m e (omega arith) (omega arith)) ∙ sym (lines_some m p l))
          | no g ↦ lines_none (suc n) p (omega arith) ∙ sym (lines_none (suc m) p (omega arith))
        ]

    -- so that the lines from a place on are a line and the lines from its end on
    pub from_some : (p : ℕ) → word_from s p < length s → spans_from wide limit s p ≡ span (word_from s p) (span_end wide limit s (word_from s p)) ∷ spans_from wide limit s (span_end wide limit s (word_from s p))
    unfolding spans_from
    from_some p h =
        let b = word_from s p in
        let e = span_end wide limit s b in
        let k = length s - p - 1 in
        let l = line_at p h in
        let z : length s - p ≡ suc k = omega arith in
        ap (λ (n : ℕ). spans_by n wide limit s p) z
        ∙ (lines_some k p h ∙ ap (λ (ls : List Span). span b e ∷ ls) (enough k (length s - e) e (omega (arith, l.longer)) (omega arith)))

    pub from_none : (p : ℕ) → length s ≤ word_from s p → spans_from wide limit s p ≡ []
    unfolding spans_from
    from_none p h = lines_none (length s - p) p h

    -- every line is one
    pub each_line : (n p : ℕ) → Each (λ x. Line x.first x.behind) (spans_by n wide limit s p)
    each_line zero p = rw (lines_zero p) tt
    each_line (suc n) p =
        elim (dec_lt (word_from s p) (length s)) [
          | yes l ↦ rw (lines_some n p l) (line_at p l, each_line n (span_end wide limit s (word_from s p)))
          | no g ↦ rw (lines_none (suc n) p (omega arith)) tt
        ]

    -- they stand one behind the other
    pub in_order : (n p : ℕ) → InOrder p (spans_by n wide limit s p)
    in_order zero p = rw (lines_zero p) tt
    in_order (suc n) p =
        elim (dec_lt (word_from s p) (length s)) [
          | yes l ↦ rw (lines_some n p l) (omega arith, in_order n (span_end wide limit s (word_from s p)))
          | no g ↦ rw (lines_none (suc n) p (omega arith)) tt
        ]

    -- no more of them than steps
    pub at_most : (n p : ℕ) → length (spans_by n wide limit s p) ≤ n
    at_most zero p = rw (lines_zero p) (omega arith)
    at_most (suc n) p =
        elim (dec_lt (word_from s p) (length s)) [
          | yes l ↦ rw (lines_some n p l) (omega (arith, at_most n (span_end wide limit s (word_from s p))))
          | no g ↦ rw (lines_none (suc n) p (omega arith)) (omega arith)
        ]

    -- what is not in a line is blank
    apart : (n p : ℕ) → length s ≤ p + n → Apart s p (spans_by n wide limit s p)
    apart zero p u = rw (lines_zero p) (λ k a b. absurd (omega arith))
    apart (suc n) p u =
        elim (dec_lt (word_from s p) (length s)) [
          | yes l ↦
              let m = (line_at p l).longer in
              rw (lines_some n p l) ((λ k a b. run-place s is_break p k a b), apart n (span_end wide limit s (word_from s p)) (omega arith))
          | no g ↦ rw (lines_none (suc n) p (omega arith)) (λ k a b. run-place s is_break p k a (omega arith))
        ]

    -- the same of all lines of a text
    pub lines_each : Each (λ x. Line x.first x.behind) (spans_of wide limit s)
    unfolding spans_from
    lines_each = each_line (length s - 0) 0

    pub lines_in_order : InOrder 0 (spans_of wide limit s)
    unfolding spans_from
    lines_in_order = in_order (length s - 0) 0

    pub lines_at_most : length (spans_of wide limit s) ≤ length s
    unfolding spans_from
    lines_at_most = omega (arith, at_most (length s - 0) 0)

    pub lines_apart : Apart s 0 (spans_of wide limit s)
    unfolding spans_from
    lines_apart = apart (length s - 0) 0 (omega arith)
