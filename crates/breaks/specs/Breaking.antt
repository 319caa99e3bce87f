-- A text broken into lines: document 02, Q-4. The width of a drawing is a parameter: `wide b e` is how wide the part of the text from b to before e is,
-- drawn as a text of its own.
-- Assumes nothing.
use Rattle.std.specs.Prelude.{ℕ, zero, suc, ◌+◌, ◌-◌, Bool, cond, ◌&&◌, List, [], ◌∷◌, eqb, ltb, leb, length, drop}
use Rattle.ground.specs.Runs.{run}
use Rattle.breaks.specs.Words.{in_word, word_from, ends_word}

-- "The most", by trying: the largest number from 1 to n at which the test holds; 0 where there is none.
unfoldable pub largest : (ℕ → Bool) → ℕ → ℕ
largest p zero = 0
largest p (suc n) = cond (p (suc n)) (suc n) (largest p n)

-- The k bytes from b on fit: their drawing is at most the limit wide.
abbrev pub fits_within : (ℕ → ℕ → ℕ) → ℕ → ℕ → ℕ → Bool
fits_within wide limit b k = leb (wide b (b + k)) limit

-- "Each line takes the most words whose drawing, with the blanks between them, fits": how many bytes from b on; 0 where not even one word fits.
unfoldable pub by_words : (ℕ → ℕ → ℕ) → ℕ → List ℕ → ℕ → ℕ
by_words wide limit s b = largest (λ k. ends_word s (b + k) && fits_within wide limit b k) (length s - b)

-- "A first word that does not fit is broken after the most characters that fit."
unfoldable pub by_characters : (ℕ → ℕ → ℕ) → ℕ → List ℕ → ℕ → ℕ
by_characters wide limit s b = largest (fits_within wide limit b) (run in_word (drop b s))

-- Where the line ends that starts at b.
unfoldable pub span_end : (ℕ → ℕ → ℕ) → ℕ → List ℕ → ℕ → ℕ
span_end wide limit s b = b + cond (eqb (by_words wide limit s b) 0) (by_characters wide limit s b) (by_words wide limit s b)

-- A line: "each line's first byte and the place behind its last".
pub record Span : Type 0 where
  pub first : ℕ
  pub behind : ℕ

abbrev pub span : ℕ → ℕ → Span
span b e = record { first = b; behind = e }

-- At most n lines from place p on. "Blanks at a break and at either end of the text are not drawn"; the rest of a broken word "is the next line's first
-- word".
unfoldable pub spans_by : ℕ → (ℕ → ℕ → ℕ) → ℕ → List ℕ → ℕ → List Span
spans_by zero wide limit s p = []
spans_by (suc n) wide limit s p =
    let b = word_from s p in
    let e = span_end wide limit s b in
    cond (ltb b (length s)) (span b e ∷ spans_by n wide limit s e) []

-- The lines from place p on: a line takes at least one byte, so that there are no more than bytes are left (`enough`, proofs/BreakingLaws).
unfoldable pub spans_from : (ℕ → ℕ → ℕ) → ℕ → List ℕ → ℕ → List Span
spans_from wide limit s p = spans_by (length s - p) wide limit s p

-- The lines of a text.
abbrev pub spans_of : (ℕ → ℕ → ℕ) → ℕ → List ℕ → List Span
spans_of wide limit s = spans_from wide limit s 0
