-- What is known of a text and its words where its lines are sought.
-- Assumes nothing.
use Rattle.std.specs.Prelude.{◌≡◌, ℕ, ◌+◌, ◌-◌, ◌<◌, ◌≤◌, true, List, length, get_or}
use Rattle.breaks.specs.Words.{in_word}
use Rattle.breaks.specs.Breaking.{largest}

-- No byte of a word alone is wider than the limit: 19 is not given.
abbrev pub NoneWider : (ℕ → ℕ → ℕ) → ℕ → List ℕ → Type 0
NoneWider wide limit s = (p : ℕ) → p < length s → in_word (get_or s p 0) ≡ true → wide p (p + 1) ≤ limit

-- A longer part of the text is never narrower.
abbrev pub Grows : (ℕ → ℕ → ℕ) → List ℕ → Type 0
Grows wide s = (b e e' : ℕ) → b ≤ e → e ≤ e' → e' ≤ length s → wide b e ≤ wide b e'

-- A line starts at b: a byte of a word, which alone fits.
pub record Opens (wide : ℕ → ℕ → ℕ) (limit : ℕ) (s : List ℕ) (b : ℕ) : Type 0 where
  pub within : b < length s
  pub first : in_word (get_or s b 0) ≡ true
  pub one : wide b (b + 1) ≤ limit

-- The place behind the last word; 0 in a text without words.
unfoldable pub last_behind : List ℕ → ℕ
last_behind s = largest (λ k. in_word (get_or s (k - 1) 0)) (length s)
