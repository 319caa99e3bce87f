-- Words of a text: document 02, Q-4. A word is a maximal run of bytes other than 32.
-- Assumes nothing.
use Rattle.std.specs.Prelude.{ℕ, ◌+◌, ◌-◌, Bool, not, ◌&&◌, ◌||◌, List, eqb, length, drop, get_or}
use Rattle.ground.specs.Text.{byte}
use Rattle.ground.specs.Runs.{run}

-- "Break the text at blanks": byte 32, and no other.
abbrev pub is_break : ℕ → Bool
is_break x = eqb x (byte " ")

abbrev pub in_word : ℕ → Bool
in_word x = not (is_break x)

-- The first place from p on where a byte of a word stands; the text's end where there is none.
abbrev pub word_from : List ℕ → ℕ → ℕ
word_from s p = p + run is_break (drop p s)

-- The place behind the word that goes on at b.
abbrev pub word_behind : List ℕ → ℕ → ℕ
word_behind s b = b + run in_word (drop b s)

-- A word ends directly before place e: a byte of a word, and behind it a blank or the text's end.
unfoldable pub ends_word : List ℕ → ℕ → Bool
ends_word s e = in_word (get_or s (e - 1) 0) && (eqb e (length s) || is_break (get_or s e 0))
