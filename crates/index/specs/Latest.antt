-- The last place of each small code in an index.
-- Assumes nothing.
use Rattle.std.specs.Prelude.{◌≡◌, cond, Option, Some, None, List, ℕ, suc, ◌<◌, ltb, ℤ, pos, negsuc, length, get_or}
use Rattle.chars.specs.Codes.{same_number}
use Rattle.index.specs.LookUp.{last_at}

-- The small codes are those of a text's bytes: 0 to 255.
abbrev pub small_codes : ℕ
small_codes = 256

-- A small code, or another one.
unfoldable pub small_of : ℤ → Option ℕ
small_of (pos n) = cond (ltb n small_codes) (Some n) None
small_of (negsuc n) = None

-- One more than a place; 0 for none.
abbrev pub place_plus_one : Option ℕ → ℕ
place_plus_one None = 0
place_plus_one (Some k) = suc k

-- The list holds, for each small code, one more than its last place.
pub record Latest (codes : List ℤ) (latest : List ℕ) : Type 0 where
  pub size : length latest ≡ small_codes
  pub places : (c : ℕ) → c < small_codes → get_or latest c 0 ≡ place_plus_one (last_at (pos c) codes)

-- The list after a place is noted for a code.
pub record Noted (code : ℤ) (place : ℕ) (old new : List ℕ) : Type 0 where
  pub size : length new ≡ length old
  pub places : (c : ℕ) → c < small_codes → get_or new c 0 ≡ cond (same_number code (pos c)) place (get_or old c 0)
