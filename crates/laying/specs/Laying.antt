-- The rows of a FIGcharacter, and what an area of 1,000 columns to a row holds once they are laid into it.
-- Assumes nothing.
use Rattle.std.specs.Prelude.{◌≡◌, Bool, true, ℕ, ◌+◌, ◌*◌, ◌<◌, ◌≤◌, ◌⊎◌, List, length, get_or}
use Rattle.ground.specs.Limits.{max_line_width}
use Rattle.subchars.specs.declared.Direction.{Direction}
use Rattle.subchars.specs.declared.Direction.TheVariants.{LeftToRight, RightToLeft}
use Rattle.subchars.specs.declared.Mode.{Mode}
use Rattle.pairs.specs.Pair.{joins}
use Rattle.blocks.specs.Block.{Block}
use Rattle.overlap.specs.Join.{pair_byte}
use Rattle.blocks.specs.Writing.{from_on}

-- A FIGcharacter m wide whose rows start at the given places.
abbrev pub character_at : List ℕ → List ℕ → ℕ → Block
character_at s starts m = record { width = m; cells = λ r k. from_on s (get_or starts r 0) k }

-- Its first h rows are within the list.
pub record RowsIn (s starts : List ℕ) (m h : ℕ) : Type 0 where
  pub many : h ≤ length starts
  pub within : (r : ℕ) → r < h → get_or starts r 0 + m ≤ length s

-- What a sub-character l of the line becomes where x of a FIGcharacter lies on it.
abbrev pub met_by : Direction → Mode → ℕ → ℕ → ℕ
met_by LeftToRight y l x = pair_byte y l x
met_by RightToLeft y l x = pair_byte y x l

unfoldable pub met : Mode → ℕ → ℕ → ℕ
met y l x = met_by y.direction y l x

-- Whether they join.
abbrev pub meets_by : Direction → Mode → ℕ → ℕ → Bool
meets_by LeftToRight y l x = joins y l x
meets_by RightToLeft y l x = joins y x l

unfoldable pub can_meet : Mode → ℕ → ℕ → Bool
can_meet y l x = meets_by y.direction y l x

-- In each of h rows the places p to p + o of a FIGcharacter join those of the line, from column `at` on.
abbrev pub MeetingRows : Mode → ℕ → ℕ → ℕ → ℕ → List ℕ → List ℕ → List ℕ → Type 0
MeetingRows y h at p o s starts area =
    (r j : ℕ) → r < h → j < o → can_meet y (from_on area (r * max_line_width + at) j) (from_on s (get_or starts r 0 + p) j) ≡ true

-- In each of the first h rows the w columns from `at` on are those of f; those before them and those from `stop` on are as they were.
pub record StoredRows (f : ℕ → ℕ → ℕ) (h at w stop : ℕ) (old new : List ℕ) : Type 0 where
  pub size : length new ≡ length old
  pub inside : (r j : ℕ) → r < h → j < w → get_or new (r * max_line_width + at + j) 0 ≡ f r j
  pub below : (r k : ℕ) → r < h → k < at → get_or new (r * max_line_width + k) 0 ≡ get_or old (r * max_line_width + k) 0
  pub above : (r k : ℕ) → r < h → stop ≤ k → k < max_line_width → get_or new (r * max_line_width + k) 0 ≡ get_or old (r * max_line_width + k) 0

-- In the first r rows the w columns from `at` on are those of f, and all else is as it was.
pub record StoredTo (f : ℕ → ℕ → ℕ) (r at w : ℕ) (old new : List ℕ) : Type 0 where
  pub rows : StoredRows f r at w (at + w) old new
  pub rest : (i : ℕ) → r * max_line_width ≤ i → get_or new i 0 ≡ get_or old i 0

-- Of m places, laid at `at`, the o from p on are at the start or at the end, and the others are those from q on. At the end they do not lie before column `stop`.
abbrev pub Parted : ℕ → ℕ → ℕ → ℕ → ℕ → ℕ → Type 0
Parted at p q o m stop = ((p ≡ 0) × (q ≡ o)) ⊎ ((p + o ≡ m) × (q ≡ 0) × (stop ≤ at + p))

-- A FIGcharacter's row x, m wide, laid at `at`: its places p to p + o on the line's, the others alone; from lo up to hi all else as it was, but for what
-- lies behind it and before `stop`.
pub record Laid (y : Mode) (p o m : ℕ) (x : ℕ → ℕ) (at stop lo hi : ℕ) (old new : List ℕ) : Type 0 where
  pub before : (j : ℕ) → j < p → get_or new (at + j) 0 ≡ x j
  pub paired : (j : ℕ) → p ≤ j → j < p + o → get_or new (at + j) 0 ≡ met y (get_or old (at + j) 0) (x j)
  pub behind : (j : ℕ) → p + o ≤ j → j < m → get_or new (at + j) 0 ≡ x j
  pub below : (i : ℕ) → lo ≤ i → i < at → get_or new i 0 ≡ get_or old i 0
  pub above : (i : ℕ) → at + m ≤ i → stop ≤ i → i < hi → get_or new i 0 ≡ get_or old i 0

-- The same for each of h rows.
pub record LaidRows (y : Mode) (h at p o m stop : ℕ) (s starts old new : List ℕ) : Type 0 where
  pub size : length new ≡ length old
  pub rows : (r : ℕ) → r < h → Laid y p o m (from_on s (get_or starts r 0)) (r * max_line_width + at) (r * max_line_width + stop) (r * max_line_width) (r * max_line_width + max_line_width) old new
