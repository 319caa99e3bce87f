-- Fonts that were read: the lists hold what one font means, or two.
-- Assumes nothing.
use Rattle.std.specs.Prelude.{◌≡◌, ℕ, List, ℤ, length, take, drop, Result, Ok, Err}
use Rattle.ground.specs.Limits.{max_characters}
use Rattle.ground.specs.declared.refusals.Refusal.{Refusal}
use Rattle.header.specs.declared.Header.{Header}
use Rattle.chars.specs.declared.Entry.{Entry}
use Rattle.font.specs.Font.{says, refuses, reading}
use Rattle.index.specs.Index.{CharacterRoom, Lists}
use Rattle.index.specs.Latest.{small_codes, Latest}
use Rattle.reader.specs.declared.FontRead.{FontRead}

-- A font was read: its header, its n characters in three lists, and the last place of each code below 256.
pub record FontHeld (s : List ℕ) (h : Header) (n : ℕ) (codes : List ℤ) (starts widths places : List ℕ) : Type 0 where
  pub characters : List Entry
  pub said : reading s ≡ says h characters
  pub count : n ≡ length characters
  pub long : CharacterRoom n codes starts widths
  pub lists : Lists characters codes starts widths
  pub latest : Latest (take n codes) places

-- What reading it answered, and the lists.
abbrev pub FontHeldBy : List ℕ → Result FontRead Refusal → List ℤ → List ℕ → List ℕ → List ℕ → Type 0
FontHeldBy s (Ok r) codes starts widths places = FontHeld s r.header r.count codes starts widths places
FontHeldBy s (Err r) codes starts widths places = reading s ≡ refuses r

-- Two fonts were read, each into its half of the lists.
pub record TwoHeld (s t : List ℕ) (h k : Header) (n m : ℕ) (codes : List ℤ) (starts widths places : List ℕ) : Type 0 where
  pub room : CharacterRoom max_characters codes starts widths
  pub first : FontHeld s h n (take max_characters codes) (take max_characters starts) (take max_characters widths) (take small_codes places)
  pub second : FontHeld t k m (drop max_characters codes) (drop max_characters starts) (drop max_characters widths) (drop small_codes places)
