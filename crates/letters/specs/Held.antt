-- The letters of small codes in two lists: where each code's record starts, 0 for none, and its width.
-- Assumes nothing.
use Rattle.std.specs.Prelude.{◌≡◌, Bool, cond, ◌&&◌, List, ℕ, ◌<◌, ◌≤◌, eqb, length, get_or, Option, Some, None}
use Rattle.index.specs.Latest.{small_codes}
use Rattle.records.specs.declared.Head.{Head}
use Rattle.records.specs.declared.Place.{Place}
use Rattle.records.specs.Versions.{head_length}
use Rattle.records.specs.Places.{place_in}
use Rattle.heads.specs.Pack.{says, meaning}

-- The place that two entries hold. No record starts at 0, where the mark stands.
unfoldable pub held_at : ℕ → ℕ → Option Place
held_at start width = cond (eqb start 0) None (Some (record { at = start; width = width }))

-- What is held of a code.
abbrev pub held_of : List ℕ → List ℕ → ℕ → Option Place
held_of starts widths c = held_at (get_or starts c 0) (get_or widths c 0)

-- The first of two places that is one.
abbrev pub or_else_place : Option Place → Option Place → Option Place
or_else_place (Some p) x = Some p
or_else_place None x = x

-- The lists after one record more.
pub record LetterNoted (live : Bool) (code at width : ℕ) (starts widths starts' widths' : List ℕ) : Type 0 where
  pub as_long : (length starts' ≡ length starts) × (length widths' ≡ length widths)
  pub each : (c : ℕ) → c < small_codes → held_of starts' widths' c ≡ or_else_place (held_of starts widths c) (cond (live && eqb code c) (held_at at width) None)

-- The lists hold the letters of the small codes of a pack's records.
pub record Held (f : Head) (rs : List (List ℕ)) (starts widths : List ℕ) : Type 0 where
  pub room : (small_codes ≤ length starts) × (small_codes ≤ length widths)
  pub each : (c : ℕ) → c < small_codes → held_of starts widths c ≡ place_in f c (head_length f.version) rs

-- A pack that is not damaged, and the lists.
pub record LettersHeld (f : Head) (s starts widths : List ℕ) : Type 0 where
  pub records : List (List ℕ)
  pub said : meaning s ≡ says f records
  pub held : Held f records starts widths
