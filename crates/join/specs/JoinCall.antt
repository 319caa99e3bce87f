-- The call `join`: what it answers and what the lent area then holds, for every input.
-- Assumes nothing.
use Rattle.std.specs.Prelude.{◌≡◌, ℕ, ◌*◌, Bool, true, false, cond, not, List, [], ltb, length, Result, Ok, Err}
use Rattle.ground.specs.Area.{zeros, padded}
use Rattle.ground.specs.Limits.{max_line_width}
use Rattle.ground.specs.declared.refusals.Reason.{Reason}
use Rattle.ground.specs.declared.refusals.Refusal.{Refusal}
use Rattle.ground.specs.Refusals.{number_of, area_too_small, line_too_wide, bad_shape}
use Rattle.subchars.specs.declared.Mode.{Mode}
use Rattle.blocks.specs.Block.{Block, exact_block, left_of, right_of, rows_of}
use Rattle.overlap.specs.Join.{overlap, besides}
use Rattle.join.specs.Shape.{good_shape}
use Rattle.join.specs.declared.Joined.{Joined}

-- What an answer tells. "A refusal answers its number and place (0 where none is named); other numbers are 0."
pub record JoinTold : Type 0 where
  pub refused : Bool
  pub number : ℕ
  pub place : ℕ
  pub overlap : ℕ
  pub width : ℕ

abbrev pub join_tells : Result Joined Refusal → JoinTold
join_tells (Ok j) = record { refused = false; number = 0; place = 0; overlap = j.overlap; width = j.width }
join_tells (Err r) = record { refused = true; number = number_of r.reason; place = r.place; overlap = 0; width = 0 }

-- Joined at an overlap, in a width.
abbrev pub joining : ℕ → ℕ → Result Joined Refusal
joining o w = Ok (record { overlap = o; width = w })

-- Refused for a reason, at place 0.
abbrev pub refusing : Reason → JoinTold
refusing n = record { refused = true; number = number_of n; place = 0; overlap = 0; width = 0 }

-- Refused where the test holds, else what follows.
abbrev pub refuse_if : Bool → Reason → JoinTold → JoinTold
refuse_if t n next = cond t (refusing n) next

-- Two blocks of good shape, a on the left, and an area of the given room.
unfoldable pub told_of : Mode → ℕ → Block → Block → ℕ → JoinTold
told_of y h a b room =
    let w = (besides y h a b).width in
    refuse_if (ltb max_line_width w) line_too_wide
    (refuse_if (ltb room (h * w)) area_too_small (join_tells (joining (overlap y h a b) w)))

-- "Join: 17, 16, 9." The line is n wide and the character m; blocks lie row after row.
unfoldable pub join_told : Mode → ℕ → ℕ → List ℕ → ℕ → List ℕ → ℕ → JoinTold
join_told y h n line m character room =
    let l = exact_block n line in
    let c = exact_block m character in
    refuse_if (not (good_shape y h n (length line) m (length character))) bad_shape
    (told_of y h (left_of y.direction l c) (right_of y.direction l c) room)

-- A refusal "fills every lent writable area with zeros. A success fills all room behind its answer, .. with zeros."
abbrev pub area_of : JoinTold → Block → ℕ → ℕ → List ℕ
area_of t f h room = padded (cond t.refused [] (rows_of f.cells h f.width)) room

unfoldable pub join_area : Mode → ℕ → ℕ → List ℕ → ℕ → List ℕ → ℕ → List ℕ
join_area y h n line m character room =
    let l = exact_block n line in
    let c = exact_block m character in
    area_of (join_told y h n line m character room) (besides y h (left_of y.direction l c) (right_of y.direction l c)) h room

-- What the call gives: its answer, and all that the lent area then holds.
pub record JoinGives (y : Mode) (h n : ℕ) (line : List ℕ) (m : ℕ) (character : List ℕ) (room : ℕ) (r : Result Joined Refusal) (out : List ℕ) : Type 0 where
  pub answer : join_tells r ≡ join_told y h n line m character room
  pub area : out ≡ join_area y h n line m character room

-- The same of two blocks of good shape, a on the left; and of a refusal.
pub record BlocksGive (y : Mode) (h : ℕ) (a b : Block) (room : ℕ) (r : Result Joined Refusal) (out : List ℕ) : Type 0 where
  pub answer : join_tells r ≡ told_of y h a b room
  pub area : out ≡ area_of (told_of y h a b room) (besides y h a b) h room

pub record Refuses (reason : Reason) (room : ℕ) (r : Result Joined Refusal) (out : List ℕ) : Type 0 where
  pub answer : join_tells r ≡ refusing reason
  pub area : out ≡ zeros room
