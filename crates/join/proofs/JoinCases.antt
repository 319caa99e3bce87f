-- What a join answers and leaves, case by case of the code's tests.
-- Assumes nothing.
use mathlib.Core.Path.{◌≡◌, refl, ◌∙◌, ap}
use mathlib.Core.Bool.{true, false}
use mathlib.Core.List.{List, ◌++◌}
use Prim.Native.Nat.{ℕ, ◌+◌, ◌-◌, ◌*◌, ◌≤◌, ◌<◌}
use native.Mathlib.Omega.{arith}
use lib.ListN.{length, take}
use borrow.Author.Tests.{lt-ltb, le-ltb}
use Rattle.ground.specs.Area.{zeros, padded}
use Rattle.ground.specs.Limits.{max_line_width}
use Rattle.std.specs.Prelude.{Result}
use Rattle.ground.specs.declared.refusals.Reason.{Reason}
use Rattle.ground.specs.declared.refusals.Refusal.{Refusal}
use Rattle.ground.specs.Refusals.{area_too_small, line_too_wide, bad_shape}
use Rattle.ground.proofs.Areas.{padded_of}
use Rattle.subchars.specs.declared.Direction.{Direction}
use Rattle.subchars.specs.declared.Mode.{Mode}
use Rattle.blocks.specs.Block.{Block, exact_block, left_of, right_of, rows_of}
use Rattle.overlap.specs.Join.{overlap, joined_at, joined_width, besides}
use Rattle.join.specs.Shape.{good_shape}
use Rattle.join.specs.declared.Joined.{Joined}
use Rattle.join.specs.JoinCall.{JoinTold, join_tells, joining, refusing, told_of, join_told, area_of, join_area, JoinGives, BlocksGive, Refuses}
use Rattle.blocks.proofs.Rows.{length-rows}

-- a refusal leaves zeros
zeros-area : (reason : Reason) (f : Block) (h room : ℕ) → zeros room ≡ area_of (refusing reason) f h room
zeros-area reason f h room = let z : room ≡ room - 0 = omega arith in ap zeros z

-- two blocks of good shape
module _ (y : Mode) (h : ℕ) (a b : Block) (room : ℕ) where
  -- what the definition tells is what was answered
  as_told : (r : Result Joined Refusal) (area : List ℕ) (t : JoinTold) → t ≡ told_of y h a b room → join_tells r ≡ t → area ≡ area_of t (besides y h a b) h room → BlocksGive y h a b room r area
  as_told r area t e p q = record { answer = p ∙ e; area = q ∙ ap (λ (s : JoinTold). area_of s (besides y h a b) h room) e }

  refused : (reason : Reason) (r : Result Joined Refusal) (area : List ℕ) → Refuses reason room r area → refusing reason ≡ told_of y h a b room → BlocksGive y h a b room r area
  refused reason r area g e = as_told r area (refusing reason) e g.answer (g.area ∙ zeros-area reason (besides y h a b) h room)

  module _ (o : ℕ) (is : o ≡ overlap y h a b) where
    pub too_wide : max_line_width < joined_width o a b → (r : Result Joined Refusal) (area : List ℕ) → Refuses line_too_wide room r area → BlocksGive y h a b room r area
    unfolding told_of besides
    too_wide w r area g = refused line_too_wide r area g (rw (← is, lt-ltb max_line_width (a.width + b.width - o) w))

    module _ (narrow : joined_width o a b ≤ max_line_width) where
      pub no_room : room < h * joined_width o a b → (r : Result Joined Refusal) (area : List ℕ) → Refuses area_too_small room r area → BlocksGive y h a b room r area
      unfolding told_of besides
      no_room u r area g =
          refused area_too_small r area g
          (rw (← is, le-ltb max_line_width (a.width + b.width - o) narrow, lt-ltb room (h * (a.width + b.width - o)) u))

      -- the rows written, and zeros behind them
      pub done : h * joined_width o a b ≤ room → (rows area : List ℕ) → length rows ≡ room → take (h * joined_width o a b) rows ≡ rows_of (joined_at y o a b) h (joined_width o a b) → area ≡ take (h * joined_width o a b) rows ++ zeros (length rows - h * joined_width o a b) → BlocksGive y h a b room (joining o (joined_width o a b)) area
      unfolding told_of besides
      done u rows area l e z =
          as_told (joining o (joined_width o a b)) area (join_tells (joining o (joined_width o a b)))
          (rw (← is, le-ltb max_line_width (a.width + b.width - o) narrow, le-ltb room (h * (a.width + b.width - o)) u))
          refl
          (z ∙ (padded_of (rows_of (joined_at y o a b) h (joined_width o a b)) rows (h * joined_width o a b) room e (length-rows (joined_at y o a b) h (joined_width o a b)) l
          ∙ ap (λ (k : ℕ). padded (rows_of (joined_at y k a b) h (joined_width k a b)) room) is))

-- a line and a character
module _ (y : Mode) (h n : ℕ) (line : List ℕ) (m : ℕ) (character : List ℕ) (room : ℕ) (r : Result Joined Refusal) (area : List ℕ) where
  abbrev left : Direction → Block
  left d = left_of d (exact_block n line) (exact_block m character)

  abbrev right : Direction → Block
  right d = right_of d (exact_block n line) (exact_block m character)

  pub bad : good_shape y h n (length line) m (length character) ≡ false → Refuses bad_shape room r area → JoinGives y h n line m character room r area
  unfolding join_told join_area
  bad e g = record { answer = g.answer ∙ rw e; area = g.area ∙ rw e (zeros-area bad_shape (besides y h (left y.direction) (right y.direction)) h room) }

  pub good : good_shape y h n (length line) m (length character) ≡ true → (d : Direction) → y.direction ≡ d → BlocksGive y h (left d) (right d) room r area → JoinGives y h n line m character room r area
  unfolding join_told join_area
  good e d is g =
      record {
        answer = g.answer ∙ rw (e, is);
        area = g.area ∙ rw (e, is);
      }
