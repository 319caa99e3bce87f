-- The output: a row with its LF, what a line comes to, and what lines that are alike come to.
-- Assumes nothing.
use mathlib.Core.Path.{◌≡◌, refl, sym, ◌∙◌, ap, ap₂}
use mathlib.Core.Bool.{cond}
use mathlib.Core.List.{List, ◌++◌}
use Prim.Native.Nat.{ℕ, ◌+◌, ◌-◌, ◌*◌, ◌≤◌, ◌<◌}
use native.Mathlib.Omega.{arith}
use native.Mathlib.Decide.{dec_lt}
use borrow.Author.Tests.{lt-ltb, le-ltb}
use lib.Dec.{ltb}
use lib.ListN.{length, take, get_or}
use Rattle.ground.specs.Area.{zeros, padded}
use Rattle.ground.specs.Limits.{max_line_width}
use Rattle.ground.specs.Refusals.{refusal, area_too_small, line_too_wide}
use Rattle.ground.specs.declared.refusals.Refusal.{Refusal}
use Rattle.ground.specs.Text.{byte}
use Rattle.ground.proofs.Areas.{padded_of}
use Rattle.subchars.specs.declared.Direction.{Direction}
use Rattle.subchars.specs.declared.Direction.TheVariants.{LeftToRight, RightToLeft}
use Rattle.subchars.specs.Hardblank.{blanked}
use Rattle.blocks.specs.Block.{Block, rows_of}
use Rattle.blocks.proofs.Rows.{length-rows, rows_cong, rows-at}
use Rattle.blocks.specs.Writing.{Like}
use Rattle.std.specs.Prelude.{Result, Ok, Err}
use Rattle.showing.specs.Output.{with_lf, shown_at, shown, output_of, put_only, output_bytes}
use Rattle.showing.specs.Scratch.{line_start}

-- The columns of a line in the area.
pub start_fits : (d : Direction) (w : ℕ) → w ≤ max_line_width → line_start d w + w ≤ max_line_width
start_fits LeftToRight w l = omega arith
start_fits RightToLeft w l = omega arith

pub cell_shown : (hardblank w : ℕ) (row : ℕ → ℕ) (k x : ℕ) → k < w → x ≡ blanked hardblank (row k) → x ≡ with_lf hardblank w row k
cell_shown hardblank w row k x h e = let t = lt-ltb k w h in rw t e

pub end-shown : (hardblank w : ℕ) (row : ℕ → ℕ) → 10 ≡ with_lf hardblank w row w
end-shown hardblank w row = let t = le-ltb w w (omega arith) in rw t

module _ (hardblank h : ℕ) (l : Block) (room : ℕ) where
  pub too_wide : max_line_width < l.width → Err (refusal line_too_wide 0) ≡ output_of h l room
  unfolding output_of
  too_wide u = rw (lt-ltb max_line_width l.width u)

  module _ (narrow : l.width ≤ max_line_width) where
    pub no_room : room < h * (l.width + 1) → Err (refusal area_too_small 0) ≡ output_of h l room
    unfolding output_of
    no_room v = rw (le-ltb max_line_width l.width narrow, lt-ltb room (h * (l.width + 1)) v)

    pub drawn : h * (l.width + 1) ≤ room → Ok l.width ≡ output_of h l room
    unfolding output_of
    drawn v = rw (le-ltb max_line_width l.width narrow, le-ltb room (h * (l.width + 1)) v)

  -- a refusal leaves zeros
  pub no_bytes : (r : Refusal) → Err r ≡ output_of h l room → zeros room ≡ padded (output_bytes hardblank h l room) room
  unfolding output_bytes
  no_bytes r e =
      let z : room ≡ room - 0 = omega arith in
      ap zeros z ∙ ap (λ (o : Result ℕ Refusal). padded (put_only o (shown hardblank h l)) room) e

  -- the rows written, and zeros behind them
  pub bytes_of : Ok l.width ≡ output_of h l room → (area : List ℕ) → length area ≡ room → take (h * (l.width + 1)) area ≡ rows_of (shown_at hardblank l) h (l.width + 1) → take (h * (l.width + 1)) area ++ zeros (length area - h * (l.width + 1)) ≡ padded (output_bytes hardblank h l room) room
  unfolding output_bytes shown
  bytes_of e area k f =
      padded_of (rows_of (shown_at hardblank l) h (l.width + 1)) area (h * (l.width + 1)) room f (length-rows (shown_at hardblank l) h (l.width + 1)) k
      ∙ ap (λ (o : Result ℕ Refusal). padded (put_only o (shown hardblank h l)) room) e

-- "The output is each row with hardblanks as blanks, then LF": byte r * (width + 1) + k is sub-character k of row r,
pub shown-byte : (hardblank h : ℕ) (l : Block) (r k : ℕ) → r < h → k < l.width → get_or (shown hardblank h l) (r * (l.width + 1) + k) 0 ≡ blanked hardblank (l.cells r k)
unfolding shown
shown-byte hardblank h l r k u v = rows-at (shown_at hardblank l) h (l.width + 1) r k u (omega arith) ∙ sym (cell_shown hardblank l.width (l.cells r) k _ v refl)

-- and an LF stands behind the row
pub shown_lf : (hardblank h : ℕ) (l : Block) (r : ℕ) → r < h → get_or (shown hardblank h l) (r * (l.width + 1) + l.width) 0 ≡ byte "\n"
unfolding shown
shown_lf hardblank h l r u = rows-at (shown_at hardblank l) h (l.width + 1) r l.width u (omega arith) ∙ sym (end-shown hardblank l.width (l.cells r))

pub length-shown : (hardblank h : ℕ) (l : Block) → length (shown hardblank h l) ≡ h * (l.width + 1)
unfolding shown
length-shown hardblank h l = length-rows (shown_at hardblank l) h (l.width + 1)

-- lines that are alike are put out alike
module _ (h : ℕ) (l z : Block) (like : Like h l z) where
  pub shown-like : (hardblank : ℕ) → shown hardblank h l ≡ shown hardblank h z
  unfolding shown
  shown-like hardblank =
      rows_cong (shown_at hardblank l) (λ r. with_lf hardblank l.width (z.cells r)) h (l.width + 1)
      (λ r k u v.
      elim (dec_lt k l.width) [
        | yes a ↦ ap (λ (x : ℕ). cond (ltb k l.width) (blanked hardblank x) 10) (like.cells r k u a)
        | no b ↦ let e = le-ltb k l.width (omega arith) in rw e
      ])
      ∙ ap (λ (w : ℕ). rows_of (λ r. with_lf hardblank w (z.cells r)) h (w + 1)) like.width

  pub output-like : (room : ℕ) → output_of h l room ≡ output_of h z room
  unfolding output_of
  output-like room =
      ap (λ (w : ℕ). cond (ltb max_line_width w) (Err (refusal line_too_wide 0)) (cond (ltb room (h * (w + 1))) (Err (refusal area_too_small 0)) (Ok w))) like.width

  pub bytes-like : (hardblank room : ℕ) → output_bytes hardblank h l room ≡ output_bytes hardblank h z room
  unfolding output_bytes
  bytes-like hardblank room = ap₂ put_only (output-like room) (shown-like hardblank)
