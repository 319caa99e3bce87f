-- Rows with their ends: how they are written, and what they are where there is no end.
-- Assumes nothing.
use mathlib.Core.Path.{◌≡◌, sym, ◌∙◌, ap}
use mathlib.Core.Bool.{Bool}
use mathlib.Core.List.{List, ◌++◌}
use Prim.Native.Nat.{ℕ, ◌+◌, ◌*◌, ◌<◌}
use native.Mathlib.Omega.{arith}
use lib.ListN.{length, take, set}
use borrow.Author.Tests.{lt-ltb, le-ltb}
use Rattle.ground.specs.Area.{values}
use Rattle.ground.specs.Text.{byte}
use Rattle.ground.proofs.Areas.{put_next, values_cong}
use Rattle.lanes.specs.Blocks.{Cells}
use Rattle.blocks.specs.Block.{rows_of}
use Rattle.blocks.proofs.Rows.{rows_cong, rows_next, row_next}
use Rattle.columns.specs.Placing.{with_end}
use Rattle.stack.specs.StackCall.{lfs}

module _ (w : ℕ) (f : Cells) where
  pub end-inside : (r k : ℕ) → k < w → with_end w f r k ≡ f r k
  end-inside r k u = simp (lt-ltb k w u)

  end-behind : (r : ℕ) → byte "\n" ≡ with_end w f r w
  end-behind r = let e = le-ltb w w (omega arith) in simp e

  -- a row that was written, as one with an end that is still to come
  row-inside : (r : ℕ) (p : List ℕ) (new : List ℕ) → new ≡ p ++ values (f r) w → new ≡ p ++ values (with_end w f r) w
  row-inside r p new e = e ∙ ap (λ (x : List ℕ). p ++ x) (values_cong (f r) (with_end w f r) w λ k u. sym (end-inside r k u))

  -- a row that was written with an LF behind it, and one with nothing behind it
  pub written-lf : (old mid : List ℕ) (at r : ℕ) → at + w < length mid → take (at + w) mid ≡ take at old ++ values (f r) w → take (at + (w + 1)) (set mid (at + w) (byte "\n")) ≡ take at old ++ values (with_end w f r) (w + 1)
  written-lf old mid at r u e = put_next mid (take at old) (with_end w f r) at w (byte "\n") u (end-behind r) (row-inside r (take at old) (take (at + w) mid) e)

  pub written-plain : (old mid : List ℕ) (at r : ℕ) → take (at + w) mid ≡ take at old ++ values (f r) w → take (at + (w + 0)) mid ≡ take at old ++ values (with_end w f r) (w + 0)
  written-plain old mid at r e =
      let z : w + 0 ≡ w = omega arith in
      ap (λ (k : ℕ). take (at + k) mid) z ∙ (row-inside r (take at old) (take (at + w) mid) e ∙ ap (λ (k : ℕ). take at old ++ values (with_end w f r) k) (sym z))

  -- after it, there is a row more
  pub rows_more : (ended : Bool) (old new : List ℕ) (at to r : ℕ) → at ≡ r * (w + lfs ended) → take at old ≡ rows_of (with_end w f) r (w + lfs ended) → to ≡ at + (w + lfs ended) →
      take (at + (w + lfs ended)) new ≡ take at old ++ values (with_end w f r) (w + lfs ended) → (to ≡ (r + 1) * (w + lfs ended)) × (take to new ≡ rows_of (with_end w f) (r + 1) (w + lfs ended))
  rows_more ended old new at to r p q t e = (
    t ∙ (ap (λ (x : ℕ). x + (w + lfs ended)) p ∙ sym (row_next r (w + lfs ended))),
    ap (λ (x : ℕ). take x new) t ∙ rows_next new old (with_end w f) r (w + lfs ended) at q e,
  )

  -- without an end they are the rows
  pub not_ended : (h : ℕ) → rows_of (with_end w f) h (w + 0) ≡ rows_of f h w
  not_ended h =
      let e : w + 0 ≡ w = omega arith in
      ap (rows_of (with_end w f) h) e ∙ rows_cong (with_end w f) f h w λ r k u v. end-inside r k v
