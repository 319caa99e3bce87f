-- A line that is drawn, and put out from a place on.
-- Assumes nothing.
use mathlib.Core.Path.{◌≡◌, sym, ap, ◌∙◌, subst}
use mathlib.Core.List.{List, ◌++◌}
use Prim.Native.Nat.{ℕ, ◌+◌, ◌-◌, ◌*◌, ◌≤◌, ◌<◌}
use native.Mathlib.Omega.{arith}
use native.Mathlib.Decide.{dec_lt}
use lib.ListN.{length, take, drop, length-drop}
use lib.Seq.{length-take-le, take-append-add, take-append-le}
use borrow.Rule.Slice.PartMut.{put_mid}
use Rattle.ground.specs.Limits.{max_line_width}
use Rattle.ground.proofs.Runs.{rest-is}
use Rattle.subchars.specs.declared.Direction.{Direction}
use Rattle.subchars.specs.declared.Mode.{Mode}
use Rattle.blocks.specs.Block.{Block, rows_of}
use Rattle.blocks.specs.Writing.{Like, from_on}
use Rattle.showing.specs.Output.{with_lf, shown}
use Rattle.showing.specs.Scratch.{line_start, scratch_line}
use Rattle.showing.proofs.Showing.{shown-like}
use Rattle.drawing.specs.Steps.{Reached}
use Rattle.breaks.specs.Breaking.{span_end}
use Rattle.spans.specs.Spans.{part, wide_in}
use Rattle.spans.specs.declared.DrawnSpan.{DrawnSpan}
use Rattle.breaks.specs.Steps.{Opens}
use Rattle.spans.specs.Steps.{SpanDrawn}
use Rattle.breaks.proofs.BreakingLaws.{line-is}

-- A line that is drawn again fits.
module _ (y : Mode) (h : ℕ) (line : List ℕ → Block) (limit : ℕ) (s : List ℕ) (b : ℕ) (o : Opens (wide_in line s) limit s b) where
  pub span-narrow : (e : ℕ) → e ≡ span_end (wide_in line s) limit s b → wide_in line s b e ≤ limit
  span-narrow e q = subst (λ (j : ℕ). wide_in line s b j ≤ limit) (sym q) (line-is (wide_in line s) limit s b o.within o.first o.one).narrow

  -- a line that is drawn takes at least a byte, ends in the text and is within the limit
  pub span_facts : (at : ℕ) (d : DrawnSpan) (area out : List ℕ) → SpanDrawn y h line limit s b at d area out → (b < d.end) × (d.end ≤ length s) × (d.width ≤ limit)
  span_facts at d area out x =
      let l = line-is (wide_in line s) limit s b o.within o.first o.one in
      (omega (arith, l.longer, x.end), omega (arith, l.within, x.end), omega (arith, span-narrow d.end x.end, x.ready.width))

  pub drawn_again : (e w : ℕ) (area : List ℕ) → e ≡ span_end (wide_in line s) limit s b → Reached y h limit w area (line (part s b e)) → Like h (scratch_line y.direction w area) (line (part s b e))
  drawn_again e w area q x =
      elim (dec_lt limit w) [
        | yes l ↦ absurd (omega (arith, x.beyond l, span-narrow e q))
        | no g ↦ x.within (omega arith)
      ]

-- The part from a place on is all behind it.
pub rest-long : (out : List ℕ) (at : ℕ) → length (take (length out - at) (drop at out)) ≡ length out - at
rest-long out at = ap length (rest-is out at) ∙ length-drop at out

-- The rows that are written are the line's.
module _ (hardblank h w : ℕ) (d : Direction) (area : List ℕ) (from : ℕ) (is : from ≡ line_start d w) where
  rows-shown : rows_of (λ (r : ℕ). with_lf hardblank w (from_on area (r * max_line_width + from))) h (w + 1) ≡ shown hardblank h (scratch_line d w area)
  unfolding shown
  rows-shown = ap (λ (j : ℕ). rows_of (λ (r : ℕ). with_lf hardblank w (from_on area (r * max_line_width + j))) h (w + 1)) is

  -- a part of the output that was written anew from a place on
  module _ (at : ℕ) (out q : List ℕ) (rest : ℕ) (l : at ≤ length out) (m : h * (w + 1) ≤ length q) where
    front : take (at + h * (w + 1)) (put_mid at rest out q) ≡ take at out ++ take (h * (w + 1)) q
    front =
        ap (λ (j : ℕ). take (j + h * (w + 1)) (put_mid at rest out q)) (sym (length-take-le at out l)) ∙
        take-append-add (take at out) (q ++ drop rest (drop at out)) (h * (w + 1)) ∙
        ap (λ (x : List ℕ). take at out ++ x) (take-append-le (h * (w + 1)) q (drop rest (drop at out)) m)

    pub line_put : take (h * (w + 1)) q ≡ rows_of (λ (r : ℕ). with_lf hardblank w (from_on area (r * max_line_width + from))) h (w + 1) → (line : Block) → Like h (scratch_line d w area) line → take (at + h * (w + 1)) (put_mid at rest out q) ≡ take at out ++ shown hardblank h line
    line_put e line like = front ∙ ap (λ (x : List ℕ). take at out ++ x) (e ∙ rows-shown ∙ shown-like h (scratch_line d w area) line like hardblank)
