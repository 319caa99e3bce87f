-- A line that is kept at its place in the output while its end is sought.
-- Assumes nothing.
use mathlib.Core.Path.{◌≡◌, sym, ap, ◌∙◌, subst}
use mathlib.Core.Bool.{true, false}
use mathlib.Core.List.{List, ◌++◌}
use Prim.Native.Nat.{ℕ, ◌+◌, ◌*◌, ◌≤◌}
use native.Mathlib.Omega.{arith}
use lib.ListN.{length, take}
use lib.Seq.{length-take-le, take-take, take_at}
use Rattle.subchars.specs.declared.Mode.{Mode}
use Rattle.blocks.specs.Block.{Block}
use Rattle.blocks.specs.Writing.{Like}
use Rattle.blocks.proofs.Likeness.{like-same}
use Rattle.showing.specs.Output.{shown}
use Rattle.showing.specs.Scratch.{scratch_line}
use Rattle.spans.specs.declared.Sought.{Sought}
use Rattle.breaks.specs.Breaking.{span_end}
use Rattle.spans.specs.Spans.{part, wide_in}
use Rattle.breaks.specs.Steps.{Opens}
use Rattle.spans.specs.Steps.{LineStands, SoughtFrom, SpanDrawn}
use Rattle.breaks.proofs.BreakingLaws.{line-is}

-- What stands before the place where a line is put stays.
pub front_stays : (at k : ℕ) (out out' new : List ℕ) → at ≤ length out → take (at + k) out' ≡ take at out ++ new → take at out' ≡ take at out
front_stays at k out out' new l q = sym (take-take at (at + k) out' (omega arith)) ∙ ap (take at) q ∙ take_at (take at out) new at (length-take-le at out l)

module _ (y : Mode) (h w at : ℕ) (area out out' : List ℕ) (l : at ≤ length out)
    (put : (line : Block) → Like h (scratch_line y.direction w area) line → take (at + h * (w + 1)) out' ≡ take at out ++ shown y.hardblank.0 h line) where
  pub line_front : take at out' ≡ take at out
  line_front = let b = scratch_line y.direction w area in front_stays at (h * (w + 1)) out out' _ l (put b (like-same h b))

  -- a line that is put stands in the output
  pub line-stands : (line : Block) → Like h (scratch_line y.direction w area) line → LineStands y h line w at out'
  line-stands line like = record { width = like.width; bytes = put line like ∙ ap (λ (x : List ℕ). x ++ shown y.hardblank.0 h line) (sym line_front) }

-- A flag is not both.
pub never : true ≡ false → ⊥
never e = let z : ◌≡◌ {A = ℕ} 0 1 = cc in omega arith

module _ (y : Mode) (h : ℕ) (line : List ℕ → Block) (limit : ℕ) (s : List ℕ) (b : ℕ) where
  -- the line ends where what was kept of it ends
  pub kept_line : Opens (wide_in line s) limit s b → (at : ℕ) (d : Sought) (area out : List ℕ) → SoughtFrom y h line limit s b at d area out → d.end ≡ d.kept.end → SpanDrawn y h line limit s b at (record { end = d.end; width = d.kept.width; put = true }) area out
  kept_line o at d area out q e =
      let l = line-is (wide_in line s) limit s b o.within o.first o.one in
      let k : LineStands y h (line (part s b d.end)) d.kept.width at out =
      subst (λ (j : ℕ). LineStands y h (line (part s b j)) d.kept.width at out) (sym e) (q.kept (omega (arith, l.longer, q.end, e))) in
      record { end = q.end; ready = record { width = k.width; held = λ z. absurd (never z); stands = λ z. k } }

  -- the area holds the line
  pub held-line : (at e w : ℕ) (area out : List ℕ) → e ≡ span_end (wide_in line s) limit s b → Like h (scratch_line y.direction w area) (line (part s b e)) → SpanDrawn y h line limit s b at (record { end = e; width = w; put = false }) area out
  held-line at e w area out q like = record { end = q; ready = record { width = like.width; held = λ z. like; stands = λ z. absurd (never (sym z)) } }
