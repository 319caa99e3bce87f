-- The right overlaps are those of demand 3, "one overlap for each drawn character after the first", and they are found as the characters are drawn.
-- Assumes nothing.
use mathlib.Core.Path.{◌≡◌, refl, sym, ◌∙◌, ap, ap₂}
use mathlib.Core.List.{List, [], ◌∷◌, ◌++◌, append_assoc, append-nil}
use Prim.Native.Nat.{ℕ, zero, suc, ◌-◌, ◌<◌}
use native.Mathlib.Omega.{arith}
use lib.ListN.{length, get_or, take}
use Rattle.subchars.specs.declared.Direction.{Direction}
use Rattle.subchars.specs.declared.Direction.TheVariants.{LeftToRight, RightToLeft}
use Rattle.subchars.specs.declared.Mode.{Mode}
use Rattle.blocks.specs.Block.{Block, left_of, right_of}
use Rattle.overlap.specs.Join.{overlap}
use Rattle.blocks.specs.Writing.{Like}
use Rattle.overlap.proofs.Demand.{overlap_narrower}
use Rattle.blocks.proofs.Likeness.{like-same}
use Rattle.overlap.proofs.Likeness.{overlap-like}
use Rattle.figure.specs.Line.{attached, overlap_with, empty, line_from, overlaps_from}
use Rattle.figure.proofs.Folding.{attached-like}
use Rattle.checking.specs.Verdict.{after_first}

module _ (y : Mode) (h : ℕ) where
  -- the first character is joined to the empty line, with which it has no overlap
  pub first-none : (c : Block) → overlap_with y h empty c ≡ 0
  first-none c = go y.direction
    where
      go : (d : Direction) → overlap y h (left_of d empty c) (right_of d empty c) ≡ 0
      go LeftToRight = omega (arith, overlap_narrower h empty c y)
      go RightToLeft = omega (arith, overlap_narrower h c empty y)

  many : (l : Block) (cs : List Block) → length (overlaps_from y h l cs) ≡ length cs
  unfolding overlaps_from
  many l [] = refl
  many l (c ∷ cs) = ap suc (many (attached y h l c) cs)

  -- as many as the characters after the first; none for none or one
  pub one_less : (cs : List Block) → length (after_first (overlaps_from y h empty cs)) ≡ length cs - 1
  unfolding overlaps_from
  one_less [] = refl
  one_less (c ∷ cs) = many (attached y h empty c) cs ∙ omega arith

  -- each is the overlap of the line so far and the next character
  each : (l : Block) (cs : List Block) (k : ℕ) → k < length cs → get_or (overlaps_from y h l cs) k 0 ≡ overlap_with y h (line_from y h l (take k cs)) (get_or cs k empty)
  unfolding overlaps_from line_from
  each l [] k u = absurd (omega arith)
  each l (c ∷ cs) zero u = refl
  each l (c ∷ cs) (suc k) u = each (attached y h l c) cs k (omega arith)

  pub each-overlap : (c : Block) (cs : List Block) (k : ℕ) → k < length cs → get_or (after_first (overlaps_from y h empty (c ∷ cs))) k 0 ≡ overlap_with y h (line_from y h empty (c ∷ take k cs)) (get_or cs k empty)
  unfolding overlaps_from line_from
  each-overlap c cs k u = each (attached y h empty c) cs k u

  -- a character has one overlap with lines that are alike, and so have alike characters
  pub overlap-alike : (l l' c c' : Block) → Like h l l' → Like h c c' → overlap_with y h l c ≡ overlap_with y h l' c'
  overlap-alike l l' c c' p q = go y.direction
    where
      go : (d : Direction) → overlap y h (left_of d l c) (right_of d l c) ≡ overlap y h (left_of d l' c') (right_of d l' c')
      go LeftToRight = overlap-like y h l l' c c' p q
      go RightToLeft = overlap-like y h c c' l l' q p

  overlaps-alike : (l l' : Block) (cs : List Block) → Like h l l' → overlaps_from y h l cs ≡ overlaps_from y h l' cs
  unfolding overlaps_from
  overlaps-alike l l' [] p = refl
  overlaps-alike l l' (c ∷ cs) p =
      ap₂ ◌∷◌ (overlap-alike l l' c c p (like-same h c)) (overlaps-alike (attached y h l c) (attached y h l' c) cs (attached-like y h l l' c c p (like-same h c)))

  -- The overlaps so far, with those of the characters that are left, from the line so far on, are the trace of all.
  module _ (all : List Block) where
    pub record TraceToward (line : Block) (trace : List ℕ) (rest : List Block) : Type 0 where
      pub whole : trace ++ overlaps_from y h line rest ≡ overlaps_from y h empty all

    pub trace-first : (line : Block) → Like h line empty → TraceToward line [] all
    trace-first line p = record { whole = overlaps-alike line empty all p }

    -- one character more, joined at overlap o
    pub trace_next : (line line' c : Block) (trace : List ℕ) (o : ℕ) (rest : List Block) → TraceToward line trace (c ∷ rest) → o ≡ overlap_with y h line c → Like h line' (attached y h line c) → TraceToward line' (trace ++ (o ∷ [])) rest
    unfolding overlaps_from
    trace_next line line' c trace o rest t e p =
        record {
          whole = append_assoc trace (o ∷ []) (overlaps_from y h line' rest) ∙ ap₂ (λ (x : ℕ) (xs : List ℕ). trace ++ (x ∷ xs)) e (overlaps-alike line' (attached y h line c) rest p) ∙ t.whole;
        }

    -- and with a line that is alike
    pub trace-same : (line line' : Block) (trace : List ℕ) (rest : List Block) → TraceToward line trace rest → Like h line' line → TraceToward line' trace rest
    trace-same line line' trace rest t p = record { whole = ap (λ (xs : List ℕ). trace ++ xs) (overlaps-alike line' line rest p) ∙ t.whole }

    pub trace-end : (line : Block) (trace : List ℕ) → TraceToward line trace [] → trace ≡ overlaps_from y h empty all
    unfolding overlaps_from
    trace-end line trace t = sym (append-nil trace) ∙ t.whole
