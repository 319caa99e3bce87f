-- What is put out of the two areas is what the two lines come to, and what each refusal leaves.
-- Assumes nothing.
use mathlib.Core.Path.{◌≡◌, refl, sym, ◌∙◌, ap, ap₂, subst}
use mathlib.Core.Bool.{Bool, false, cond, ◌||◌}
use mathlib.Core.List.{List, ◌++◌}
use Prim.Native.Nat.{ℕ, ◌+◌, ◌-◌, ◌≤◌}
use native.Mathlib.Omega.{arith}
use lib.Dec.{ltb}
use borrow.Author.Tests.{le-ltb}
use Rattle.std.specs.Prelude.{Result, Ok, Err}
use Rattle.ground.specs.Area.{zeros}
use Rattle.ground.specs.Limits.{max_line_width}
use Rattle.ground.specs.Refusals.{refusal, line_too_wide}
use Rattle.ground.specs.declared.refusals.Refusal.{Refusal}
use Rattle.subchars.specs.declared.Code.{Code}
use Rattle.subchars.specs.declared.Mode.{Mode}
use Rattle.subchars.specs.declared.VerticalLayout.{VerticalLayout}
use Rattle.subchars.specs.Hardblank.{blank}
use Rattle.lanes.proofs.Blanking.{nothing_hard}
use Rattle.blocks.specs.Block.{Block, rows_of}
use Rattle.blocks.proofs.Rows.{rows_cong}
use Rattle.showing.specs.Output.{shown_at, shown}
use Rattle.showing.specs.Scratch.{scratch_line}
use Rattle.columns.specs.declared.Placed.{Placed}
use Rattle.stack.specs.declared.Stacked.{Stacked}
use Rattle.columns.specs.Stack.{Stack, stacked}
use Rattle.columns.specs.Placing.{placed_block, with_end}
use Rattle.stack.specs.StackCall.{StackTold, stack_tells, fit_told, area_after, PutStack}
use Rattle.stack.proofs.Likeness.{stacked-like, put_like}
use Rattle.source.specs.declared.Counts.{Counts}
use Rattle.source.specs.Source.{Source}
use Rattle.source.specs.Counting.{is_stood_in, is_nothing, is_missing, how_many, no_counts, counts_of}
use Rattle.source.proofs.CountLaws.{many-append}
use Rattle.drawing.specs.Drawing.{line_of, lined_text}
use Rattle.drawing.specs.Steps.{TextDrawn}
use Rattle.twolines.specs.declared.DrawnTexts.{DrawnTexts}
use Rattle.twolines.specs.declared.LinesAnswer.{LinesAnswer}
use Rattle.twolines.specs.declared.LinesAnswer.TheVariants.{Refused}
use Rattle.twolines.specs.Steps.{BothCounted, counts_beside}
use Rattle.twolines.specs.TwoLines.{TwoLines, two_lines, no_lines, both_counts, closed_up, lines_size, lines_shown, lines_told, lines_counts, lines_bytes, lines_output, stack_part, counts_part, LinesOut}

-- A refusal leaves zeros.
pub refused_out : (r : Refusal) (room : ℕ) (out : List ℕ) → out ≡ zeros (room - 0) → LinesOut (no_lines r) room (Refused r) out
unfolding lines_told lines_counts lines_bytes lines_output
refused_out r room out e = record { answer = refl; counts = refl; output = e }

-- Rows with an LF behind each are those that are shown: no blank is a hardblank.
shown-rows : (s : Stack) → rows_of (with_end s.block.width s.block.cells) s.height (s.block.width + 1) ≡ lines_shown s
unfolding shown
shown-rows s =
    rows_cong (with_end s.block.width s.block.cells) (shown_at blank s.block) s.height (s.block.width + 1)
    λ r k u v. ap (λ (x : ℕ). cond (ltb k s.block.width) x 10) (sym (nothing_hard (s.block.cells r k)))

-- The answer of stacking, with the counts beside it.
beside : (n : Counts) (x : Result Stacked Refusal) → counts_beside n x ≡ cond (stack_tells x).refused no_counts n
beside n (Ok s) = refl
beside n (Err r) = refl

put_shown : (s : Stack) (n : Counts) (room : ℕ) (x : Result Stacked Refusal) (r : LinesAnswer) (out : List ℕ) → stack_part r ≡ x → counts_part r ≡ counts_beside n x → PutStack s 1 room x out → LinesOut (two_lines s n) room r out
unfolding lines_told lines_counts lines_bytes lines_output
put_shown s n room x r out e f p =
    record {
      answer = ap stack_tells e ∙ p.answer;
      counts = f ∙ beside n x ∙ ap (λ (t : StackTold). cond t.refused no_counts n) p.answer;
      output = p.area ∙ ap (λ (b : List ℕ). area_after (fit_told s (lines_size s) room) b room) (shown-rows s);
    }

-- What is missing in two texts is what is missing in one behind the other.
pub counted_both : (source : Source) (us ls : List Code) (d : DrawnTexts) (n : Counts) → ((cs : List Code) → d.upper.missing + d.lower.missing ≡ how_many is_missing source cs → n ≡ counts_of source cs) →
    (d.upper.width ≤ max_line_width → d.upper.missing ≡ how_many is_missing source us) → (d.lower.width ≤ max_line_width → d.lower.missing ≡ how_many is_missing source ls) → BothCounted source us ls d n
unfolding counts_of
counted_both source us ls d n told first second =
    record {
      counts = λ u v.
          told (us ++ ls) (omega (arith, first u, second v, many-append source is_missing us ls)) ∙
          (λ i. record { stood_in = many-append source is_stood_in us ls i; nothing_drawn = many-append source is_nothing us ls i });
    }

-- Two lines, as they were drawn in their areas.
module _ (y : Mode) (vertical : VerticalLayout) (h : ℕ) (source : Source) (us ls : List Code) (d : DrawnTexts) (upper lower : List ℕ) (first : TextDrawn y h max_line_width source us d.upper upper) (second : TextDrawn y h max_line_width source ls d.lower lower) (room : ℕ) (r : LinesAnswer) (out : List ℕ) where
  abbrev a : Block
  a = line_of y h source us

  abbrev b : Block
  b = line_of y h source ls

  abbrev n : ℕ
  n = d.upper.width

  abbrev m : ℕ
  m = d.lower.width

  abbrev counts : Counts
  counts = both_counts (counts_of source us) (counts_of source ls)

  abbrev both : TwoLines
  both = closed_up vertical (lined_text y h source us) (lined_text y h source ls)

  by_width : (t : Bool) → (ltb max_line_width a.width || ltb max_line_width b.width) ≡ t → both ≡ cond t (no_lines (refusal line_too_wide 0)) (two_lines (stacked vertical y.hardblank.0 h a h b) counts)
  by_width t e = ap (λ (x : Bool). cond x (no_lines (refusal line_too_wide 0)) (two_lines (stacked vertical y.hardblank.0 h a h b) counts)) e

  as_lines : (t : TwoLines) → both ≡ t → LinesOut t room r out → LinesOut both room r out
  as_lines t e p = subst (λ (x : TwoLines). LinesOut x room r out) (sym e) p

  module _ (u : n ≤ max_line_width) (v : m ≤ max_line_width) where
    narrow : (ltb max_line_width a.width || ltb max_line_width b.width) ≡ false
    narrow =
        ap₂ ◌||◌ (le-ltb max_line_width a.width (omega (arith, (first.line.within u).width))) (le-ltb max_line_width b.width (omega (arith, (second.line.within v).width)))

    pub both_put : (p q : Placed) → (p.height ≡ h) × (placed_block p ≡ scratch_line y.direction n upper) → (q.height ≡ h) × (placed_block q ≡ scratch_line y.direction m lower) →
        (x : Result Stacked Refusal) → stack_part r ≡ x → (c : Counts) → BothCounted source us ls d c → counts_part r ≡ counts_beside c x →
        PutStack (stacked vertical y.hardblank.0 p.height (placed_block p) q.height (placed_block q)) 1 room x out → LinesOut both room r out
    both_put p q e f x i c k l g =
        as_lines _ (by_width false narrow)
        (put_shown (stacked vertical y.hardblank.0 h a h b) counts room x r out i (l ∙ ap (λ (z : Counts). counts_beside z x) (k.counts u v))
        (put_like (stacked vertical y.hardblank.0 h (scratch_line y.direction n upper) h (scratch_line y.direction m lower)) (stacked vertical y.hardblank.0 h a h b)
        (stacked-like vertical y.hardblank.0 h (scratch_line y.direction n upper) a h (scratch_line y.direction m lower) b (first.line.within u) (second.line.within v)) 1 room x out
        (subst (λ (s : Stack). PutStack s 1 room x out)
        (ap₂ (λ (k : ℕ) (z : Block). stacked vertical y.hardblank.0 k z q.height (placed_block q)) e.0 e.1 ∙ ap₂ (λ (k : ℕ) (z : Block). stacked vertical y.hardblank.0 h (scratch_line y.direction n upper) k z) f.0 f.1) g)))
