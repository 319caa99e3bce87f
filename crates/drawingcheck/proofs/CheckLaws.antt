-- One code of a text more: what was chosen for it has its overlap in the trace, and what is left to do leads to the trace of the text.
-- Assumes nothing.
use mathlib.Core.Path.{◌≡◌, refl, ap, ◌∙◌, subst}
use mathlib.Core.Bool.{true, false}
use mathlib.Core.List.{List, [], ◌∷◌}
use Prim.Native.Nat.{ℕ, ◌+◌, ◌-◌, ◌≤◌, ◌<◌}
use native.Mathlib.Omega.{arith}
use lib.ListN.{length, drop, get_or, length-append, drop_of_length-le}
use Rattle.subchars.specs.declared.Mode.{Mode}
use Rattle.blocks.specs.Block.{Block}
use Rattle.blocks.specs.Writing.{Like}
use Rattle.figure.specs.Line.{attached, overlap_with}
use Rattle.showing.specs.Scratch.{scratch_line}
use Rattle.figure.proofs.Turning.{over_le, attached-wide}
use Rattle.source.specs.declared.Chosen.{Chosen}
use Rattle.source.specs.declared.Chosen.TheVariants as chosen
use Rattle.source.specs.Source.{Choice, found, stood_in, nothing, Source}
use Rattle.source.specs.Steps.{Shows, ChosenAs}
use Rattle.flc.specs.declared.Command.{Command}
use Rattle.drawing.specs.Drawing.{codes_of, mapped_codes, text_codes, with_choice, characters_of, byte_choice, trace_of}
use Rattle.drawing.specs.Steps.{with_character}
use Rattle.drawing.proofs.TextLaws.{rest_more}
use Rattle.checking.specs.declared.Tally.{Tally}
use Rattle.checking.specs.Steps.{tallied}
use Rattle.checking.proofs.TraceLaws.{TraceToward, trace-first, trace_next, trace-same, trace-end}
use Rattle.drawingcheck.specs.Steps.{GrowsBy, with_chosen}

-- A character b that is shown m wide, joined to a line of n columns, makes it one of w: the overlap is what both widths have more.
module _ (y : Mode) (h : ℕ) (s at : List ℕ) (line line' b : Block) (m : ℕ) (so : Shows s at m h b) (like : Like h line' (attached y h line b)) where
  overlap-told : line.width + m - line'.width ≡ overlap_with y h line b
  overlap-told = omega (arith, so.like.width, like.width, attached-wide y h line b, over_le y h y.direction line b)

  wide_enough : line'.width ≤ line.width + m
  wide_enough = omega (arith, so.like.width, like.width, attached-wide y h line b)

module _ (y : Mode) (h : ℕ) (s at : List ℕ) (line line' : Block) where
  pub chosen_grows : (r : Chosen) (x : Choice) → ChosenAs s at h r x → Like h line' (with_character y h x line) → GrowsBy r line.width line'.width
  chosen_grows (chosen.Character m true) (found b) z l = (wide_enough y h s at line line' b m z l, z.narrow)
  chosen_grows (chosen.Character m true) (stood_in b) z l = absurd z
  chosen_grows (chosen.Character m true) nothing z l = absurd z
  chosen_grows (chosen.Character m false) (found b) z l = absurd z
  chosen_grows (chosen.Character m false) (stood_in b) z l = (wide_enough y h s at line line' b m z l, z.narrow)
  chosen_grows (chosen.Character m false) nothing z l = absurd z
  chosen_grows chosen.Nothing x z l = tt

  module _ (all : List Block) (trace : List ℕ) (rest : List Block) where
    chosen_trace : (r : Chosen) (x : Choice) → ChosenAs s at h r x → Like h line' (with_character y h x line) → TraceToward y h all line trace (with_choice x rest) → TraceToward y h all line' (with_chosen r line.width line'.width trace) rest
    chosen_trace (chosen.Character m true) (found b) z l t = trace_next y h all line line' b trace _ rest t (overlap-told y h s at line line' b m z l) l
    chosen_trace (chosen.Character m true) (stood_in b) z l t = absurd z
    chosen_trace (chosen.Character m true) nothing z l t = absurd z
    chosen_trace (chosen.Character m false) (found b) z l t = absurd z
    chosen_trace (chosen.Character m false) (stood_in b) z l t = trace_next y h all line line' b trace _ rest t (overlap-told y h s at line line' b m z l) l
    chosen_trace (chosen.Character m false) nothing z l t = absurd z
    chosen_trace chosen.Nothing (found b) z l t = absurd z
    chosen_trace chosen.Nothing (stood_in b) z l t = absurd z
    chosen_trace chosen.Nothing nothing z l t = trace-same y h all line line' trace rest t l

few-more : (r : Chosen) (n w : ℕ) (trace : List ℕ) → length (with_chosen r n w trace) ≤ length trace + 1
few-more (chosen.Character m b) n w trace = omega (arith, length-append trace ((n + m - w) ∷ []))
few-more chosen.Nothing n w trace = omega arith

-- What is known of the list after the first i bytes of a text: the overlaps so far, and that the rest of the text has the rest of the trace.
module _ (y : Mode) (h : ℕ) (source : Source) (cs : List Command) (k : ℕ) (text overlaps : List ℕ) where
  abbrev rest_from : ℕ → List Block
  rest_from i = characters_of source (text_codes cs k (drop i text))

  abbrev characters : List Block
  characters = characters_of source (text_codes cs k text)

  pub record Traced (tally : Tally) (area : List ℕ) (n i : ℕ) : Type 0 where
    pub trace : List ℕ
    pub is : tally ≡ tallied overlaps trace
    pub few : length trace ≤ i
    pub toward : TraceToward y h characters (scratch_line y.direction n area) trace (rest_from i)

  pub traced_first : (tally : Tally) (area : List ℕ) → tally ≡ tallied overlaps [] → Traced tally area 0 0
  traced_first tally area e = record { trace = []; is = e; few = omega arith; toward = trace-first y h characters (scratch_line y.direction 0 area) (record { width = refl; cells = λ r j u v. absurd (omega arith) }) }

  module _ (tally : Tally) (area : List ℕ) (n i : ℕ) (so : Traced tally area n i) where
    pub traced_few : tally.drawn ≤ i
    traced_few = omega (arith, so.few, ap (λ (x : Tally). x.drawn) so.is)

    pub traced_end : length text ≤ i → tally ≡ tallied overlaps (trace_of y h source (text_codes cs k text)).overlaps
    unfolding trace_of codes_of mapped_codes characters_of
    traced_end u =
        let e : drop i text ≡ [] = drop_of_length-le text u in
        so.is ∙ ap (tallied overlaps) (trace-end y h characters (scratch_line y.direction n area) so.trace (subst (λ (t : List ℕ). TraceToward y h characters (scratch_line y.direction n area) so.trace (characters_of source (text_codes cs k t))) e so.toward))

    -- one byte more, for which r was chosen in bytes s; the line is then w wide
    module _ (u : i < length text) (s at : List ℕ) (r : Chosen) (z : ChosenAs s at h r (byte_choice source cs k (get_or text i 0))) (w : ℕ) (area' : List ℕ) (like : Like h (scratch_line y.direction w area') (with_character y h (byte_choice source cs k (get_or text i 0)) (scratch_line y.direction n area))) where
      pub traced_grows : GrowsBy r n w
      traced_grows = chosen_grows y h s at (scratch_line y.direction n area) (scratch_line y.direction w area') r (byte_choice source cs k (get_or text i 0)) z like

      pub traced_next : (tally' : Tally) → ((trace : List ℕ) → tally ≡ tallied overlaps trace → tally' ≡ tallied overlaps (with_chosen r n w trace)) → Traced tally' area' w (i + 1)
      traced_next tally' more =
          record {
            trace = with_chosen r n w so.trace;
            is = more so.trace so.is;
            few = omega (arith, so.few, few-more r n w so.trace);
            toward = chosen_trace y h s at (scratch_line y.direction n area) (scratch_line y.direction w area') characters so.trace (rest_from (i + 1)) r (byte_choice source cs k (get_or text i 0)) z like
                (subst (TraceToward y h characters (scratch_line y.direction n area) so.trace) (rest_more y h source cs k text i u) so.toward);
          }
