-- Each answer of a drawing from a source, behind what the source's own files refuse, is given exactly when documents 01 and 02 say so.
-- Assumes nothing.
use mathlib.Core.Path.{◌≡◌, refl, sym, ap, ◌∙◌, subst}
use mathlib.Core.Bool.{Bool, true, false}
use mathlib.Core.List.{List}
use Prim.Native.Nat.{ℕ, ◌+◌, ◌*◌, ◌≤◌, ◌<◌}
use lib.Dec.{ltb}
use lib.ListN.{length}
use borrow.Author.Tests.{ltb-true, ltb-false}
use Rattle.ground.specs.Limits.{max_line_width, max_text}
use Rattle.ground.specs.Refusals.{refusal, area_too_small, text_too_long, line_too_wide}
use Rattle.ground.specs.declared.refusals.Refusal.{Refusal}
use Rattle.subchars.specs.declared.Mode.{Mode}
use Rattle.blocks.specs.Block.{Block}
use Rattle.showing.specs.Output.{output_of}
use Rattle.showing.proofs.Showing.{too_wide, no_room, drawn}
use Rattle.flc.specs.declared.Command.{Command}
use Rattle.flc.specs.Control as flc
use Rattle.source.specs.declared.Counts.{Counts}
use Rattle.source.specs.Source.{Source}
use Rattle.source.specs.Counting.{counts_of}
use Rattle.drawing.specs.declared.DrawAnswer.{DrawAnswer}
use Rattle.drawing.specs.declared.DrawAnswer.TheVariants.{Drawn, Refused}
use Rattle.drawing.specs.Drawing.{text_codes, line_of, Lined, lined_from, with_counts, lined_answer}
use Rattle.drawing.proofs.OutputLaws.{source-long, source-lined}

module _ (y : Mode) (h : ℕ) (source : Source) (control text : List ℕ) (room : ℕ) where
  -- The line of the text by the commands of the control file, its counts, and the bytes that it takes.
  abbrev pub line_by : List Command → ℕ → Block
  line_by cs k = line_of y h source (text_codes cs k text)

  abbrev pub counts_by : List Command → ℕ → Counts
  counts_by cs k = counts_of source (text_codes cs k text)

  abbrev pub bytes_by : List Command → ℕ → ℕ
  bytes_by cs k = h * ((line_by cs k).width + 1)

  -- "The control file's, 15, 16, then 9 for the output"; otherwise the width and the counts.
  pub data DrawsFrom : DrawAnswer → Type 0 where
    control-refused : (r : Refusal) → flc.control control ≡ flc.refuses r → DrawsFrom (Refused r)
    text_too_long_lem : (cs : List Command) (k : ℕ) → flc.control control ≡ flc.reads cs k → max_text < length text → DrawsFrom (Refused (refusal text_too_long 0))
    line_too_wide_lem : (cs : List Command) (k : ℕ) → flc.control control ≡ flc.reads cs k → length text ≤ max_text → max_line_width < (line_by cs k).width → DrawsFrom (Refused (refusal line_too_wide 0))
    output-small : (cs : List Command) (k : ℕ) → flc.control control ≡ flc.reads cs k → length text ≤ max_text → (line_by cs k).width ≤ max_line_width → room < bytes_by cs k → DrawsFrom (Refused (refusal area_too_small 0))
    draws : (cs : List Command) (k : ℕ) → flc.control control ≡ flc.reads cs k → length text ≤ max_text → (line_by cs k).width ≤ max_line_width → bytes_by cs k ≤ room → DrawsFrom (Drawn (line_by cs k).width (counts_by cs k))

  abbrev pub answer : DrawAnswer
  answer = lined_answer (lined_from y h source (flc.control control) text) room

  put_by : (cs : List Command) (k : ℕ) → flc.control control ≡ flc.reads cs k → length text ≤ max_text → answer ≡ with_counts (counts_by cs k) (output_of h (line_by cs k) room)
  unfolding lined_answer
  put_by cs k c l = ap (λ (x : Lined). lined_answer x room) (source-lined y h source control text cs k c l)

  -- Each of these gives its answer,
  pub gives : (a : DrawAnswer) → DrawsFrom a → answer ≡ a
  unfolding lined_answer
  gives _ (control-refused r c) = ap (λ (x : flc.ControlReading). lined_answer (lined_from y h source x text) room) c
  gives _ (text_too_long_lem cs k c l) = ap (λ (x : Lined). lined_answer x room) (source-long y h source control text cs k c l)
  gives _ (line_too_wide_lem cs k c l w) = put_by cs k c l ∙ ap (with_counts (counts_by cs k)) (sym (too_wide 0 h (line_by cs k) room w))
  gives _ (output-small cs k c l w m) = put_by cs k c l ∙ ap (with_counts (counts_by cs k)) (sym (no_room 0 h (line_by cs k) room w m))
  gives _ (draws cs k c l w m) = put_by cs k c l ∙ ap (with_counts (counts_by cs k)) (sym (drawn 0 h (line_by cs k) room w m))

  -- and the answer is one of them.
  pub one_of : DrawsFrom answer
  one_of = by-control (flc.control control) refl
    where
      as_told : (a : DrawAnswer) → DrawsFrom a → DrawsFrom answer
      as_told a d = subst DrawsFrom (sym (gives a d)) d

      by-room : (cs : List Command) (k : ℕ) → flc.control control ≡ flc.reads cs k → length text ≤ max_text → (line_by cs k).width ≤ max_line_width → (b : Bool) → ltb room (bytes_by cs k) ≡ b → DrawsFrom answer
      by-room cs k c l w true e = as_told _ (output-small cs k c l w (ltb-true room (bytes_by cs k) e))
      by-room cs k c l w false e = as_told _ (draws cs k c l w (ltb-false room (bytes_by cs k) e))

      by_width : (cs : List Command) (k : ℕ) → flc.control control ≡ flc.reads cs k → length text ≤ max_text → (b : Bool) → ltb max_line_width (line_by cs k).width ≡ b → DrawsFrom answer
      by_width cs k c l true e = as_told _ (line_too_wide_lem cs k c l (ltb-true max_line_width (line_by cs k).width e))
      by_width cs k c l false e = by-room cs k c l (ltb-false max_line_width (line_by cs k).width e) (ltb room (bytes_by cs k)) refl

      by-text : (cs : List Command) (k : ℕ) → flc.control control ≡ flc.reads cs k → (b : Bool) → ltb max_text (length text) ≡ b → DrawsFrom answer
      by-text cs k c true e = as_told _ (text_too_long_lem cs k c (ltb-true max_text (length text) e))
      by-text cs k c false e = by_width cs k c (ltb-false max_text (length text) e) (ltb max_line_width (line_by cs k).width) refl

      by-control : (x : flc.ControlReading) → flc.control control ≡ x → DrawsFrom answer
      by-control (flc.refuses r) c = as_told _ (control-refused r c)
      by-control (flc.reads cs k) c = by-text cs k c (ltb max_text (length text)) refl
