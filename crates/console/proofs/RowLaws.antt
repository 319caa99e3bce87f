-- Where a line is drawn, its rows lie in the output.
-- Assumes nothing.
use mathlib.Core.Path.{◌≡◌, refl, ap, ◌∙◌}
use mathlib.Core.Bool.{Bool, true, false, cond}
use mathlib.Core.List.{List}
use Prim.Native.Nat.{ℕ, ◌+◌, ◌*◌, ◌≤◌}
use native.Mathlib.Omega.{arith}
use native.Mathlib.Decide.{dec_lt}
use lib.Dec.{ltb}
use lib.IntN.{ℤ}
use lib.ListN.{length}
use borrow.Author.Tests.{ltb-false}
use Rattle.ground.specs.Limits.{max_line_width, max_text}
use Rattle.ground.specs.Refusals.{refusal, line_too_wide, area_too_small}
use Rattle.ground.specs.declared.refusals.Refusal.{Refusal}
use Rattle.blocks.specs.Block.{Block}
use Rattle.showing.specs.Output.{output_of}
use Rattle.bothfiles.specs.declared.Files.{Files}
use Rattle.bothfiles.specs.declared.Files.TheVariants as files
use Rattle.std.specs.Prelude.{Ok, Err}
use Rattle.source.specs.declared.Counts.{Counts}
use Rattle.drawing.specs.declared.DrawAnswer.{DrawAnswer}
use Rattle.drawing.specs.declared.DrawAnswer.TheVariants.{Drawn, Refused}
use Rattle.drawing.specs.Drawing.{Lined, unlined, lined_of, with_counts, lined_answer, PutOut}
use Rattle.bothfiles.specs.Held.{FilesHeld}
use Rattle.source.proofs.CharacterLaws.{few-rows}
use Rattle.drawing.proofs.OutputLaws.{text-long, text-lined}
use Rattle.console.specs.Rows.{RowsFit}

-- A refused line has no width.
unlined-none : (l : Lined) (r : Refusal) (room w : ℕ) (n : Counts) → l ≡ unlined r → Drawn w n ≡ lined_answer l room → ⊥
unfolding lined_answer
unlined-none l r room w n e a =
    let b : Drawn w n ≡ Refused r = a ∙ ap (λ (k : Lined). lined_answer k room) e in
    let z : ◌≡◌ {A = ℕ} 0 1 = cc in
    omega arith

-- A line that is put out is at most 1,000 wide and has the room that it needs.
record Fits (h w room : ℕ) : Type 0 where
  pub narrow : w ≤ max_line_width
  pub inside : h * (w + 1) ≤ room

answer_cases : (p q : Bool) (v w : ℕ) (m n : Counts) → Drawn w n ≡ with_counts m (cond p (Err (refusal line_too_wide 0)) (cond q (Err (refusal area_too_small 0)) (Ok v))) → (p ≡ false) × (q ≡ false) × (w ≡ v)
answer_cases true q v w m n e = let z : ◌≡◌ {A = ℕ} 0 1 = cc in absurd (omega arith)
answer_cases false true v w m n e = let z : ◌≡◌ {A = ℕ} 0 1 = cc in absurd (omega arith)
answer_cases false false v w m n e = (refl, refl, cc)

drawn_fits : (h : ℕ) (line : Block) (room w : ℕ) (m n : Counts) → Drawn w n ≡ with_counts m (output_of h line room) → Fits h w room
unfolding output_of
drawn_fits h line room w m n a =
    let x = answer_cases (ltb max_line_width line.width) (ltb room (h * (line.width + 1))) line.width w m n a in
    record {
      narrow = rw x.2 (ltb-false max_line_width line.width x.0);
      inside = rw x.2 (ltb-false room (h * (line.width + 1)) x.1);
    }

module _ (s control text : List ℕ) (codes : List ℤ) (starts widths places stages : List ℕ) (firsts lasts news : List ℤ) (room w : ℕ) (counts : Counts) (out : List ℕ) where
  pub rows_in : (f : Files) → FilesHeld s control f codes starts widths places stages firsts lasts news → PutOut (lined_of s control text) room (Drawn w counts) out → RowsFit f w room
  unfolding lined_answer
  rows_in (files.Read h n m) held put =
      elim (dec_lt max_text (length text)) [
        | yes l ↦ absurd (unlined-none _ _ room w counts (text-long s control text h _ _ _ held.0.said held.1.said l) put.answers)
        | no l ↦
            let e = text-lined s control text h _ _ _ held.0.said held.1.said (omega arith) in
            let x = drawn_fits h.height _ room w _ counts (put.answers ∙ ap (λ (k : Lined). lined_answer k room) e) in
            record { few = few-rows s h n codes starts widths places held.0; narrow = x.narrow; inside = x.inside }
      ]
  rows_in (files.Refused r) held put = absurd (unlined-none _ r room w counts (held text) put.answers)

  -- The same of an answer, and of the output after it.
  pub rows_answered : (f : Files) → FilesHeld s control f codes starts widths places stages firsts lasts news → (a : DrawAnswer) (room' : ℕ) → a ≡ Drawn w counts → PutOut (lined_of s control text) room a out → room' ≡ room → RowsFit f w room'
  rows_answered f held a room' e put r = rw r (rows_in f held (rw e at put))
