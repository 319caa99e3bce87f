-- Two texts drawn into the halves of a scratch area.
-- Assumes nothing.
use Rattle.std.specs.Prelude.{◌≡◌, ℕ, ◌≤◌, List, take, drop, Result, Ok, Err}
use Rattle.ground.specs.Limits.{max_line_width, min_scratch}
use Rattle.ground.specs.declared.refusals.Refusal.{Refusal}
use Rattle.subchars.specs.declared.Code.{Code}
use Rattle.subchars.specs.declared.Mode.{Mode}
use Rattle.source.specs.declared.Counts.{Counts}
use Rattle.source.specs.Source.{Source}
use Rattle.source.specs.Counting.{no_counts, counts_of}
use Rattle.stack.specs.declared.Stacked.{Stacked}
use Rattle.drawing.specs.Steps.{TextDrawn}
use Rattle.twolines.specs.declared.DrawnTexts.{DrawnTexts}
use Rattle.twolines.specs.TwoLines.{both_counts}

-- The codes of the upper text and of the lower one.
pub record BothDrawn (y : Mode) (h : ℕ) (source : Source) (us ls : List Code) (d : DrawnTexts) (scratch : List ℕ) : Type 0 where
  pub first : TextDrawn y h max_line_width source us d.upper (take min_scratch scratch)
  pub second : TextDrawn y h max_line_width source ls d.lower (drop min_scratch scratch)

-- Their counts, if both lines are within the limit.
pub record BothCounted (source : Source) (us ls : List Code) (d : DrawnTexts) (n : Counts) : Type 0 where
  pub counts : d.upper.width ≤ max_line_width → d.lower.width ≤ max_line_width → n ≡ both_counts (counts_of source us) (counts_of source ls)

-- The counts beside an answer of stacking.
abbrev pub counts_beside : Counts → Result Stacked Refusal → Counts
counts_beside n (Ok s) = n
counts_beside n (Err r) = no_counts
