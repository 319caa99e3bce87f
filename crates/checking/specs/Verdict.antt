-- What a check of another program's drawing answers: document 02, Q-8.
-- Assumes nothing.
use Rattle.std.specs.Prelude.{ℕ, cond, List, [], ◌∷◌, eqb, ltb, length, Option, Some, None, Result, Ok, Err}
use Rattle.ground.specs.Limits.{max_line_width}
use Rattle.ground.specs.Refusals.{refusal, line_too_wide, wrong_length}
use Rattle.ground.specs.declared.refusals.Refusal.{Refusal}
use Rattle.blocks.specs.Block.{Block}
use Rattle.showing.specs.Output.{shown}
use Rattle.checking.specs.declared.Verdict.{Verdict}
use Rattle.checking.specs.declared.Verdict.TheVariants.{Accepted, WrongOverlap, WrongByte}
use Rattle.checking.specs.Difference.{first_difference}

-- "The list has one overlap for each drawn character after the first." A trace has the overlap of each drawn character.
abbrev pub after_first : List ℕ → List ℕ
after_first [] = []
after_first (o ∷ os) = os

-- "The check names the first wrong overlap, else the first wrong byte": how the overlaps compare, and how the bytes do.
abbrev pub named : Option ℕ → Option ℕ → Verdict
named (Some k) bytes = WrongOverlap k
named None (Some p) = WrongByte p
named None None = Accepted

-- "Accept exactly if each overlap is the one of demand 3 and the bytes are the drawing": the right overlaps and the drawing, and what the other program gave. "A list of the wrong length is 25."
unfoldable pub verdict : List ℕ → List ℕ → List ℕ → List ℕ → Result Verdict Refusal
verdict right drawing overlaps figure =
    cond (eqb (length overlaps) (length right)) (Ok (named (first_difference right overlaps) (first_difference drawing figure))) (Err (refusal wrong_length 0))

-- "Refusals: the drawing's, first", of which a line has 16. The check of a line with the given hardblank, height and trace.
unfoldable pub line_checked : ℕ → ℕ → Block → List ℕ → List ℕ → List ℕ → Result Verdict Refusal
line_checked hardblank h line trace overlaps figure =
    cond (ltb max_line_width line.width) (Err (refusal line_too_wide 0)) (verdict (after_first trace) (shown hardblank h line) overlaps figure)
