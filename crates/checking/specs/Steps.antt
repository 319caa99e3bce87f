-- What is known of another program's list of overlaps while a text is drawn.
-- Assumes nothing.
use Rattle.std.specs.Prelude.{ℕ, List, length, take, Option, Some, None}
use Rattle.checking.specs.declared.Tally.{Tally}
use Rattle.checking.specs.Difference.{first_difference}
use Rattle.checking.specs.Verdict.{after_first}

-- The right overlaps so far, compared with as many of the list.
abbrev pub so_far : List ℕ → List ℕ → Option ℕ
so_far right overlaps = first_difference right (take (length right) overlaps)

-- With a wrong one behind them, which has number k: the first is named.
abbrev pub first_wrong_of : Option ℕ → ℕ → Option ℕ
first_wrong_of None k = Some k
first_wrong_of (Some first) k = Some first

-- The list, and the trace of the characters drawn so far.
abbrev pub tallied : List ℕ → List ℕ → Tally
tallied overlaps trace = record { drawn = length trace; wrong = so_far (after_first trace) overlaps }
