-- Worked examples of a check: the FIGure of three characters, joined at the overlaps 1 and 2, is two rows of three columns.
-- Assumes nothing.
use mathlib.Core.Path.{◌≡◌, refl}
use mathlib.Core.List.{List, [], ◌∷◌}
use Rattle.std.specs.Prelude.{Result, Ok, Err}
use Prim.Native.Nat.{ℕ}
use Prim.Native.String.{String}
use Rattle.ground.specs.Text.{bytes}
use Rattle.ground.specs.Refusals.{refusal, wrong_length}
use Rattle.ground.specs.declared.refusals.Refusal.{Refusal}
use Rattle.checking.specs.declared.Verdict.{Verdict}
use Rattle.checking.specs.declared.Verdict.TheVariants.{Accepted, WrongOverlap, WrongByte}
use Rattle.checking.specs.Difference.{first_difference}
use Rattle.checking.specs.Verdict.{after_first, verdict}

-- The trace has the first character's overlap too, which is 0.
given : List ℕ → String → Result Verdict Refusal
given overlaps figure = verdict (after_first (0 ∷ 1 ∷ 2 ∷ [])) (bytes "/\\/\n\\/\\\n") overlaps (bytes figure)

as_drawn : given (1 ∷ 2 ∷ []) "/\\/\n\\/\\\n" ≡ Ok Accepted
unfolding given verdict first_difference
as_drawn = refl

cut_off : given (1 ∷ 2 ∷ []) "/\\/\n\\/\\" ≡ Ok (WrongByte 7)
unfolding given verdict first_difference
cut_off = refl

goes_on : given (1 ∷ 2 ∷ []) "/\\/\n\\/\\\n " ≡ Ok (WrongByte 8)
unfolding given verdict first_difference
goes_on = refl

blank_behind_row : given (1 ∷ 2 ∷ []) "/\\/ \n\\/\\\n" ≡ Ok (WrongByte 3)
unfolding given verdict first_difference
blank_behind_row = refl

no_figure : given (1 ∷ 2 ∷ []) "" ≡ Ok (WrongByte 0)
unfolding given verdict first_difference
no_figure = refl

one_too_small : given (1 ∷ 1 ∷ []) "/\\/\n\\/\\\n" ≡ Ok (WrongOverlap 1)
unfolding given verdict first_difference
one_too_small = refl

overlap_before_byte : given (0 ∷ 0 ∷ []) "" ≡ Ok (WrongOverlap 0)
unfolding given verdict first_difference
overlap_before_byte = refl

list_too_short : given (1 ∷ []) "/\\/\n\\/\\\n" ≡ Err (refusal wrong_length 0)
unfolding given verdict
list_too_short = refl

list_too_long : given (1 ∷ 2 ∷ 0 ∷ []) "" ≡ Err (refusal wrong_length 0)
unfolding given verdict
list_too_long = refl

-- For one character, and for none, the list is empty.
one_character : verdict (after_first (0 ∷ [])) (bytes "|\n") [] (bytes "|\n") ≡ Ok Accepted
unfolding verdict first_difference
one_character = refl

no_character : verdict (after_first []) (bytes "\n") [] (bytes "\n") ≡ Ok Accepted
unfolding verdict first_difference
no_character = refl

its_overlap_listed : verdict (after_first (0 ∷ [])) (bytes "|\n") (0 ∷ []) (bytes "|\n") ≡ Err (refusal wrong_length 0)
unfolding verdict
its_overlap_listed = refl
