-- Where two lists of numbers first differ: one definition for the bytes of two FIGures and for two lists of overlaps. Document 02, Q-8.
-- Assumes nothing.
use Rattle.std.specs.Prelude.{ℕ, suc, cond, List, [], ◌∷◌, eqb, Option, Some, None}

-- One place further on.
abbrev pub further : Option ℕ → Option ℕ
further None = None
further (Some k) = Some (suc k)

-- "The first wrong byte; where one FIGure is the start of the other, that is the shorter one's end."
unfoldable pub first_difference : List ℕ → List ℕ → Option ℕ
first_difference [] [] = None
first_difference [] (y ∷ ys) = Some 0
first_difference (x ∷ xs) [] = Some 0
first_difference (x ∷ xs) (y ∷ ys) = cond (eqb x y) (further (first_difference xs ys)) (Some 0)
