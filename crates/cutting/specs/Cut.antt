-- The lines of a program's input: document 01, "draws each LF-ended line of standard input (a last one without LF counts ..)".
-- Assumes nothing.
use Rattle.std.specs.Prelude.{ℕ, Bool, cond, not, List, [], ◌∷◌, ◌++◌}
use Rattle.ground.specs.Text.{is_lf}

unfoldable pub not_lf : ℕ → Bool
not_lf x = not (is_lf x)

-- "A last one without LF counts." Nothing after a last LF is no line.
abbrev pub last : List ℕ → List (List ℕ)
last [] = []
last (x ∷ xs) = (x ∷ xs) ∷ []

-- Bytes put before the first of the lines.
abbrev pub before : List ℕ → List (List ℕ) → List (List ℕ)
before p [] = last p
before p (l ∷ ls) = (p ++ l) ∷ ls

-- Each LF ends a line, which may be empty; every other byte belongs to its line.
unfoldable pub cut : List ℕ → List (List ℕ)
cut [] = []
cut (x ∷ xs) = cond (is_lf x) ([] ∷ cut xs) (before (x ∷ []) (cut xs))
