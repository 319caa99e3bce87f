-- Cutting an input that arrives in parts, where little is kept of the line that a part leaves begun.
-- Assumes nothing.
use Rattle.std.specs.Prelude.{◌≡◌, ℕ, ◌+◌, ◌≤◌, ◌<◌, cond, List, [], ◌∷◌, ◌++◌, length, take, drop}
use Rattle.ground.specs.Limits.{max_text}
use Rattle.ground.specs.Text.{is_lf}
use Rattle.cutting.specs.Cut.{last}
use Rattle.cutting.specs.declared.Step.{Step}
use Rattle.cutting.specs.declared.Step.TheVariants.{Ended, Begun}

-- Of a line one byte more is kept than a text may have, so that a line that is too long stays too long.
abbrev pub most_kept : ℕ
most_kept = max_text + 1

abbrev pub clipped : List ℕ → List ℕ
clipped l = take most_kept l

-- The lines that end in a part, where p is kept of the line that it finds begun.
unfoldable pub ended : List ℕ → List ℕ → List (List ℕ)
ended p [] = []
ended p (x ∷ xs) = cond (is_lf x) (p ∷ ended [] xs) (ended (clipped (p ++ (x ∷ []))) xs)

-- What is kept of the line that a part leaves begun.
unfoldable pub begun : List ℕ → List ℕ → List ℕ
begun p [] = p
begun p (x ∷ xs) = cond (is_lf x) (begun [] xs) (begun (clipped (p ++ (x ∷ []))) xs)

-- The lines of parts, one after another; at the end of the input, what is kept of a line begun is the last line.
unfoldable pub cut_parts : List ℕ → List (List ℕ) → List (List ℕ)
cut_parts p [] = last p
cut_parts p (s ∷ ss) = ended p s ++ cut_parts (begun p s) ss

-- What a step finds in a part: the first line that ends there, after which the part goes on at `next` with no line begun; or that none
-- ends there, and what is then kept.
abbrev pub Steps : List ℕ → List ℕ → List ℕ → Step → Type 0
Steps p part line (Ended held next) =
    (held ≤ most_kept) ×
    (0 < next) ×
    (next ≤ length part) ×
    (ended p part ≡ take held line ∷ ended [] (drop next part)) ×
    (begun p part ≡ begun [] (drop next part))
Steps p part line (Begun held) = (held ≤ most_kept) × (ended p part ≡ []) × (begun p part ≡ take held line)
