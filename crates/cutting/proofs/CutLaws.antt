-- Which lines an input has: up to each LF one, and what stands behind the last LF.
-- Assumes nothing.
use mathlib.Core.Path.{◌≡◌, refl, ◌∙◌, ap}
use mathlib.Core.Bool.{Bool, true, false, cond, not, ◌&&◌}
use mathlib.Core.List.{List, [], ◌∷◌, ◌++◌, append_assoc}
use Prim.Native.Nat.{ℕ}
use Rattle.ground.specs.Text.{byte, is_lf}
use Rattle.ground.specs.Runs.{all}
use Rattle.cutting.specs.Cut.{not_lf, last, before, cut}

pub before-none : (ls : List (List ℕ)) → before [] ls ≡ ls
before-none [] = refl
before-none (l ∷ ls) = refl

pub before_more : (p : List ℕ) (x : ℕ) (ls : List (List ℕ)) → before (p ++ (x ∷ [])) ls ≡ before p (before (x ∷ []) ls)
before_more [] x [] = refl
before_more (y ∷ p) x [] = refl
before_more p x (l ∷ ls) = ap (λ (t : List ℕ). t ∷ ls) (append_assoc p (x ∷ []) l)

-- An LF ends the line before it, and what follows has its own lines.
pub line-ended : (l s : List ℕ) → all not_lf l ≡ true → cut (l ++ (byte "\n" ∷ s)) ≡ l ∷ cut s
unfolding cut all not_lf
line-ended [] s h = refl
line-ended (x ∷ l) s h = go (is_lf x) h (line-ended l s)
  where
    go : (b : Bool) → (not b && all not_lf l) ≡ true → (all not_lf l ≡ true → cut (l ++ (byte "\n" ∷ s)) ≡ l ∷ cut s) → cond b ([] ∷ cut (l ++ (byte "\n" ∷ s))) (before (x ∷ []) (cut (l ++ (byte "\n" ∷ s)))) ≡ (x ∷ l) ∷ cut s
    go true k f = cc
    go false k f = ap (before (x ∷ [])) (f k)

-- Bytes without LF are one line, if there are any.
pub line-last : (l : List ℕ) → all not_lf l ≡ true → cut l ≡ last l
unfolding cut all not_lf
line-last [] h = refl
line-last (x ∷ l) h = go (is_lf x) h (line-last l)
  where
    go : (b : Bool) → (not b && all not_lf l) ≡ true → (all not_lf l ≡ true → cut l ≡ last l) → cond b ([] ∷ cut l) (before (x ∷ []) (cut l)) ≡ (x ∷ l) ∷ []
    go true k f = cc
    go false k f = ap (before (x ∷ [])) (f k) ∙ before_last l
      where
        before_last : (t : List ℕ) → before (x ∷ []) (last t) ≡ (x ∷ t) ∷ []
        before_last [] = refl
        before_last (y ∷ t) = refl
