-- What is cut from parts, one after another, is what is cut from the whole input, each line clipped.
-- Assumes nothing.
use mathlib.Core.Path.{◌≡◌, refl, sym, ◌∙◌, ap, ap₂}
use mathlib.Core.Bool.{Bool, true, false, cond}
use mathlib.Core.List.{List, [], ◌∷◌, ◌++◌, map, append-nil}
use Prim.Native.Nat.{ℕ, zero, suc, ◌≤◌}
use native.Mathlib.Omega.{arith}
use lib.ListN.{length, take, length-take}
use lib.Seq.{take_all, take-take}
use Rattle.ground.specs.Text.{is_lf}
use Rattle.cutting.specs.Cut.{last, before, cut}
use Rattle.cutting.specs.Parts.{most_kept, clipped, ended, begun, cut_parts}
use Rattle.ground.specs.Runs.{joined}
use Rattle.cutting.proofs.CutLaws.{before-none, before_more}

pub clipped-length : (l : List ℕ) → length (clipped l) ≤ most_kept
clipped-length l = omega (arith, length-take most_kept l)

pub clipped-all : (l : List ℕ) → length l ≤ most_kept → clipped l ≡ l
clipped-all l h = take_all most_kept l h

-- To clip what is clipped again later changes nothing.
take_front : (n : ℕ) (q l : List ℕ) → take n (take n q ++ l) ≡ take n (q ++ l)
take_front zero q l = refl
take_front (suc n) [] l = refl
take_front (suc n) (x ∷ q) l = ap (λ (t : List ℕ). x ∷ t) (take_front n q l)

pub clipped_front : (q l : List ℕ) → clipped (clipped q ++ l) ≡ clipped (q ++ l)
clipped_front q l = take_front most_kept q l

clipped-before : (q : List ℕ) (ls : List (List ℕ)) → map clipped (before (clipped q) ls) ≡ map clipped (before q ls)
clipped-before [] [] = refl
clipped-before (x ∷ q) [] = ap (λ (t : List ℕ). t ∷ []) (take-take most_kept most_kept (x ∷ q) (omega arith))
clipped-before q (l ∷ ls) = ap (λ (t : List ℕ). t ∷ map clipped ls) (clipped_front q l)

clipped-last : (p : List ℕ) → length p ≤ most_kept → last p ≡ map clipped (last p)
clipped-last [] h = refl
clipped-last (x ∷ p) h = ap (λ (t : List ℕ). t ∷ []) (sym (clipped-all (x ∷ p) h))

-- What the whole rest of an input gives, where p is kept of the line that it goes on with.
abbrev Whole : List ℕ → List ℕ → List (List ℕ)
Whole p s = map clipped (before p (cut s))

-- One part, before others.
part-first : (s p : List ℕ) (ss : List (List ℕ)) → length p ≤ most_kept → ((q : List ℕ) → length q ≤ most_kept → cut_parts q ss ≡ Whole q (joined ss)) → ended p s ++ cut_parts (begun p s) ss ≡ Whole p (s ++ joined ss)
unfolding ended begun cut
part-first [] p ss h f = f p h
part-first (x ∷ xs) p ss h f = go (is_lf x) (λ q k. part-first xs q ss k f)
  where
    go : (b : Bool) → ((q : List ℕ) → length q ≤ most_kept → ended q xs ++ cut_parts (begun q xs) ss ≡ Whole q (xs ++ joined ss)) → cond b (p ∷ ended [] xs) (ended (clipped (p ++ (x ∷ []))) xs) ++ cut_parts (cond b (begun [] xs) (begun (clipped (p ++ (x ∷ []))) xs)) ss ≡ map clipped (before p (cond b ([] ∷ cut (xs ++ joined ss)) (before (x ∷ []) (cut (xs ++ joined ss)))))
    go true g =
        ap₂ (λ (t : List ℕ) (ts : List (List ℕ)). t ∷ ts) (rw append-nil (sym (clipped-all p h)))
        (g [] (omega arith) ∙ ap (map clipped) (before-none (cut (xs ++ joined ss))))
    go false g =
        g (clipped (p ++ (x ∷ []))) (clipped-length (p ++ (x ∷ []))) ∙
        (clipped-before (p ++ (x ∷ [])) (cut (xs ++ joined ss)) ∙ ap (map clipped) (before_more p x (cut (xs ++ joined ss))))

parts_after : (ss : List (List ℕ)) (p : List ℕ) → length p ≤ most_kept → cut_parts p ss ≡ Whole p (joined ss)
unfolding cut_parts joined cut
parts_after [] p h = clipped-last p h
parts_after (s ∷ ss) p h = part-first s p ss h λ q k. parts_after ss q k

-- The lines that are cut from parts are those of the parts joined, each clipped.
pub parts_joined : (ss : List (List ℕ)) → cut_parts [] ss ≡ map clipped (cut (joined ss))
parts_joined ss = parts_after ss [] (omega arith) ∙ ap (map clipped) (before-none (cut (joined ss)))

-- How an input is split into parts changes nothing.
pub splits_alike : (ss ts : List (List ℕ)) → joined ss ≡ joined ts → cut_parts [] ss ≡ cut_parts [] ts
splits_alike ss ts e = parts_joined ss ∙ (ap (λ (s : List ℕ). map clipped (cut s)) e ∙ sym (parts_joined ts))
