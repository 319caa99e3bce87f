-- What one step finds in a part, by the place of its first LF.
-- Assumes nothing.
use mathlib.Core.Path.{◌≡◌, refl, sym, ◌∙◌, ap}
use mathlib.Core.Bool.{Bool, true, false, cond, not}
use mathlib.Core.List.{List, [], ◌∷◌, ◌++◌, append-nil, append_assoc}
use Prim.Native.Nat.{ℕ, suc, ◌+◌, ◌-◌, ◌≤◌, ◌<◌, min}
use native.Mathlib.Omega.{arith}
use native.Mathlib.Numerals.{add-one}
use lib.ListN.{length, take, drop, length-take}
use lib.Seq.{take_all, take-take}
use lib.Dec.{ltb}
use borrow.Author.Tests.{lt-ltb, le-ltb, eq-eqb, ne_eqb}
use native.Mathlib.Decide.{dec_lt}
use Rattle.std.specs.Prelude.{Some, None, unwrap_or}
use Rattle.std.specs.List.{position_or_len}
use Rattle.std.proofs.Math.Seq.{take-append_seam, take-append-add}
use Rattle.ground.proofs.Runs.{run_le}
use Rattle.ground.specs.Text.{byte, is_lf}
use Rattle.ground.specs.Runs.{run}
use Rattle.cutting.specs.Cut.{not_lf}
use Rattle.cutting.specs.Parts.{most_kept, clipped, ended, begun, Steps}
use Rattle.cutting.specs.declared.Step.{Step}
use Rattle.cutting.specs.declared.Step.TheVariants.{Ended, Begun}
use Rattle.cutting.proofs.PartLaws.{clipped-length, clipped-all, clipped_front}

-- The line that a part goes on with, up to its LF or to the part's end.
abbrev pub line_on : List ℕ → List ℕ → List ℕ
line_on p s = clipped (p ++ take (run not_lf s) s)

abbrev pub Ends : List ℕ → List ℕ → ℕ → Type 0
Ends p s n = (ended p s ≡ clipped (p ++ take n s) ∷ ended [] (drop (suc n) s)) × (begun p s ≡ begun [] (drop (suc n) s))

line-more : (p t : List ℕ) (x : ℕ) → clipped (clipped (p ++ (x ∷ [])) ++ t) ≡ clipped (p ++ (x ∷ t))
line-more p t x = clipped_front (p ++ (x ∷ [])) t ∙ ap clipped (append_assoc p (x ∷ []) t)

-- A line ends in the part.
pub step_ended : (s p : List ℕ) → length p ≤ most_kept → run not_lf s < length s → Ends p s (run not_lf s)
unfolding run not_lf ended begun
step_ended [] p h k = absurd (omega arith)
step_ended (x ∷ xs) p h k = go (is_lf x) k (λ q i j. step_ended xs q i j)
  where
    go : (b : Bool) → cond (not b) (suc (run not_lf xs)) 0 < suc (length xs) → ((q : List ℕ) → length q ≤ most_kept → run not_lf xs < length xs → Ends q xs (run not_lf xs)) → (cond b (p ∷ ended [] xs) (ended (clipped (p ++ (x ∷ []))) xs) ≡ clipped (p ++ take (cond (not b) (suc (run not_lf xs)) 0) (x ∷ xs)) ∷ ended [] (drop (cond (not b) (suc (run not_lf xs)) 0) xs)) × (cond b (begun [] xs) (begun (clipped (p ++ (x ∷ []))) xs) ≡ begun [] (drop (cond (not b) (suc (run not_lf xs)) 0) xs))
    go true l f = (ap (λ (t : List ℕ). t ∷ ended [] xs) (rw append-nil (sym (clipped-all p h))), refl)
    go false l f =
        let e = f (clipped (p ++ (x ∷ []))) (clipped-length (p ++ (x ∷ []))) (omega arith) in
        (e.0 ∙ ap (λ (t : List ℕ). t ∷ ended [] (drop (suc (run not_lf xs)) xs)) (line-more p (take (run not_lf xs) xs) x), e.1)

-- No line ends in the part.
pub step_begun : (s p : List ℕ) → length p ≤ most_kept → length s ≤ run not_lf s → (ended p s ≡ []) × (begun p s ≡ line_on p s)
unfolding run not_lf ended begun
step_begun [] p h k = (refl, rw append-nil (sym (clipped-all p h)))
step_begun (x ∷ xs) p h k = go (is_lf x) k (λ q i j. step_begun xs q i j)
  where
    go : (b : Bool) → suc (length xs) ≤ cond (not b) (suc (run not_lf xs)) 0 → ((q : List ℕ) → length q ≤ most_kept → length xs ≤ run not_lf xs → (ended q xs ≡ []) × (begun q xs ≡ line_on q xs)) → (cond b (p ∷ ended [] xs) (ended (clipped (p ++ (x ∷ []))) xs) ≡ []) × (cond b (begun [] xs) (begun (clipped (p ++ (x ∷ []))) xs) ≡ clipped (p ++ take (cond (not b) (suc (run not_lf xs)) 0) (x ∷ xs)))
    go true l f = absurd (omega arith)
    go false l f =
        let e = f (clipped (p ++ (x ∷ []))) (clipped-length (p ++ (x ∷ []))) (omega arith) in
        (e.0, e.1 ∙ line-more p (take (run not_lf xs) xs) x)

-- What a step answers, from the place `end` of the line's end and the bytes kept of the line.
module _ (held : ℕ) (line₀ line part : List ℕ) (end n : ℕ) (few : held ≤ most_kept) (kept : (n ≤ most_kept) × (take n line ≡ clipped (take held line₀ ++ take end part))) (found : end ≡ run not_lf part) where
  begun-few : length (take held line₀) ≤ most_kept
  begun-few = omega (arith, length-take held line₀)

  pub answers-ended : end < length part → Steps (take held line₀) part line (Ended n (end + 1))
  answers-ended h =
      let e = step_ended part (take held line₀) begun-few (rw found at h) in
      (kept.0, omega arith, omega arith, rw (kept.1, found, add-one (run not_lf part)) e.0, rw (found, add-one (run not_lf part)) e.1)

  pub answers-begun : length part ≤ end → Steps (take held line₀) part line (Begun n)
  answers-begun h =
      let e = step_begun part (take held line₀) begun-few (rw found at h) in
      (kept.0, e.0, e.1 ∙ sym (rw found at kept.1))

-- The test of one byte.
pub is_lf_lem : (x : ℕ) → x ≡ byte "\n" → not_lf x ≡ false
unfolding not_lf
is_lf_lem x e = ap not (eq-eqb x (byte "\n") e)

pub no_lf : (x : ℕ) → (x ≡ byte "\n" → ⊥) → not_lf x ≡ true
unfolding not_lf
no_lf x e = ap not (ne_eqb x (byte "\n") e)

-- The place of the first LF, or the end where there is none.
first-lf : (s : List ℕ) → position_or_len is_lf s ≡ run not_lf s
unfolding run not_lf
first-lf [] = refl
first-lf (x ∷ xs) = go (not (is_lf x)) (first-lf xs)
  where
    go : {m n : ℕ} (b : Bool) → m ≡ n → cond b (1 + m) 0 ≡ cond b (suc n) 0
    go true e = omega (arith, e)
    go false e = refl

found-or-end : (n m : ℕ) → n ≤ m → unwrap_or (cond (ltb n m) (Some n) None) m ≡ n
found-or-end n m h =
    elim (dec_lt n m) [
      | yes l ↦ rw (lt-ltb n m l)
      | no l ↦ rw (le-ltb n m (omega arith)) (omega arith)
    ]

pub first-or-end : (s : List ℕ) → unwrap_or (cond (ltb (position_or_len is_lf s) (length s)) (Some (position_or_len is_lf s)) None) (length s) ≡ run not_lf s
first-or-end s = rw (first-lf s) (found-or-end (run not_lf s) (length s) (run_le not_lf s))

-- What is copied behind the bytes that are kept stands behind them,
pub copied-behind : (p ys rest : List ℕ) (a n : ℕ) → length p ≡ a → length ys ≡ n → take (a + n) (p ++ (ys ++ rest)) ≡ p ++ ys
copied-behind p ys rest a n e f = rw (sym e, sym f) (take-append-add p (ys ++ rest) (length ys) ∙ ap (λ (t : List ℕ). p ++ t) (take-append_seam ys rest))

-- and of bytes behind p as many are kept as there is room for.
take-both : (s : List ℕ) (n m : ℕ) → take n (take m s) ≡ take (min m n) s
take-both s n m =
    elim (dec_lt n m) [
      | yes l ↦ let e : min m n ≡ n = omega arith in rw e (take-take n m s (omega arith))
      | no l ↦ let e : min m n ≡ m = omega arith in rw e (take_all n (take m s) (omega (arith, length-take m s)))
    ]

pub clipped-behind : (p s : List ℕ) (a end : ℕ) → length p ≡ a → a ≤ most_kept → p ++ take (min end (most_kept - a)) s ≡ clipped (p ++ take end s)
clipped-behind p s a end e h =
    let m : most_kept ≡ length p + (most_kept - a) = omega arith in
    ap (λ (t : List ℕ). p ++ t) (sym (take-both s (most_kept - a) end)) ∙ sym (ap (λ (n : ℕ). take n (p ++ take end s)) m ∙ take-append-add p (take end s) (most_kept - a))

-- What a caller reads off an answer.
pub step_ends : (p part line : List ℕ) (r : Step) (m next : ℕ) → r ≡ Ended m next → Steps p part line r → (m ≤ most_kept) × (0 < next) × (next ≤ length part)
step_ends p part line r m next e s = let t : Steps p part line (Ended m next) = rw e at s in (t.0, t.1, t.2)

pub step_begins : (p part line : List ℕ) (r : Step) (m : ℕ) → r ≡ Begun m → Steps p part line r → m ≤ most_kept
step_begins p part line r m e s = let t : Steps p part line (Begun m) = rw e at s in t.0
