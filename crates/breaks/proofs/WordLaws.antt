-- Words by their places.
-- Assumes nothing.
use mathlib.Core.Path.{◌≡◌, refl, sym, ◌∙◌, ap}
use mathlib.Core.Bool.{Bool, true, false, cond, not, ◌||◌}
use mathlib.Core.List.{List, [], ◌∷◌}
use Prim.Native.Nat.{ℕ, suc, ◌+◌, ◌-◌, ◌≤◌, ◌<◌}
use native.Mathlib.Omega.{arith}
use native.Mathlib.Decide.{dec_lt}
use lib.Dec.{eqb}
use lib.ListN.{length, drop, get_or, take, length-drop}
use Rattle.std.specs.List.{prefix_len, take_while}
use lib.Seq.{get_or-drop}
use borrow.Author.Tests.{eq-eqb, ne_eqb, eqb-true, not-true, not-false}
use Rattle.ground.specs.Runs.{run}
use Rattle.ground.proofs.Runs.{rest-is, run_le}
use Rattle.ground.proofs.Tests.{and_both, and_left, and_right, or_left, or_right, or_elim, never_both}
use Rattle.breaks.specs.Words.{is_break, in_word, word_from, word_behind, ends_word}
use Rattle.breaks.specs.Breaking.{largest}
use Rattle.breaks.specs.Steps.{last_behind}
use Rattle.breaks.proofs.Largest.{largest_le, largest-holds, largest-max, largest_next, run_at, run_end}

module _ (s : List ℕ) where
  -- the bytes of a run from a place on
  pub run-within : (p : ℕ → Bool) (b : ℕ) → b ≤ length s → b + run p (drop b s) ≤ length s
  run-within p b h = omega (arith, run_le p (drop b s), length-drop b s)

  pub run-place : (p : ℕ → Bool) (b k : ℕ) → b ≤ k → k < b + run p (drop b s) → p (get_or s k 0) ≡ true
  run-place p b k h l =
      let z : b + (k - b) ≡ k = omega arith in
      ap (λ (i : ℕ). p (get_or s i 0)) (sym z) ∙ (ap p (sym (get_or-drop b s (k - b) 0)) ∙ run_at p (drop b s) (k - b) (omega arith))

  pub run-behind : (p : ℕ → Bool) (b : ℕ) → b + run p (drop b s) < length s → p (get_or s (b + run p (drop b s)) 0) ≡ false
  run-behind p b h = ap p (sym (get_or-drop b s (run p (drop b s)) 0)) ∙ run_end p (drop b s) (omega (arith, length-drop b s))

  -- a byte that passes is in the run
  pub run-one : (p : ℕ → Bool) (b : ℕ) → b < length s → p (get_or s b 0) ≡ true → b < b + run p (drop b s)
  run-one p b h e =
      elim (dec_lt 0 (run p (drop b s))) [
        | yes l ↦ omega arith
        | no g ↦ let z : b + run p (drop b s) ≡ b = omega arith in absurd (never_both (p (get_or s b 0)) e (ap (λ (i : ℕ). p (get_or s i 0)) (sym z) ∙ run-behind p b (omega arith)))
      ]

  -- where a word starts, a byte of a word stands
  pub start_in_word : (p : ℕ) → word_from s p < length s → in_word (get_or s (word_from s p) 0) ≡ true
  start_in_word p h = ap not (run-behind is_break p h)

  -- a word ends where it ends
  pub word_ends : (b : ℕ) → b < length s → in_word (get_or s b 0) ≡ true → ends_word s (word_behind s b) ≡ true
  unfolding ends_word
  word_ends b h e =
      let w = word_behind s b in
      let l = run-one in_word b h e in
      let m = run-within in_word b (omega arith) in
      and_both (in_word (get_or s (w - 1) 0)) (eqb w (length s) || is_break (get_or s w 0)) (run-place in_word b (w - 1) (omega arith) (omega arith))
      (elim (dec_lt w (length s)) [
        | yes k ↦ or_right (eqb w (length s)) (is_break (get_or s w 0)) (not-false _ (run-behind in_word b k))
        | no g ↦ or_left (eqb w (length s)) (is_break (get_or s w 0)) (eq-eqb w (length s) (omega arith))
      ])

  -- before the end of a word stands a byte of it
  pub ends_in_word : (e : ℕ) → ends_word s e ≡ true → in_word (get_or s (e - 1) 0) ≡ true
  unfolding ends_word
  ends_in_word e t = and_left (in_word (get_or s (e - 1) 0)) _ t

  -- no word ends before the first does
  pub first-end : (b e : ℕ) → b < e → ends_word s e ≡ true → word_behind s b ≤ e
  unfolding ends_word
  first-end b e h t =
      elim (dec_lt e (word_behind s b)) [
        | yes l ↦ absurd (inside l)
        | no g ↦ omega arith
      ]
    where
      outside : e < word_behind s b → e ≡ length s → ⊥
      outside l z = omega (arith, run_le in_word (drop b s), length-drop b s)

      inside : e < word_behind s b → ⊥
      inside l =
          or_elim (eqb e (length s)) (is_break (get_or s e 0)) (and_right (in_word (get_or s (e - 1) 0)) _ t)
          (λ q. outside l (eqb-true e (length s) q))
          (λ q. never_both (is_break (get_or s e 0)) q (not-true _ (run-place in_word b e (omega arith) l)))

-- the bytes that are taken while they pass are a run
pub taken_run : (p : ℕ → Bool) (t : List ℕ) → length (take (prefix_len p t) t) ≡ run p t
unfolding run
taken_run p [] = refl
taken_run p (x ∷ xs) = go (p x) (taken_run p xs)
  where
    go : (b : Bool) → length (take (prefix_len p xs) xs) ≡ run p xs → length (take (cond b (1 + prefix_len p xs) 0) (x ∷ xs)) ≡ cond b (suc (run p xs)) 0
    go true e = let z : 1 + prefix_len p xs ≡ suc (prefix_len p xs) = omega arith in ap (λ (n : ℕ). length (take n (x ∷ xs))) z ∙ ap suc e
    go false e = refl

-- the blanks that stand behind place p, as they are counted
pub blanks_from : (s : List ℕ) (p n : ℕ) → n ≡ length (take_while (λ b. eqb b 32) (take (length s - p) (drop p s))) → n ≡ run is_break (drop p s)
blanks_from s p n e = e ∙ ap (λ (t : List ℕ). length (take_while is_break t)) (rest-is s p) ∙ taken_run is_break (drop p s)

-- where the last word ends
module _ (s : List ℕ) where
  abbrev ending : ℕ → Bool
  ending k = in_word (get_or s (k - 1) 0)

  pub behind_le : last_behind s ≤ length s
  unfolding last_behind
  behind_le = largest_le ending (length s)

  pub behind-max : (e : ℕ) → 0 < e → e ≤ length s → in_word (get_or s (e - 1) 0) ≡ true → e ≤ last_behind s
  unfolding last_behind
  behind-max e l m t = largest-max ending (length s) e l m t

  -- all bytes from there on are blanks
  pub behind_breaks : (k : ℕ) → last_behind s ≤ k → k < length s → is_break (get_or s k 0) ≡ true
  behind_breaks k l m = go (is_break (get_or s k 0)) refl
    where
      go : (t : Bool) → is_break (get_or s k 0) ≡ t → is_break (get_or s k 0) ≡ true
      go true e = e
      go false e = let z : k + 1 - 1 ≡ k = omega arith in absurd (omega (arith, behind-max (k + 1) (omega arith) (omega arith) (ap (λ (i : ℕ). in_word (get_or s i 0)) z ∙ ap not e)))

  behind_in_word : 0 < last_behind s → in_word (get_or s (last_behind s - 1) 0) ≡ true
  unfolding last_behind
  behind_in_word h = largest-holds ending (length s) h

  pub behind-ends : 0 < last_behind s → ends_word s (last_behind s) ≡ true
  unfolding ends_word
  behind-ends h =
      let e = last_behind s in
      and_both (in_word (get_or s (e - 1) 0)) (eqb e (length s) || is_break (get_or s e 0)) (behind_in_word h)
      (elim (dec_lt e (length s)) [
        | yes k ↦ or_right (eqb e (length s)) (is_break (get_or s e 0)) (behind_breaks e (omega arith) k)
        | no g ↦ or_left (eqb e (length s)) (is_break (get_or s e 0)) (eq-eqb e (length s) (omega (arith, behind_le)))
      ])

  -- no word ends further on
  pub behind-all : (e : ℕ) → 0 < e → e ≤ length s → ends_word s e ≡ true → e ≤ last_behind s
  unfolding ends_word
  behind-all e l m t = behind-max e l m (and_left (in_word (get_or s (e - 1) 0)) _ t)

  -- a search from the text's end
  abbrev pub LastUpTo : ℕ → Type 0
  LastUpTo e = (e ≤ length s) × (largest ending e ≡ last_behind s)

  pub last-all : LastUpTo (length s)
  unfolding last_behind
  last-all = (omega arith, refl)

  pub last_here : (e : ℕ) → 0 < e → (get_or s (e - 1) 0 ≡ 32 → ⊥) → LastUpTo e → e ≡ last_behind s
  last_here e h n l =
      let z : suc (e - 1) ≡ e = omega arith in
      let t : ending (suc (e - 1)) ≡ true = ap ending z ∙ ap not (ne_eqb (get_or s (e - 1) 0) 32 n) in
      omega (arith, l.1, ap (largest ending) z, largest_next ending (e - 1) true t)

  pub last_less : (e : ℕ) → 0 < e → get_or s (e - 1) 0 ≡ 32 → LastUpTo e → LastUpTo (e - 1)
  last_less e h n l =
      let z : suc (e - 1) ≡ e = omega arith in
      let t : ending (suc (e - 1)) ≡ false = ap ending z ∙ ap not (eq-eqb (get_or s (e - 1) 0) 32 n) in
      (omega (arith, l.0), omega (arith, l.1, ap (largest ending) z, largest_next ending (e - 1) false t))

  pub last_none : (e : ℕ) → e ≤ 0 → LastUpTo e → 0 ≡ last_behind s
  unfolding largest
  last_none e h l = let z : e ≡ 0 = omega arith in sym (ap (largest ending) z) ∙ l.1

  -- up to the last word's end a word follows, and from there on none
  pub word_before : (p : ℕ) → p < last_behind s → word_from s p < last_behind s
  word_before p h =
      elim (dec_lt (word_from s p) (last_behind s)) [
        | yes l ↦ l
        | no g ↦
            absurd (never_both (is_break (get_or s (last_behind s - 1) 0)) (run-place s is_break p (last_behind s - 1) (omega arith) (omega arith)) (not-true _ (behind_in_word (omega arith))))
      ]

  pub word_none : (p : ℕ) → last_behind s ≤ p → length s ≤ word_from s p
  word_none p h =
      elim (dec_lt (word_from s p) (length s)) [
        | yes l ↦ absurd (never_both (is_break (get_or s (word_from s p) 0)) (behind_breaks (word_from s p) (omega arith) l) (not-true _ (start_in_word s p l)))
        | no g ↦ omega arith
      ]
