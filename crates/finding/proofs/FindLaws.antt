-- What a look-up comes to, where one entry after another is seen.
-- Assumes nothing.
use mathlib.Core.Path.{◌≡◌, refl, sym, ap, ◌∙◌}
use mathlib.Core.Bool.{Bool, true, false, cond}
use mathlib.Core.List.{List, [], ◌∷◌, map}
use Rattle.std.specs.Prelude.{Option, Some, None}
use Prim.Native.Nat.{ℕ, zero, suc, ◌≤◌, ◌<◌, min}
use native.Mathlib.Omega.{arith}
use native.Mathlib.Numerals.{add-one}
use lib.Dec.{ltb}
use lib.IntN.{ℤ, pos}
use lib.ListN.{length, take, get_or, length-map, get_or-map}
use lib.Seq.{length-take-le, take-length, take_all}
use Rattle.std.specs.List.{fold}
use Rattle.std.proofs.lemmas.List.Sums.{fold_more}
use borrow.Author.Tests.{ltb-true, ltb-false}
use Rattle.subchars.specs.declared.Code.{Code}
use Rattle.chars.specs.declared.Entry.{Entry}
use Rattle.chars.specs.Codes.{code, same_number, same_code}
use Rattle.chars.specs.Chars.{entry}
use Rattle.index.specs.Index.{code_of}
use Rattle.index.specs.LookUp.{last_at}
use Rattle.index.proofs.FindLaws.{last_next, at_last}
use Rattle.reader.specs.declared.LookedUp.{LookedUp}
use Rattle.reader.specs.declared.LookedUp.TheVariants.{Found, StoodIn, Nothing}
use Rattle.reader.specs.Reader.{entry_at, at_found, last_of, which_of, looked_up}
use Rattle.finding.specs.Finding.{entry_tells, found_told}
use Rattle.finding.specs.Steps.{is_found, better}

-- what stands where a list has no entry
abbrev pub no_entry : Entry
no_entry = entry (code (pos 0)) 0 0

pub looked_none : (c : Code) → looked_up c [] ≡ Nothing
unfolding looked_up last_of last_at
looked_none c = refl

map-take : (n : ℕ) (es : List Entry) → map code_of (take n es) ≡ take n (map code_of es)
map-take zero es = refl
map-take (suc n) [] = refl
map-take (suc n) (e ∷ es) = ap (λ (l : List ℤ). code_of e ∷ l) (map-take n es)

entry-at : (n : ℕ) (es : List Entry) (k : ℕ) → k < n → n ≤ length es → entry_at (take n es) k ≡ Some (get_or es k no_entry)
unfolding entry_at
entry-at zero es k h m = absurd (omega arith)
entry-at (suc n) [] k h m = absurd (omega arith)
entry-at (suc n) (e ∷ es) zero h m = refl
entry-at (suc n) (e ∷ es) (suc k) h m = entry-at n es k (omega arith) (omega arith)

module _ (es : List Entry) (i : ℕ) (small : i < length es) where
  abbrev codes : List ℤ
  codes = map code_of es

  abbrev e : Entry
  e = get_or es i no_entry

  inside : (z : ℤ) (k : ℕ) → last_at z (take i codes) ≡ Some k → k < i
  inside z k p = omega (arith, (at_last z (take i codes) k p).inside, length-take-le i codes (omega (arith, length-map es code_of)))

  last_step : (z : ℤ) → last_at z (take (suc i) codes) ≡ cond (same_number e.code.0 z) (Some i) (last_at z (take i codes))
  last_step z =
      ap (λ (n : ℕ). last_at z (take n codes)) (sym (add-one i)) ∙ last_next z codes i (omega (arith, length-map es code_of)) ∙
      ap (λ (x : ℤ). cond (same_number x z) (Some i) (last_at z (take i codes))) (get_or-map code_of es i no_entry)

  -- the last entry of a code among one entry more
  last_of_next : (z : ℤ) → last_of z (take (suc i) es) ≡ cond (same_number e.code.0 z) (Some e) (last_of z (take i es))
  unfolding last_of
  last_of_next z =
      ap (λ (l : List ℤ). at_found (last_at z l) (take (suc i) es)) (map-take (suc i) es) ∙ ap (λ (f : Option ℕ). at_found f (take (suc i) es)) (last_step z) ∙
      go (same_number e.code.0 z) (last_at z (take i codes)) refl ∙
      ap (λ (l : List ℤ). cond (same_number e.code.0 z) (Some e) (at_found (last_at z l) (take i es))) (sym (map-take i es))
    where
      go : (b : Bool) (f : Option ℕ) → last_at z (take i codes) ≡ f → at_found (cond b (Some i) f) (take (suc i) es) ≡ cond b (Some e) (at_found f (take i es))
      go true f p = entry-at (suc i) es i (omega arith) small
      go false (Some k) p = let h = inside z k p in entry-at (suc i) es k (omega arith) small ∙ sym (entry-at i es k h (omega arith))
      go false None p = refl

  -- what the look-up comes to among one entry more
  pub looked_next : (c : Code) → better c (looked_up c (take i es)) e ≡ looked_up c (take (suc i) es)
  unfolding better looked_up
  looked_next c = sym (
      (λ j. which_of (last_of_next c.0 j) (last_of_next (pos 0) j)) ∙
      go (same_number e.code.0 c.0) (same_number e.code.0 (pos 0)) (last_of c.0 (take i es)) (last_of (pos 0) (take i es)))
    where
      go : (own zeroed : Bool) (u v : Option Entry) → which_of (cond own (Some e) u) (cond zeroed (Some e) v) ≡ cond own (Found e) (cond (is_found (which_of u v)) (which_of u v) (cond zeroed (StoodIn e) (which_of u v)))
      go true zeroed u v = refl
      go false zeroed (Some d) v = refl
      go false true None (Some d) = refl
      go false true None None = refl
      go false false None (Some d) = refl
      go false false None None = refl

-- What is seen of all entries, one after another.
pub seen_all : (c : Code) (es : List Entry) → fold (better c) Nothing es ≡ looked_up c es
seen_all c es = sym (ap (fold (better c) Nothing) (take-length es)) ∙ go (length es) (omega arith) ∙ ap (looked_up c) (take-length es)
  where
    go : (i : ℕ) → i ≤ length es → fold (better c) Nothing (take i es) ≡ looked_up c (take i es)
    go zero h = sym (looked_none c)
    go (suc i) h =
        ap (λ (n : ℕ). fold (better c) Nothing (take n es)) (sym (add-one i)) ∙ fold_more (better c) Nothing es i no_entry (omega arith) ∙
        ap (λ (u : LookedUp). better c u (get_or es i no_entry)) (go i (omega arith)) ∙ looked_next es i (omega arith) c

-- The same by the tests that decide on it.
module _ (c : Code) (u : LookedUp) (e : Entry) where
  pub better_own : same_code e.code c ≡ true → Found e ≡ better c u e
  unfolding better
  better_own p = simp p

  module _ (p : same_code e.code c ≡ false) where
    pub better-before : is_found u ≡ true → u ≡ better c u e
    unfolding better
    better-before q = simp (p, q)

    module _ (q : is_found u ≡ false) where
      pub better-zero : same_code e.code (code (pos 0)) ≡ true → StoodIn e ≡ better c u e
      unfolding better
      better-zero r = simp (p, q, r)

      pub better-none : same_code e.code (code (pos 0)) ≡ false → u ≡ better c u e
      unfolding better
      better-none r = simp (p, q, r)

-- A count beyond the list's end is its length.
pub find_told_lem : (c : Code) (es : List Entry) (count : ℕ) → entry_tells (looked_up c (take (min count (length es)) es)) ≡ found_told es count c
unfolding found_told
find_told_lem c es count = ap (λ (l : List Entry). entry_tells (looked_up c l)) (go (ltb count (length es)) refl)
  where
    go : (b : Bool) → ltb count (length es) ≡ b → take (min count (length es)) es ≡ take count es
    go true h = let e : min count (length es) ≡ count = omega (arith, ltb-true count (length es) h) in ap (λ (n : ℕ). take n es) e
    go false h =
        let m : length es ≤ count = ltb-false count (length es) h in
        take_all (min count (length es)) es (omega arith) ∙ sym (take_all count es m)
