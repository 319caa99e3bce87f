-- The last places of the small codes, as one pass over the codes finds them.
-- Assumes nothing.
use mathlib.Core.Path.{◌≡◌, refl, sym, ap, ◌∙◌, subst}
use mathlib.Core.Bool.{Bool, true, false, cond, true≢false}
use mathlib.Core.List.{List, ◌++◌}
use Prim.Native.Nat.{ℕ, ◌-◌, ◌+◌, ◌≤◌, ◌<◌}
use native.Mathlib.Omega.{arith}
use lib.Dec.{ltb, eqb}
use lib.IntN.{ℤ, pos, negsuc}
use lib.ListN.{length, get_or, take, set, replicate, length-set, length-replicate, get_or-replicate}
use lib.Seq.{get_or-set_same, get_or-set_other}
use borrow.Author.Tests.{ltb-true, ltb-false, eq-eqb, ne_eqb, eqb-true}
use Rattle.std.specs.Prelude.{Option, Some, None, SomeIff}
use Rattle.ground.proofs.Tests.{clash}
use Rattle.chars.specs.Codes.{same_number}
use Rattle.index.specs.LookUp.{last_at}
use Rattle.index.specs.Latest.{small_codes, small_of, place_plus_one, Latest, Noted}
use Rattle.index.proofs.FindLaws.{last_next}

-- a small code, and one that is not
pub small-below : (z : ℤ) (c : ℕ) → small_of z ≡ Some c → (z ≡ pos c) × (c < small_codes)
unfolding small_of
small-below (negsuc n) c e = clash (cc)
small-below (pos n) c e = go (ltb n small_codes) refl e
  where
    go : (b : Bool) → ltb n small_codes ≡ b → cond b (Some n) None ≡ Some c → (pos n ≡ pos c) × (c < small_codes)
    go true q e = let s : n ≡ c = cc in (ap pos s, subst (λ (j : ℕ). j < small_codes) s (ltb-true n small_codes q))
    go false q e = clash (cc)

pub small-beyond : (z : ℤ) (c : ℕ) → small_of z ≡ None → c < small_codes → same_number z (pos c) ≡ false
unfolding small_of
small-beyond (negsuc n) c e h = refl
small-beyond (pos n) c e h = go (ltb n small_codes) refl e
  where
    go : (b : Bool) → ltb n small_codes ≡ b → cond b (Some n) None ≡ None → eqb n c ≡ false
    go true q e = clash (cc)
    go false q e = let l = ltb-false n small_codes q in ne_eqb n c (λ (s : n ≡ c). omega arith)

pub noted_here : (z : ℤ) (c place : ℕ) (l : List ℕ) → small_of z ≡ Some c → length l ≡ small_codes → Noted z place l (set l c place)
noted_here z c place l e h = record { size = length-set l c place; places = λ j k. at j (eqb c j) refl ∙ ap (λ (y : ℤ). cond (same_number y (pos j)) place (get_or l j 0)) (sym (small-below z c e).0) }
  where
    at : (j : ℕ) (b : Bool) → eqb c j ≡ b → get_or (set l c place) j 0 ≡ cond (eqb c j) place (get_or l j 0)
    at j true q =
        let s = eqb-true c j q in
        ap (λ (i : ℕ). get_or (set l c place) i 0) (sym s) ∙ get_or-set_same l c place 0 (omega (arith, h, (small-below z c e).1)) ∙ sym (simp q)
    at j false q = get_or-set_other l c j place 0 (λ (s : j ≡ c). true≢false (sym (eq-eqb c j (sym s)) ∙ q)) ∙ sym (simp q)

pub noted_none : (z : ℤ) (place : ℕ) (l : List ℕ) → small_of z ≡ None → Noted z place l l
noted_none z place l e = record { size = refl; places = λ j k. sym (ap (λ (b : Bool). cond b place (get_or l j 0)) (small-beyond z j e k)) }

-- no code yet: a list of zeros
pub latest-none : (codes : List ℤ) (old new : List ℕ) → length old ≡ small_codes → new ≡ take 0 old ++ replicate (length old - 0) 0 → Latest (take 0 codes) new
unfolding last_at
latest-none codes old new h e = record { size = ap length zeros ∙ length-replicate {A = ℕ} small_codes 0; places = λ c k. ap (λ (l : List ℕ). get_or l c 0) zeros ∙ get_or-replicate small_codes c 0 0 k }
  where
    zeros : new ≡ replicate small_codes 0
    zeros = let n : length old - 0 ≡ small_codes = omega (arith, h) in e ∙ ap (λ (n : ℕ). replicate {A = ℕ} n 0) n

-- one code more
pub latest-more :
    (codes : List ℤ) (i : ℕ) (old new : List ℕ) →
    i < length codes → Latest (take i codes) old → Noted (get_or codes i (pos 0)) (i + 1) old new → Latest (take (i + 1) codes) new
latest-more codes i old new h l n = record { size = n.size ∙ l.size; places = at }
  where
    at : (c : ℕ) → c < small_codes → get_or new c 0 ≡ place_plus_one (last_at (pos c) (take (i + 1) codes))
    at c k =
        let b = same_number (get_or codes i (pos 0)) (pos c) in
        n.places c k ∙ ap (λ (p : ℕ). cond b (i + 1) p) (l.places c k) ∙ placing b (last_at (pos c) (take i codes)) ∙
        sym (ap place_plus_one (last_next (pos c) codes i h))
      where
        placing : (b : Bool) (r : Option ℕ) → cond b (i + 1) (place_plus_one r) ≡ place_plus_one (cond b (Some i) r)
        placing true r = omega arith
        placing false r = refl

-- what the list tells of a small code
module _ (codes : List ℤ) (latest : List ℕ) (z : ℤ) (c : ℕ) (l : Latest codes latest) (s : small_of z ≡ Some c) where
  told : get_or latest c 0 ≡ place_plus_one (last_at z codes)
  told = l.places c (small-below z c s).1 ∙ ap (λ (y : ℤ). place_plus_one (last_at y codes)) (sym (small-below z c s).0)

  pub latest-told : (r : Option ℕ) → SomeIff r (1 ≤ get_or latest c 0) (get_or latest c 0 - 1) → r ≡ last_at z codes
  latest-told r h = go r (last_at z codes) told h
    where
      go : (r x : Option ℕ) → get_or latest c 0 ≡ place_plus_one x → SomeIff r (1 ≤ get_or latest c 0) (get_or latest c 0 - 1) → r ≡ x
      go None None e h = refl
      go None (Some k) e h = absurd (h (omega (arith, e)))
      go (Some v) None e h = absurd (omega (arith, e, h.0))
      go (Some v) (Some k) e h = ap Some (omega (arith, e, h.1))
