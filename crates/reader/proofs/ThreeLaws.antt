-- Which of three a look-up came to: each exactly where the entries say so, and told by the code of the entry that is used.
-- Assumes nothing.
use mathlib.Core.Path.{◌≡◌, refl, sym, ap, ◌∙◌}
use mathlib.Core.Bool.{true, false, true≢false}
use mathlib.Core.List.{List, [], ◌∷◌, map}
use mathlib.Core.Logic.{◌↔◌}
use Prim.Native.Nat.{ℕ, zero, suc, ◌<◌}
use native.Mathlib.Omega.{arith}
use lib.IntN.{ℤ, pos}
use lib.ListN.{length, get_or, length-map}
use Rattle.std.specs.Prelude.{Option, Some, None}
use Rattle.ground.proofs.Tests.{clash}
use Rattle.subchars.specs.declared.Code.{Code}
use Rattle.chars.specs.declared.Entry.{Entry}
use Rattle.chars.specs.Codes.{code, same_number, same_code}
use Rattle.chars.specs.Chars.{entry}
use Rattle.index.specs.Index.{code_of, start_of, width_of}
use Rattle.index.specs.LookUp.{last_at, or_stand_in, look_up}
use Rattle.index.proofs.FindLaws.{at_last, nowhere_none, NoneHas}
use Rattle.reader.specs.declared.LookedUp.TheVariants as three
use Rattle.reader.specs.Reader.{entry_at, at_found, used, last_of, which_of, looked_up}
use Rattle.reader.proofs.UseLaws.{entry_parts}

-- The entry at a place has the code that the codes have there.
code-there : (es : List Entry) (k : ℕ) (e : Entry) → k < length es → entry_at es k ≡ Some e → get_or (map code_of es) k (pos 0) ≡ e.code.0
code-there es k e h p =
    let y = sym (entry_parts es k h) ∙ p in
    let w : entry (code (get_or (map code_of es) k (pos 0))) (get_or (map start_of es) k 0) (get_or (map width_of es) k 0) ≡ e = cc in
    ap (λ (x : Entry). x.code.0) w

at-inside : (es : List Entry) (k : ℕ) (e : Entry) → entry_at es k ≡ Some e → k < length es
unfolding entry_at
at-inside [] k e p = clash (cc)
at-inside (d ∷ es) zero e p = omega arith
at-inside (d ∷ es) (suc k) e p = omega (arith, at-inside es k e p)

-- Some entry has a code.
pub record Has (z : ℤ) (es : List Entry) : Type 0 where
  pub place : ℕ
  pub entry : Entry
  pub there : entry_at es place ≡ Some entry
  pub same : same_number entry.code.0 z ≡ true

module _ (z : ℤ) (es : List Entry) where
  abbrev codes : List ℤ
  codes = map code_of es

  -- the last entry of a code has it
  pub last-same : (e : Entry) → last_of z es ≡ Some e → (k : ℕ) × (entry_at es k ≡ Some e) × (same_number e.code.0 z ≡ true)
  unfolding last_of
  last-same e p = go (last_at z codes) refl p
    where
      go : (f : Option ℕ) → last_at z codes ≡ f → at_found f es ≡ Some e → (k : ℕ) × (entry_at es k ≡ Some e) × (same_number e.code.0 z ≡ true)
      go (Some k) q r =
          let l = at_last z codes k q in
          let h : k < length es = omega (arith, l.inside, length-map es code_of) in
          (k, r, ap (λ (x : ℤ). same_number x z) (sym (code-there es k e h r)) ∙ l.same)
      go None q r = clash (cc)

  -- without a last entry of a code no entry has it
  last_none : last_of z es ≡ None → (k : ℕ) (e : Entry) → entry_at es k ≡ Some e → same_number e.code.0 z ≡ false
  unfolding last_of NoneHas
  last_none p k e q = go (last_at z codes) refl p
    where
      go : (f : Option ℕ) → last_at z codes ≡ f → at_found f es ≡ None → same_number e.code.0 z ≡ false
      go (Some j) r y = let w = sym (entry_parts es j (omega (arith, (at_last z codes j r).inside, length-map es code_of))) ∙ y in clash (cc)
      go None r y =
          let h = at-inside es k e q in
          ap (λ (x : ℤ). same_number x z) (sym (code-there es k e h q)) ∙ nowhere_none z codes r k (omega (arith, h, length-map es code_of))

  last_has : (e : Entry) → last_of z es ≡ Some e → Has z es
  last_has e p = let l = last-same e p in record { place = l.0; entry = e; there = l.1; same = l.2 }

  none_has : last_of z es ≡ None → Has z es → ⊥
  none_has p h = true≢false (sym h.same ∙ last_none p h.place h.entry h.there)

  has_last : Has z es → (e : Entry) × (last_of z es ≡ Some e)
  has_last h = go (last_of z es) refl
    where
      go : (u : Option Entry) → last_of z es ≡ u → (e : Entry) × (last_of z es ≡ Some e)
      go (Some e) p = (e, p)
      go None p = absurd (none_has p h)

  has-none : (Has z es → ⊥) → last_of z es ≡ None
  has-none n = go (last_of z es) refl
    where
      go : (u : Option Entry) → last_of z es ≡ u → last_of z es ≡ None
      go (Some e) p = absurd (n (last_has e p))
      go None p = p

module _ (c : Code) (es : List Entry) where
  abbrev own : Option Entry
  own = last_of c.0 es

  abbrev zeroth : Option Entry
  zeroth = last_of (pos 0) es

  looked : (u z : Option Entry) → own ≡ u → zeroth ≡ z → looked_up c es ≡ which_of u z
  unfolding looked_up
  looked u z p q = λ i. which_of (p i) (q i)

  -- "Found as itself": exactly if some entry has the code; what is found is the last that has it.
  pub found_exactly : ((e : Entry) × (looked_up c es ≡ three.Found e)) ↔ Has c.0 es
  found_exactly = (λ p. to p.0 own refl zeroth refl p.1, λ h. let l = has_last c.0 es h in (l.0, looked (Some l.0) zeroth l.1 refl))
    where
      to : (e : Entry) (u : Option Entry) → own ≡ u → (z : Option Entry) → zeroth ≡ z → looked_up c es ≡ three.Found e → Has c.0 es
      to e (Some d) p z q r = last_has c.0 es d p
      to e None p (Some d) q r = let y = sym (looked _ _ p q) ∙ r in clash (cc)
      to e None p None q r = let y = sym (looked _ _ p q) ∙ r in clash (cc)

  -- "Stood in by code 0": exactly if none has it and some entry has code 0
  pub stood_in_exactly : ((e : Entry) × (looked_up c es ≡ three.StoodIn e)) ↔ ((Has c.0 es → ⊥) × Has (pos 0) es)
  stood_in_exactly = (λ p. to p.0 own refl zeroth refl p.1, λ h. let l = has_last (pos 0) es h.1 in (l.0, looked None (Some l.0) (has-none c.0 es h.0) l.1))
    where
      to : (e : Entry) (u : Option Entry) → own ≡ u → (z : Option Entry) → zeroth ≡ z → looked_up c es ≡ three.StoodIn e → (Has c.0 es → ⊥) × Has (pos 0) es
      to e (Some d) p z q r = let y = sym (looked _ z p q) ∙ r in clash (cc)
      to e None p (Some d) q r = (none_has c.0 es p, last_has (pos 0) es d q)
      to e None p None q r = let y = sym (looked _ _ p q) ∙ r in clash (cc)

  -- "Or nothing": exactly if neither
  pub nothing_exactly : looked_up c es ≡ three.Nothing ↔ ((Has c.0 es → ⊥) × (Has (pos 0) es → ⊥))
  nothing_exactly = (to own refl zeroth refl, λ h. looked None None (has-none c.0 es h.0) (has-none (pos 0) es h.1))
    where
      to : (u : Option Entry) → own ≡ u → (z : Option Entry) → zeroth ≡ z → looked_up c es ≡ three.Nothing → (Has c.0 es → ⊥) × (Has (pos 0) es → ⊥)
      to (Some d) p z q r = let y = sym (looked _ z p q) ∙ r in clash (cc)
      to None p (Some d) q r = let y = sym (looked _ _ p q) ∙ r in clash (cc)
      to None p None q r = (none_has c.0 es p, none_has (pos 0) es q)

  -- The entry used is the last of the code, or else the last of code 0.
  abbrev or_else : Option Entry → Option Entry → Option Entry
  or_else (Some e) z = Some e
  or_else None z = z

  used-last : used c es ≡ or_else own zeroth
  unfolding used look_up last_of
  used-last = go (last_at c.0 (map code_of es)) refl
    where
      go : (f : Option ℕ) → last_at c.0 (map code_of es) ≡ f → at_found (or_stand_in f (last_at (pos 0) (map code_of es))) es ≡ or_else (at_found f es) (at_found (last_at (pos 0) (map code_of es)) es)
      go (Some k) p =
          let y = entry_parts es k (omega (arith, (at_last c.0 (map code_of es) k p).inside, length-map es code_of)) in
          y ∙ sym (ap (λ (u : Option Entry). or_else u (at_found (last_at (pos 0) (map code_of es)) es)) y)
      go None p = refl

  -- A used entry is the code's own exactly if it has that code.
  module _ (e : Entry) (p : used c es ≡ Some e) where
    pub own_found : same_code e.code c ≡ true → looked_up c es ≡ three.Found e
    own_found s = go own refl zeroth refl (sym used-last ∙ p)
      where
        go : (u : Option Entry) → own ≡ u → (z : Option Entry) → zeroth ≡ z → or_else u z ≡ Some e → looked_up c es ≡ three.Found e
        go (Some d) q z r y = let w : d ≡ e = cc in looked _ z q r ∙ ap three.Found w
        go None q (Some d) r y =
            let w : d ≡ e = cc in
            let l = last-same (pos 0) es d r in
            absurd (true≢false (sym s ∙ ap (λ (x : Entry). same_code x.code c) (sym w) ∙ last_none c.0 es q l.0 d l.1))
        go None q None r y = clash (cc)

    pub other_stood_in : same_code e.code c ≡ false → looked_up c es ≡ three.StoodIn e
    other_stood_in s = go own refl zeroth refl (sym used-last ∙ p)
      where
        go : (u : Option Entry) → own ≡ u → (z : Option Entry) → zeroth ≡ z → or_else u z ≡ Some e → looked_up c es ≡ three.StoodIn e
        go (Some d) q z r y =
            let w : d ≡ e = cc in
            absurd (true≢false (sym (last-same c.0 es d q).2 ∙ ap (λ (x : Entry). same_code x.code c) w ∙ s))
        go None q (Some d) r y = let w : d ≡ e = cc in looked _ _ q r ∙ ap three.StoodIn w
        go None q None r y = clash (cc)

  pub unused_nothing : used c es ≡ None → looked_up c es ≡ three.Nothing
  unused_nothing p = go own refl zeroth refl (sym used-last ∙ p)
    where
      go : (u : Option Entry) → own ≡ u → (z : Option Entry) → zeroth ≡ z → or_else u z ≡ None → looked_up c es ≡ three.Nothing
      go (Some d) q z r y = clash (cc)
      go None q (Some d) r y = clash (cc)
      go None q None r y = looked _ _ q r

-- A code 0 that the font has is found; none stands in for it.
module _ (es : List Entry) where
  pub used-zero : used (code (pos 0)) es ≡ last_of (pos 0) es
  used-zero = used-last (code (pos 0)) es ∙ go (last_of (pos 0) es)
    where
      go : (u : Option Entry) → or_else (code (pos 0)) es u u ≡ u
      go (Some e) = refl
      go None = refl

  pub zero-found : Has (pos 0) es → (e : Entry) × (looked_up (code (pos 0)) es ≡ three.Found e)
  zero-found h = (found_exactly (code (pos 0)) es).1 h

  pub zero_never_stood_in : (e : Entry) → looked_up (code (pos 0)) es ≡ three.StoodIn e → ⊥
  zero_never_stood_in e p = let x = (stood_in_exactly (code (pos 0)) es).0 (e, p) in x.0 x.1
