-- The character that is used for a code stands in the lists at the place that look-up finds.
-- Assumes nothing.
use mathlib.Core.Path.{◌≡◌, refl, sym, ap, ◌∙◌}
use mathlib.Core.List.{List, [], ◌∷◌, map}
use mathlib.Core.Logic.{◌↔◌}
use Prim.Native.Nat.{ℕ, zero, suc, ◌≤◌, ◌<◌}
use native.Mathlib.Omega.{arith}
use lib.IntN.{ℤ, pos}
use lib.ListN.{length, take, get_or, length-map}
use lib.Seq.{get_or-take, length-take-le}
use Rattle.std.specs.Prelude.{Option, Some, None}
use Rattle.ground.proofs.Tests.{clash}
use Rattle.subchars.specs.declared.Code.{Code}
use Rattle.chars.specs.declared.Entry.{Entry}
use Rattle.chars.specs.Codes.{code}
use Rattle.chars.specs.Chars.{entry}
use Rattle.index.specs.Index.{code_of, start_of, width_of, Lists}
use Rattle.index.specs.LookUp.{last_at, or_stand_in, look_up}
use Rattle.index.proofs.FindLaws.{at_last}
use Rattle.reader.specs.Reader.{FoundBelow, entry_at, at_found, used}

-- Look-up finds a place of the list.
pub found_inside : (c : Code) (l : List ℤ) (k : ℕ) → Some k ≡ look_up c l → k < length l
unfolding look_up
found_inside c l k e = go (last_at c.0 l) refl e
  where
    go : (r : Option ℕ) → last_at c.0 l ≡ r → Some k ≡ or_stand_in r (last_at (pos 0) l) → k < length l
    go (Some j) p q = (at_last c.0 l k (p ∙ sym q)).inside
    go None p q = (at_last (pos 0) l k (sym q)).inside

-- An entry by what the lists hold of it.
pub entry_parts : (es : List Entry) (k : ℕ) → k < length es → entry_at es k ≡ Some (entry (code (get_or (map code_of es) k (pos 0))) (get_or (map start_of es) k 0) (get_or (map width_of es) k 0))
unfolding entry_at
entry_parts [] k h = absurd (omega arith)
entry_parts (e ∷ es) zero h = refl
entry_parts (e ∷ es) (suc k) h = entry_parts es k (omega arith)

part-is : {A : Type 0} (g : Entry → A) (es : List Entry) (l : List A) (k : ℕ) (d : A) → k < length es → take (length es) l ≡ map g es → get_or (map g es) k d ≡ get_or l k d
part-is g es l k d h e = ap (λ (m : List _). get_or m k d) (sym e) ∙ get_or-take (length es) l k d h

-- the entry at a place is what the lists hold there
pub parts_at : (codes : List ℤ) (starts widths : List ℕ) (es : List Entry) → Lists es codes starts widths → (k : ℕ) → k < length es →
    Some (entry (code (get_or codes k (pos 0))) (get_or starts k 0) (get_or widths k 0)) ≡ entry_at es k
parts_at codes starts widths es l k h =
    sym (
    entry_parts es k h ∙
    ap (λ (z : ℤ). Some (entry (code z) (get_or (map start_of es) k 0) (get_or (map width_of es) k 0))) (part-is code_of es codes k (pos 0) h l.codes_are) ∙
    ap (λ (j : ℕ). Some (entry (code (get_or codes k (pos 0))) j (get_or (map width_of es) k 0))) (part-is start_of es starts k 0 h l.starts_are) ∙
    ap (λ (j : ℕ). Some (entry (code (get_or codes k (pos 0))) (get_or starts k 0) j)) (part-is width_of es widths k 0 h l.widths_are)
    )

-- What look-up finds among the first n codes.
module _ (c : Code) (codes : List ℤ) (n : ℕ) (f : Option ℕ) (found : f ≡ look_up c (take n codes)) where
  pub found_within : n ≤ length codes → FoundBelow n f
  found_within h = go f found
    where
      go : (x : Option ℕ) → x ≡ look_up c (take n codes) → FoundBelow n x
      go (Some k) e = omega (arith, found_inside c (take n codes) k e, length-take-le n codes h)
      go None e = tt

  pub found-used : (starts widths : List ℕ) (es : List Entry) → n ≡ length es → Lists es codes starts widths → at_found f es ≡ used c es
  unfolding used
  found-used starts widths es m l = ap (λ (x : Option ℕ). at_found x es) (found ∙ ap (look_up c) (ap (λ (j : ℕ). take j codes) m ∙ l.codes_are))

-- The character that is used is one of the font's.
pub used-at : (c : Code) (es : List Entry) (e : Entry) → used c es ≡ Some e → (k : ℕ) × (entry_at es k ≡ Some e)
unfolding used
used-at c es e p = go (look_up c (map code_of es)) p
  where
    go : (f : Option ℕ) → at_found f es ≡ Some e → (k : ℕ) × (entry_at es k ≡ Some e)
    go (Some k) q = (k, q)
    go None q = clash (cc)

-- Nothing is used exactly where look-up finds no place.
pub unused_exactly : (c : Code) (es : List Entry) → used c es ≡ None ↔ look_up c (map code_of es) ≡ None
unfolding used
unused_exactly c es = (λ p. go (look_up c (map code_of es)) refl p, λ q. ap (λ (f : Option ℕ). at_found f es) q)
  where
    some : (k : ℕ) → k < length es → entry_at es k ≡ None → Some k ≡ None
    some k h q = let y = sym (entry_parts es k h) ∙ q in clash (cc)

    go : (f : Option ℕ) → look_up c (map code_of es) ≡ f → at_found f es ≡ None → f ≡ None
    go (Some k) r q = some k (omega (arith, found_inside c (map code_of es) k (sym r), length-map es code_of)) q
    go None r q = refl
