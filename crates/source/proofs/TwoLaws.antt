-- Look-up in two fonts: where the entry stands, and that two fonts stand in for all that they lack or for none.
-- Assumes nothing.
use mathlib.Core.Path.{◌≡◌, refl, sym, ap, ◌∙◌, subst}
use mathlib.Core.Bool.{Bool, true, false}
use mathlib.Core.List.{List}
use Prim.Native.Nat.{ℕ}
use lib.IntN.{ℤ, pos}
use Rattle.subchars.specs.declared.Code.{Code}
use Rattle.chars.specs.declared.Entry.{Entry}
use Rattle.chars.specs.Codes.{code}
use Rattle.std.specs.Prelude.{Option, Some, None}
use Rattle.reader.specs.Reader.{entry_at, last_of}
use Rattle.reader.proofs.ThreeLaws.{last-same}
use Rattle.fontlists.specs.declared.two.Which.{Which}
use Rattle.fontlists.specs.declared.two.Which.TheVariants.{First, Second}
use Rattle.fontlists.specs.declared.two.LookedUpInTwo.{LookedUpInTwo}
use Rattle.fontlists.specs.declared.two.LookedUpInTwo.TheVariants.{Found, StoodIn, Nothing}
use Rattle.fontlists.specs.TwoFonts.{first_try, looked_up_in_two, bytes_in}
use Rattle.source.specs.Source.{nothing, Source, character_of, choice_of_two, two_source}
use Rattle.source.specs.Counting.{is_stood_in, is_nothing, StandsIn}
use Rattle.source.specs.Held.{TwoGives}
use Rattle.source.specs.Steps.{Stands, as_own}
use Rattle.source.proofs.CountLaws.{none_of}
use Rattle.source.proofs.CharacterLaws.{entry-stands}

-- The characters of one of two fonts.
abbrev pub characters_in : Which → List Entry → List Entry → List Entry
characters_in First es fs = es
characters_in Second es fs = fs

-- An entry that was looked up is one of its font's.
abbrev pub Among : List Entry → Entry → Type 0
Among es e = (k : ℕ) × (entry_at es k ≡ Some e)

abbrev pub AmongTwo : List Entry → List Entry → LookedUpInTwo → Type 0
AmongTwo es fs (Found w e) = Among (characters_in w es fs) e
AmongTwo es fs (StoodIn w e) = Among (characters_in w es fs) e
AmongTwo es fs Nothing = Unit

among : (z : ℤ) (es : List Entry) (e : Entry) → last_of z es ≡ Some e → Among es e
among z es e p = let l = last-same z es e p in (l.0, l.1)

module _ (c : Code) (es fs : List Entry) where
  pub among_two : AmongTwo es fs (looked_up_in_two c es fs)
  unfolding looked_up_in_two
  among_two = go (last_of c.0 es) refl (last_of c.0 fs) refl (last_of (pos 0) es) refl (last_of (pos 0) fs) refl
    where
      go : (a : Option Entry) → last_of c.0 es ≡ a → (b : Option Entry) → last_of c.0 fs ≡ b → (z : Option Entry) → last_of (pos 0) es ≡ z → (w : Option Entry) → last_of (pos 0) fs ≡ w → AmongTwo es fs (first_try a b z w)
      go (Some e) p b q z r w t = among c.0 es e p
      go None p (Some e) q z r w t = among c.0 fs e q
      go None p None q (Some e) r w t = among (pos 0) es e r
      go None p None q None r (Some e) t = among (pos 0) fs e t
      go None p None q None r None t = tt

-- So its rows stand in the bytes of that font, and it is what the two fonts have for the code.
module _ (source : Source) (s t : List ℕ) (height n m : ℕ) (codes : List ℤ) (starts widths places : List ℕ) (g : TwoGives source s t height n m codes starts widths places) where
  abbrev es : List Entry
  es = g.held.first.characters

  abbrev fs : List Entry
  fs = g.held.second.characters

  among-stands : (w : Which) (e : Entry) → Among (characters_in w es fs) e → Stands (bytes_in w s t) e height
  among-stands First e k = rw g.high (entry-stands s g.header n _ _ _ _ g.held.first e k.0 k.1)
  among-stands Second e k = rw g.equal (entry-stands t g.other m _ _ _ _ g.held.second e k.0 k.1)

  abbrev Looked : Code → LookedUpInTwo → Type 0
  Looked c r = r ≡ looked_up_in_two c es fs

  module _ (c : Code) (w : Which) (e : Entry) where
    pub found-stands : Looked c (Found w e) → Stands (bytes_in w s t) e height
    found-stands p = among-stands w e (subst (AmongTwo es fs) (sym p) (among_two c es fs))

    pub stood_in_stands : Looked c (StoodIn w e) → Stands (bytes_in w s t) e height
    stood_in_stands p = among-stands w e (subst (AmongTwo es fs) (sym p) (among_two c es fs))

    pub found_choice : Looked c (Found w e) → as_own true (character_of (bytes_in w s t) e) ≡ source c
    unfolding two_source
    found_choice p = rw g.is (ap (choice_of_two s t) p)

    pub stood_in_choice : Looked c (StoodIn w e) → as_own false (character_of (bytes_in w s t) e) ≡ source c
    unfolding two_source
    stood_in_choice p = rw g.is (ap (choice_of_two s t) p)

  pub nothing_choice : (c : Code) → Looked c Nothing → nothing ≡ source c
  unfolding two_source
  nothing_choice c p = rw g.is (ap (choice_of_two s t) p)

-- Two fonts of which one has a code 0 leave nothing out, and two that have none stand in for nothing.
abbrev pub is_there : LookedUpInTwo → Bool
is_there (Found w e) = true
is_there (StoodIn w e) = true
is_there Nothing = false

module _ (s t : List ℕ) (es fs : List Entry) where
  no_gap_first : (a b w : Option Entry) (d : Entry) → is_nothing (choice_of_two s t (first_try a b (Some d) w)) ≡ false
  no_gap_first (Some e) b w d = refl
  no_gap_first None (Some f) w d = refl
  no_gap_first None None w d = refl

  no_gap_second : (a b : Option Entry) (d : Entry) → is_nothing (choice_of_two s t (first_try a b None (Some d))) ≡ false
  no_gap_second (Some e) b d = refl
  no_gap_second None (Some f) d = refl
  no_gap_second None None d = refl

  no_stand_in : (a b : Option Entry) → is_stood_in (choice_of_two s t (first_try a b None None)) ≡ false
  no_stand_in (Some e) b = refl
  no_stand_in None (Some f) = refl
  no_stand_in None None = refl

  pub two_stand_in : StandsIn (is_there (looked_up_in_two (code (pos 0)) es fs)) (two_source s t es fs)
  unfolding looked_up_in_two two_source
  two_stand_in = go (last_of (pos 0) es) refl (last_of (pos 0) fs) refl
    where
      go : (z : Option Entry) → last_of (pos 0) es ≡ z → (w : Option Entry) → last_of (pos 0) fs ≡ w → StandsIn (is_there (first_try z w z w)) (two_source s t es fs)
      go (Some d) p w q = none_of (two_source s t es fs) is_nothing (λ c. ap (λ (z : Option Entry). is_nothing (choice_of_two s t (first_try (last_of c.0 es) (last_of c.0 fs) z (last_of (pos 0) fs)))) p ∙ no_gap_first (last_of c.0 es) (last_of c.0 fs) (last_of (pos 0) fs) d)
      go None p (Some d) q = none_of (two_source s t es fs) is_nothing (λ c. (λ i. is_nothing (choice_of_two s t (first_try (last_of c.0 es) (last_of c.0 fs) (p i) (q i)))) ∙ no_gap_second (last_of c.0 es) (last_of c.0 fs) d)
      go None p None q = none_of (two_source s t es fs) is_stood_in (λ c. (λ i. is_stood_in (choice_of_two s t (first_try (last_of c.0 es) (last_of c.0 fs) (p i) (q i)))) ∙ no_stand_in (last_of c.0 es) (last_of c.0 fs))

-- Whether one has a code 0 is what looking it up tells.
pub told_stands_in : (source : Source) (s t : List ℕ) (height n m : ℕ) (codes : List ℤ) (starts widths places : List ℕ) (g : TwoGives source s t height n m codes starts widths places) (r : LookedUpInTwo) →
    r ≡ looked_up_in_two (code (pos 0)) g.held.first.characters g.held.second.characters → StandsIn (is_there r) source
told_stands_in source s t height n m codes starts widths places g r p = rw (p, g.is) (two_stand_in s t g.held.first.characters g.held.second.characters)
