-- The character that a pack has for a code: its rows are parts of the pack, and what was chosen is what the pack has.
-- Assumes nothing.
use mathlib.Core.Path.{◌≡◌, refl, sym, ap, ap₂, ◌∙◌, subst}
use mathlib.Core.Bool.{Bool, true, false, true≢false}
use mathlib.Core.List.{List}
use Prim.Native.Nat.{ℕ, ◌+◌, ◌*◌, ◌≤◌, ◌<◌}
use native.Mathlib.Omega.{arith}
use native.Mathlib.Nat.{mul-le-mul_right}
use lib.IntN.{pos}
use lib.ListN.{length, take, drop, get_or}
use lib.Seq.{get_or-take, get_or-drop}
use Rattle.subchars.specs.declared.Code.{Code}
use Rattle.blocks.specs.Block.{exact_block}
use Rattle.blocks.proofs.Rows.{row_next}
use Rattle.records.specs.declared.Head.{Head}
use Rattle.records.specs.declared.Place.{Place}
use Rattle.std.specs.Prelude.{Option, Some, None, is_some}
use Rattle.records.specs.Codes.{bits_of, is_code}
use Rattle.records.specs.Versions.{head_length, record_head_length}
use Rattle.records.specs.Letters.{Letter, letter_in}
use Rattle.records.specs.Places.{place_in}
use Rattle.edits.proofs.PlaceLaws.{read_at}
use Rattle.heads.specs.Pack.{head_in, says, meaning}
use Rattle.heads.proofs.FindLaws.{head-is, short, some, low, place_in_lem, letter-there}
use Rattle.letters.specs.Held.{Held, LettersHeld}
use Rattle.source.specs.declared.Chosen.TheVariants as chosen
use Rattle.source.specs.Source.{Source, pack_letter, of_letters, pack_source}
use Rattle.source.specs.Counting.{StandsIn}
use Rattle.source.specs.Held.{PackGives}
use Rattle.source.specs.Steps.{Shows, ChosenAs, PlaceIn, letter_choice}
use Rattle.source.proofs.CountLaws.{pack_without_0, pack_with_0}

-- A letter of a record at a place, whose rows start one behind the other.
module _ (f : Head) (s : List ℕ) (p : Place) (l : PlaceIn f s (Some p)) (at : List ℕ) (many : f.height ≤ length at) (starts : (r : ℕ) → r < f.height → get_or at r 0 ≡ p.at + record_head_length f.version + r * p.width) where
  row_in_lem : (r : ℕ) → r < f.height → r * p.width + p.width ≤ f.height * p.width
  row_in_lem r u = omega (arith, row_next r p.width, mul-le-mul_right {m = r + 1} {n = f.height} p.width (omega arith))

  pub letter_shows : Shows s at p.width f.height (exact_block p.width (take (f.height * p.width) (drop (p.at + record_head_length f.version) s)))
  letter_shows =
      record {
        narrow = omega (arith, l.2, l.3, row_in_lem 0 l.0);
        rows = record { many = many; within = λ r u. omega (arith, l.2, starts r u, row_in_lem r u) };
        like =
            record {
              width = refl;
              cells =
                  λ r k u v.
                  let e : p.at + record_head_length f.version + r * p.width + k ≡ p.at + record_head_length f.version + (r * p.width + k) = omega arith in
                  ap (λ (q : ℕ). get_or s (q + k) 0) (starts r u) ∙ ap (λ (q : ℕ). get_or s q 0) e ∙
                  sym (get_or-drop (p.at + record_head_length f.version) s (r * p.width + k) 0) ∙ sym (get_or-take (f.height * p.width) (drop (p.at + record_head_length f.version) s) (r * p.width + k) 0 (omega (arith, row_in_lem r u)));
            };
      }

-- What is shown of it, the code's own or one that stands in.
pub letter_chosen : (f : Head) (s : List ℕ) (p : Place) → PlaceIn f s (Some p) → (at : List ℕ) → f.height ≤ length at → ((r : ℕ) → r < f.height → get_or at r 0 ≡ p.at + record_head_length f.version + r * p.width) →
    (own : Bool) → ChosenAs s at f.height (chosen.Character p.width own) (letter_choice f s own (Some p))
letter_chosen f s p l at many starts true = letter_shows f s p l at many starts
letter_chosen f s p l at many starts false = letter_shows f s p l at many starts

pub none_chosen : (f : Head) (s at : List ℕ) (own : Bool) → ChosenAs s at f.height chosen.Nothing (letter_choice f s own None)
none_chosen f s at true = tt
none_chosen f s at false = tt

-- A source that a pack gives.
module _ (source : Source) (s : List ℕ) (height : ℕ) (starts widths : List ℕ) (g : PackGives source s height starts widths) (f : Head) (e : f ≡ head_in s) where
  same : g.head ≡ f
  same = sym (head-is s g.head g.records g.said) ∙ sym e

  pub said : meaning s ≡ says f g.records
  said = g.said ∙ ap (λ (x : Head). says x g.records) same

  pub letters-held : LettersHeld f s starts widths
  letters-held = record { records = g.records; said = said; held = subst (λ (x : Head). Held x g.records starts widths) same g.held }

  pub high : height ≡ f.height
  high = g.high ∙ ap (λ (x : Head). x.height) same

  is : source ≡ pack_source f g.records
  is = g.is ∙ ap (λ (x : Head). pack_source x g.records) same

  -- a place that was found is in the pack, and what stands there is the letter
  module _ (code : ℕ) where
    place : Option Place
    place = place_in f code (head_length f.version) g.records

    pub found_in : (x : Option Place) → x ≡ place_in f code (head_length f.version) g.records → PlaceIn f s x
    found_in (Some p) q = (some s f g.records said, low s f g.records said, place_in_lem s f g.records said code p q, short s f g.records said)
    found_in None q = tt

    letter_of_lem : (x : Option Place) → x ≡ place_in f code (head_length f.version) g.records → read_at f s x ≡ letter_in f code g.records
    letter_of_lem x q = ap (read_at f s) q ∙ letter-there s f g.records said code

  own_letter : (c : Code) → is_code c.0 ≡ true → pack_letter f g.records c.0 ≡ letter_in f (bits_of c.0) g.records
  unfolding pack_letter
  own_letter c i = rw i

  zeroth_letter : pack_letter f g.records (pos 0) ≡ letter_in f (bits_of (pos 0)) g.records
  unfolding pack_letter is_code
  zeroth_letter = refl

  module _ (c : Code) (i : is_code c.0 ≡ true) (x : Option Place) (q : x ≡ place_in f (bits_of c.0) (head_length f.version) g.records) where
    its : pack_letter f g.records c.0 ≡ read_at f s x
    its = own_letter c i ∙ sym (letter_of_lem (bits_of c.0) x q)

    pub own_choice : is_some x ≡ true → letter_choice f s true x ≡ source c
    unfolding pack_source
    own_choice y = go x y its ∙ sym (ap (λ (z : Source). z c) is)
      where
        go : (x : Option Place) → is_some x ≡ true → pack_letter f g.records c.0 ≡ read_at f s x → letter_choice f s true x ≡ of_letters (pack_letter f g.records c.0) (pack_letter f g.records (pos 0))
        go (Some p) y o = sym (ap (λ (z : Letter). of_letters z (pack_letter f g.records (pos 0))) o)
        go None y o = absurd (true≢false (sym y))

    module _ (z : Option Place) (r : z ≡ place_in f (bits_of (pos 0)) (head_length f.version) g.records) where
      pub other_choice : is_some x ≡ false → letter_choice f s false z ≡ source c
      unfolding pack_source
      other_choice y = go x y its z (zeroth_letter ∙ sym (letter_of_lem (bits_of (pos 0)) z r)) ∙ sym (ap (λ (z : Source). z c) is)
        where
          go : (x : Option Place) → is_some x ≡ false → pack_letter f g.records c.0 ≡ read_at f s x → (z : Option Place) → pack_letter f g.records (pos 0) ≡ read_at f s z →
              letter_choice f s false z ≡ of_letters (pack_letter f g.records c.0) (pack_letter f g.records (pos 0))
          go (Some p) y o z u = absurd (true≢false y)
          go None y o (Some p) u = sym (ap₂ of_letters o u)
          go None y o None u = sym (ap₂ of_letters o u)

  -- whether there is a letter with code 0
  pub zeroth_stands_in : (b : Bool) (z : Option Place) → z ≡ place_in f (bits_of (pos 0)) (head_length f.version) g.records → b ≡ is_some z → StandsIn b source
  zeroth_stands_in b z r q = subst (StandsIn b) (sym is) (subst (λ (a : Bool). StandsIn a (pack_source f g.records)) (sym q) (go z (zeroth_letter ∙ sym (letter_of_lem (bits_of (pos 0)) z r))))
    where
      go : (z : Option Place) → pack_letter f g.records (pos 0) ≡ read_at f s z → StandsIn (is_some z) (pack_source f g.records)
      go (Some p) u = pack_with_0 f g.records p.width (take (f.height * p.width) (drop (p.at + record_head_length f.version) s)) u
      go None u = pack_without_0 f g.records u
