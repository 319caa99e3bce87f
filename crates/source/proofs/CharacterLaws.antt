-- The character that a font has for a code: its rows are parts of the font, and what was chosen is what the font has.
-- Assumes nothing.
use mathlib.Core.Path.{◌≡◌, refl, sym, ap, ◌∙◌, subst}
use mathlib.Core.Bool.{Bool, true, false}
use Prim.Native.Nat.{ℕ, ◌+◌, ◌≤◌, ◌<◌}
use mathlib.Core.List.{List}
use native.Mathlib.Omega.{arith}
use lib.IntN.{ℤ, pos}
use lib.ListN.{get_or, length, take}
use Rattle.ground.specs.Limits.{max_height}
use Rattle.subchars.specs.declared.Code.{Code}
use Rattle.header.specs.declared.Header.{Header}
use Rattle.chars.specs.declared.Entry.{Entry}
use Rattle.chars.specs.Codes.{code, same_code}
use Rattle.font.specs.Font.{format}
use Rattle.font.proofs.ReadingLaws.{font_read}
use Rattle.index.specs.Index.{CharacterRoom, Lists}
use Rattle.index.specs.Latest.{Latest}
use Rattle.std.specs.Prelude.{Option, Some, None, is_some}
use Rattle.reader.specs.Reader.{entry_at, used, looked_up}
use Rattle.reader.proofs.UseLaws.{used-at}
use Rattle.reader.proofs.ThreeLaws.{own_found, other_stood_in, unused_nothing, used-zero}
use Rattle.request.proofs.RowLaws.{RowStands, row-stands}
use Rattle.lines.specs.Lines.{after}
use Rattle.heads.proofs.FindLaws.{some, low}
use Rattle.source.specs.declared.Origin.{Origin}
use Rattle.source.specs.declared.Origin.TheVariants.{Font, Two, Pack}
use Rattle.source.specs.declared.Chosen.TheVariants as chosen
use Rattle.source.specs.Source.{nothing, Source, character_of, choice_of, font_source}
use Rattle.source.specs.Counting.{StandsIn}
use Rattle.source.specs.Held.{FontGives, GivesBy, Gives}
use Rattle.fontlists.specs.Held.{FontHeld}
use Rattle.source.specs.Steps.{RowPlaces, Stands, Shows, ChosenAs, as_own}
use Rattle.source.proofs.CountLaws.{with_code_0, without_code_0}

-- A character that stands in a font is shown by the places of its rows.
module _ (s : List ℕ) (e : Entry) (h : ℕ) (so : Stands s e h) (at : List ℕ) (p : RowPlaces s e.start h at) where
  shows : Shows s at e.width h (character_of s e)
  shows =
      record {
        narrow = so.narrow;
        rows = record { many = p.many; within = λ r l. omega (arith, so.rows.fits r l, p.at r l) };
        like = record { width = refl; cells = λ r k l m. ap (λ (q : ℕ). get_or s (q + k) 0) (p.at r l) };
      }

  pub shown_as : (own : Bool) → ChosenAs s at h (chosen.Character e.width own) (as_own own (character_of s e))
  shown_as true = shows
  shown_as false = shows

-- "Height 1 to 32."
module _ (s : List ℕ) (h : Header) (count : ℕ) (codes : List ℤ) (starts widths places : List ℕ) (held : FontHeld s h count codes starts widths places) where
  pub few-rows : h.height ≤ max_height
  few-rows = (font_read s h held.characters held.said).high.1

  some-rows : 0 < h.height
  some-rows = (font_read s h held.characters held.said).high.0

  pub entry-stands : (e : Entry) (k : ℕ) → entry_at held.characters k ≡ Some e → Stands s e h.height
  entry-stands e k p =
      let f = font_read s h held.characters held.said in
      record {
        some = some-rows;
        few = few-rows;
        narrow = omega (arith, (stands 0 some-rows).fits, f.short);
        rows = record { ends = λ r l. (stands r l).ends; fits = λ r l. (stands r l).fits };
        marked = λ r l. (stands r l).marked;
      }
    where
      stands : (r : ℕ) → r < h.height → RowStands (format h) s e.width (after r s e.start)
      stands r l = row-stands s h held.characters held.said e k p r l

  font_choice : (c : Code) (e : Entry) → Some e ≡ used c held.characters → as_own (same_code e.code c) (character_of s e) ≡ font_source s held.characters c
  unfolding font_source
  font_choice c e u = go (same_code e.code c) refl
    where
      go : (b : Bool) → same_code e.code c ≡ b → as_own b (character_of s e) ≡ choice_of s (looked_up c held.characters)
      go true q = sym (ap (choice_of s) (own_found c held.characters e (sym u) q))
      go false q = sym (ap (choice_of s) (other_stood_in c held.characters e (sym u) q))

  font_nothing : (c : Code) → None ≡ used c held.characters → nothing ≡ font_source s held.characters c
  unfolding font_source
  font_nothing c u = sym (ap (choice_of s) (unused_nothing c held.characters (sym u)))

-- The same of a source that a font gives.
module _ (source : Source) (s : List ℕ) (height count : ℕ) (codes : List ℤ) (starts widths places : List ℕ) (g : FontGives source s height count codes starts widths places) where
  pub font_high : (0 < height) × (height ≤ max_height)
  font_high = rw g.high (some-rows s g.header count codes starts widths places g.held, few-rows s g.header count codes starts widths places g.held)

  pub font_room : CharacterRoom count codes starts widths × Latest (take count codes) places
  font_room = (g.held.long, g.held.latest)

  -- what is found in the lists for a code
  abbrev pub Looked : Code → Option Entry → Type 0
  Looked c x = (es : List Entry) → count ≡ length es → Lists es codes starts widths → x ≡ used c es

  its : (c : Code) (x : Option Entry) → Looked c x → x ≡ used c g.held.characters
  its c x looked = looked g.held.characters g.held.count g.held.lists

  module _ (c : Code) (x : Entry) (looked : Looked c (Some x)) where
    pub given-stands : Stands s x height
    given-stands =
        let k = used-at c g.held.characters x (sym (its c (Some x) looked)) in
        rw g.high (entry-stands s g.header count codes starts widths places g.held x k.0 k.1)

    pub given_choice : as_own (same_code x.code c) (character_of s x) ≡ source c
    given_choice = rw g.is (font_choice s g.header count codes starts widths places g.held c x (its c (Some x) looked))

  pub given_nothing : (c : Code) → Looked c None → (at : List ℕ) → ChosenAs s at height chosen.Nothing (source c)
  given_nothing c looked at = rw (g.is, sym (font_nothing s g.header count codes starts widths places g.held c (its c None looked))) tt

  -- one that has a code 0 leaves nothing out, and one that has none stands in for nothing
  pub given_stands_in : (x : Entry) → Looked (code (pos 0)) (Some x) → StandsIn true source
  given_stands_in x looked cs = rw g.is (with_code_0 s g.held.characters x (sym (its (code (pos 0)) (Some x) looked ∙ used-zero g.held.characters)) cs)

  pub given_leaves_out : Looked (code (pos 0)) None → StandsIn false source
  given_leaves_out looked cs = rw g.is (without_code_0 s g.held.characters (sym (its (code (pos 0)) None looked ∙ used-zero g.held.characters)) cs)

  pub given_stands : (x : Option Entry) → Looked (code (pos 0)) x → StandsIn (is_some x) source
  given_stands (Some x) looked = given_stands_in x looked
  given_stands None looked = given_leaves_out looked

-- Every source that is given has 1 to 32 rows.
high-by : (source : Source) (s t : List ℕ) (height : ℕ) (origin : Origin) (codes : List ℤ) (starts widths places : List ℕ) → GivesBy source s t height origin codes starts widths places → (0 < height) × (height ≤ max_height)
high-by source s t height (Font n) codes starts widths places g = font_high source s height n codes starts widths places g
high-by source s t height (Two n m) codes starts widths places g = rw g.high (some-rows s g.header n _ _ _ _ g.held.first, few-rows s g.header n _ _ _ _ g.held.first)
high-by source s t height Pack codes starts widths places g = rw g.high (some s g.head g.records g.said, low s g.head g.records g.said)

pub given-high : (source : Source) (s t : List ℕ) (height : ℕ) (origin : Origin) (codes : List ℤ) (starts widths places : List ℕ) → Gives source s t height origin codes starts widths places → (0 < height) × (height ≤ max_height)
given-high source s t height origin codes starts widths places g = high-by source s t height origin codes starts widths places g.by

-- What is given where the origin is known.
pub given_by : (source : Source) (s t : List ℕ) (height : ℕ) (origin known : Origin) (codes : List ℤ) (starts widths places : List ℕ) → origin ≡ known → Gives source s t height origin codes starts widths places → GivesBy source s t height known codes starts widths places
given_by source s t height origin known codes starts widths places e g = subst (λ (o : Origin). GivesBy source s t height o codes starts widths places) e g.by

-- A font that was read gives its characters, whatever stands where a second font's bytes would.
pub font_gives : (s t : List ℕ) (h : Header) (n : ℕ) (codes : List ℤ) (starts widths places : List ℕ) (held : FontHeld s h n codes starts widths places) → Gives (font_source s held.characters) s t h.height (Font n) codes starts widths places
font_gives s t h n codes starts widths places held = record { by = record { header = h; held = held; high = refl; is = refl } }
