-- Two fonts that were read: what the lists hold of them, and what drawing and a row request by them come to, case by case.
-- Assumes nothing.
use mathlib.Core.Path.{◌≡◌, refl, ap, ◌∙◌, subst}
use mathlib.Core.Bool.{Bool, true, false, cond}
use mathlib.Core.List.{List, ◌++◌}
use Prim.Native.Nat.{ℕ, ◌-◌, ◌≤◌, ◌<◌}
use lib.Dec.{eqb, ltb}
use lib.IntN.{ℤ}
use lib.ListN.{length, take, drop}
use borrow.Author.Tests.{lt-ltb, le-ltb, eqb-true}
use borrow.Rule.Slice.PartMut.{put_mid}
use Rattle.std.specs.Prelude.{Result, Ok, Err}
use Rattle.ground.specs.Limits.{min_scratch, max_characters}
use Rattle.ground.specs.Refusals.{refusal, area_too_small, fonts_differ}
use Rattle.ground.specs.declared.refusals.Refusal.{Refusal}
use Rattle.ground.proofs.Tests.{and_left}
use Rattle.subchars.specs.declared.Code.{Code}
use Rattle.header.specs.declared.Header.{Header}
use Rattle.chars.specs.declared.Entry.{Entry}
use Rattle.font.specs.Font.{FontReading, reading}
use Rattle.index.specs.Index.{CharacterRoom}
use Rattle.index.specs.Latest.{small_codes}
use Rattle.reader.specs.declared.FontRead.{FontRead}
use Rattle.flc.specs.Control as flc
use Rattle.source.specs.declared.Origin.TheVariants.{Two}
use Rattle.fontlists.specs.TwoFonts.{looked_up_in_two}
use Rattle.source.specs.Source.{two_source}
use Rattle.source.specs.Held.{Gives}
use Rattle.fontlists.specs.Held.{FontHeldBy}
use Rattle.drawing.specs.Drawing.{mode_of, unlined, lined_from}
use Rattle.twofonts.specs.declared.BothRead.{BothRead}
use Rattle.twofonts.specs.declared.BothRead.TheVariants.{Read, Refused}
use Rattle.twofonts.specs.declared.RequestedOfTwo.TheVariants as row
use Rattle.twofonts.specs.Fonts.{Fonts, fonts, unfit, alike, fonts_by, fonts_of}
use Rattle.twofonts.specs.RowOfTwo.{no_row, row_in, row_by, row_of_two}
use Rattle.twofonts.specs.TwoDrawing.{two_by, two_of, two_lined}
use Rattle.twofonts.specs.Held.{both_of, Beside, BothHeld}

-- A list whose first k were replaced by p and then the rest by q.
abbrev pub filled : {A : Type 0} → ℕ → List A → List A → List A → List A
filled k s p q = put_mid k (length (p ++ drop k s) - k) (p ++ drop k s) q

-- What both answers come to holds of lists whose halves hold each font.
module _ (s t : List ℕ) (codes : List ℤ) (starts widths places : List ℕ) (room : CharacterRoom max_characters codes starts widths) where
  abbrev First : Result FontRead Refusal → Type 0
  First a = FontHeldBy s a (take max_characters codes) (take max_characters starts) (take max_characters widths) (take small_codes places)

  abbrev Second : Result FontRead Refusal → Type 0
  Second b = FontHeldBy t b (drop max_characters codes) (drop max_characters starts) (drop max_characters widths) (drop small_codes places)

  pub both_held : (a b : Result FontRead Refusal) → First a → Second b → BothHeld s t (both_of a b) codes starts widths places
  unfolding fonts_of
  both_held (Err q) b p r = ap (λ (m : FontReading). fonts_by m (reading t)) p
  both_held (Ok a) (Err q) p r = λ i. fonts_by (p.said i) (r i)
  both_held (Ok a) (Ok b) p r = go (alike a.header b.header) refl
    where
      go : (e : Bool) → alike a.header b.header ≡ e → BothHeld s t (cond e (Read a.header a.count b.count) (Refused (refusal fonts_differ 0))) codes starts widths places
      go true e = record { other = b.header; equal = e; held = record { room = room; first = p; second = r } }
      go false e = (λ i. fonts_by (p.said i) (r.said i)) ∙ ap (λ (x : Bool). cond x (fonts a.header p.characters r.characters) (unfit (refusal fonts_differ 0))) e

-- The lists hold two fonts of one height.
module _ (s t : List ℕ) (h : Header) (n m : ℕ) (codes : List ℤ) (starts widths places : List ℕ) (x : Beside s t h n m codes starts widths places) where
  abbrev es : List Entry
  es = x.held.first.characters

  abbrev fs : List Entry
  fs = x.held.second.characters

  held-fonts : fonts_of s t ≡ fonts h es fs
  unfolding fonts_of
  held-fonts = (λ i. fonts_by (x.held.first.said i) (x.held.second.said i)) ∙ ap (λ (e : Bool). cond e (fonts h es fs) (unfit (refusal fonts_differ 0))) x.equal

  same-height : h.height ≡ x.other.height
  same-height = eqb-true _ _ (and_left (eqb h.height x.other.height) (eqb h.hardblank.0 x.other.hardblank.0) x.equal)

  pub two_give : Gives (two_source s t es fs) s t h.height (Two n m) codes starts widths places
  two_give = record { by = record { header = h; other = x.other; held = x.held; high = refl; equal = same-height; is = refl } }

  pub held-lined : (control text : List ℕ) → two_of s t control text ≡ lined_from (mode_of h) h.height (two_source s t es fs) (flc.control control) text
  unfolding two_of
  held-lined control text = ap (λ (f : Fonts). two_by s t f (flc.control control) text) held-fonts

  module _ (c : Code) (r : ℕ) where
    held-row : row_of_two s t c r ≡ cond (ltb r h.height) (row_in s t r (looked_up_in_two c es fs)) no_row
    unfolding row_of_two
    held-row = ap (row_by s t c r) held-fonts

    pub row-there : r < h.height → row_of_two s t c r ≡ row_in s t r (looked_up_in_two c es fs)
    row-there l = held-row ∙ ap (λ (b : Bool). cond b (row_in s t r (looked_up_in_two c es fs)) no_row) (lt-ltb r h.height l)

    pub row-beyond : h.height ≤ r → row_of_two s t c r ≡ no_row
    row-beyond l = held-row ∙ ap (λ (b : Bool). cond b (row_in s t r (looked_up_in_two c es fs)) no_row) (le-ltb r h.height l)

-- Two that are refused.
module _ (s t : List ℕ) (q : Refusal) (e : fonts_of s t ≡ unfit q) where
  pub unfit-lined : (control text : List ℕ) → two_of s t control text ≡ unlined q
  unfolding two_of
  unfit-lined control text = ap (λ (f : Fonts). two_by s t f (flc.control control) text) e

  pub unfit-row : (c : Code) (r : ℕ) → row_of_two s t c r ≡ row.Refused q
  unfolding row_of_two
  unfit-row c r = ap (row_by s t c r) e

-- The scratch is tested first.
module _ (s t control text : List ℕ) (scratch : ℕ) where
  pub scratch_small : scratch < min_scratch → two_lined scratch s t control text ≡ unlined (refusal area_too_small 0)
  unfolding two_lined
  scratch_small l = rw (lt-ltb scratch min_scratch l)

  pub scratch_enough : min_scratch ≤ scratch → two_lined scratch s t control text ≡ two_of s t control text
  unfolding two_lined
  scratch_enough l = rw (le-ltb scratch min_scratch l)

-- What is held where the answer is known.
pub held_as : (s t : List ℕ) (r known : BothRead) (codes : List ℤ) (starts widths places : List ℕ) → r ≡ known → BothHeld s t r codes starts widths places → BothHeld s t known codes starts widths places
held_as s t r known codes starts widths places e x = subst (λ (b : BothRead). BothHeld s t b codes starts widths places) e x
