-- A row that two fonts give: which character it is of, in which font, and that it is a part of that font.
-- Assumes nothing.
use mathlib.Core.Path.{◌≡◌, refl, sym, ap, ◌∙◌, subst}
use mathlib.Core.Bool.{Bool, true, false, cond}
use mathlib.Core.List.{List}
use mathlib.Core.Logic.{◌⊎◌, inl, inr}
use Prim.Native.Nat.{ℕ, ◌+◌, ◌≤◌, ◌<◌}
use native.Mathlib.Omega.{arith}
use lib.Dec.{eqb, ltb}
use lib.ListN.{length}
use borrow.Author.Tests.{ltb-true, lt-ltb, eqb-true}
use Rattle.ground.specs.Refusals.{refusal, fonts_differ}
use Rattle.ground.proofs.Tests.{clash, and_left}
use Rattle.subchars.specs.declared.Code.{Code}
use Rattle.lines.specs.Lines.{after}
use Rattle.header.specs.declared.Header.{Header}
use Rattle.chars.specs.declared.Entry.{Entry}
use Rattle.font.specs.Font.{FontReading, says, refuses, reading}
use Rattle.request.proofs.RowLaws.{row-stands}
use Rattle.fontlists.specs.declared.two.Which.{Which}
use Rattle.fontlists.specs.declared.two.Which.TheVariants.{First, Second}
use Rattle.fontlists.specs.declared.two.LookedUpInTwo.{LookedUpInTwo}
use Rattle.fontlists.specs.declared.two.LookedUpInTwo.TheVariants.{Found, StoodIn, Nothing}
use Rattle.fontlists.specs.TwoFonts.{looked_up_in_two, bytes_in}
use Rattle.source.proofs.TwoLaws.{characters_in, Among, AmongTwo, among_two}
use Rattle.twofonts.specs.declared.RequestedOfTwo.TheVariants.{Row}
use Rattle.twofonts.specs.Fonts.{Fonts, fonts, unfit, alike, fonts_by, fonts_of}
use Rattle.twofonts.specs.RowOfTwo.{no_row, row_in, row_by, row_of_two}

-- Both fonts are read and alike.
pub record BothSay (s t : List ℕ) (h : Header) (es fs : List Entry) : Type 0 where
  pub other : Header
  pub first : reading s ≡ says h es
  pub second : reading t ≡ says other fs
  pub equal : alike h other ≡ true

pub fonts_say : (s t : List ℕ) (h : Header) (es fs : List Entry) → fonts_of s t ≡ fonts h es fs → BothSay s t h es fs
unfolding fonts_of
fonts_say s t h es fs e = go (reading s) refl (reading t) refl e
  where
    by : (g k : Header) (ds gs : List Entry) → reading s ≡ says g ds → reading t ≡ says k gs → (b : Bool) → alike g k ≡ b → cond b (fonts g ds gs) (unfit (refusal fonts_differ 0)) ≡ fonts h es fs → BothSay s t h es fs
    by g k ds gs p q true a e =
        let x : g ≡ h = cc in
        let y : ds ≡ es = cc in
        let z : gs ≡ fs = cc in
        record { other = k; first = p ∙ (λ i. says (x i) (y i)); second = q ∙ ap (says k) z; equal = subst (λ (u : Header). alike u k ≡ true) x a }
    by g k ds gs p q false a e = clash (cc)

    go : (m : FontReading) → reading s ≡ m → (n : FontReading) → reading t ≡ n → fonts_by m n ≡ fonts h es fs → BothSay s t h es fs
    go (refuses r) p n q e = clash (cc)
    go (says g ds) p (refuses r) q e = clash (cc)
    go (says g ds) p (says k gs) q e = by g k ds gs p q (alike g k) refl e

pub say_fonts : (s t : List ℕ) (h : Header) (es fs : List Entry) → BothSay s t h es fs → fonts_of s t ≡ fonts h es fs
unfolding fonts_of
say_fonts s t h es fs x = (λ i. fonts_by (x.first i) (x.second i)) ∙ ap (λ (b : Bool). cond b (fonts h es fs) (unfit (refusal fonts_differ 0))) x.equal

-- The character that both fonts have for a code, found or stood in.
abbrev pub IsUsed : LookedUpInTwo → Which → Entry → Type 0
IsUsed (Found v d) w e = (v ≡ w) × (d ≡ e)
IsUsed (StoodIn v d) w e = (v ≡ w) × (d ≡ e)
IsUsed Nothing w e = ⊥

-- A row that is given.
pub record GivenOfTwo (s t : List ℕ) (c : Code) (r : ℕ) (w : Which) (p n : ℕ) : Type 0 where
  pub header : Header
  pub firsts : List Entry
  pub seconds : List Entry
  pub say : BothSay s t header firsts seconds
  pub below : r < header.height
  pub entry : Entry
  pub used : IsUsed (looked_up_in_two c firsts seconds) w entry
  pub place : p ≡ after r (bytes_in w s t) entry.start
  pub width : n ≡ entry.width

pub row_only : (s t : List ℕ) (c : Code) (r : ℕ) (w : Which) (p n : ℕ) → row_of_two s t c r ≡ Row w p n → GivenOfTwo s t c r w p n
unfolding row_of_two
row_only s t c r w p n e = go (fonts_of s t) refl e
  where
    in_font_lem : (h : Header) (es fs : List Entry) → BothSay s t h es fs → r < h.height → (v : Which) (d : Entry) → IsUsed (looked_up_in_two c es fs) v d → Row v (after r (bytes_in v s t) d.start) d.width ≡ Row w p n → GivenOfTwo s t c r w p n
    in_font_lem h es fs say l v d u e =
        let x : v ≡ w = cc in
        let y : after r (bytes_in v s t) d.start ≡ p = cc in
        let z : d.width ≡ n = cc in
        record { header = h; firsts = es; seconds = fs; say = say; below = l; entry = d; used = subst (λ (q : Which). IsUsed (looked_up_in_two c es fs) q d) x u; place = sym y ∙ ap (λ (q : Which). after r (bytes_in q s t) d.start) x; width = sym z }

    looked : (h : Header) (es fs : List Entry) → BothSay s t h es fs → r < h.height → (x : LookedUpInTwo) → looked_up_in_two c es fs ≡ x → row_in s t r x ≡ Row w p n → GivenOfTwo s t c r w p n
    looked h es fs say l (Found v d) q e = in_font_lem h es fs say l v d (subst (λ (x : LookedUpInTwo). IsUsed x v d) (sym q) (refl, refl)) e
    looked h es fs say l (StoodIn v d) q e = in_font_lem h es fs say l v d (subst (λ (x : LookedUpInTwo). IsUsed x v d) (sym q) (refl, refl)) e
    looked h es fs say l Nothing q e = clash (cc)

    below : (h : Header) (es fs : List Entry) → BothSay s t h es fs → (b : Bool) → ltb r h.height ≡ b → cond b (row_in s t r (looked_up_in_two c es fs)) no_row ≡ Row w p n → GivenOfTwo s t c r w p n
    below h es fs say true q e = looked h es fs say (ltb-true r h.height q) (looked_up_in_two c es fs) refl e
    below h es fs say false q e = clash (cc)

    go : (f : Fonts) → fonts_of s t ≡ f → row_by s t c r f ≡ Row w p n → GivenOfTwo s t c r w p n
    go (fonts h es fs) q e = below h es fs (fonts_say s t h es fs q) (ltb r h.height) refl e
    go (unfit z) q e = clash (cc)

pub row_if : (s t : List ℕ) (c : Code) (r : ℕ) (w : Which) (p n : ℕ) → GivenOfTwo s t c r w p n → row_of_two s t c r ≡ Row w p n
unfolding row_of_two
row_if s t c r w p n g =
    ap (row_by s t c r) (say_fonts s t g.header g.firsts g.seconds g.say) ∙
    ap (λ (b : Bool). cond b (row_in s t r (looked_up_in_two c g.firsts g.seconds)) no_row) (lt-ltb r g.header.height g.below) ∙
    by (looked_up_in_two c g.firsts g.seconds) g.used
  where
    to : (v : Which) (d : Entry) → v ≡ w → d ≡ g.entry → Row v (after r (bytes_in v s t) d.start) d.width ≡ Row w p n
    to v d x y = (λ i. Row (x i) (after r (bytes_in (x i) s t) (y i).start) (y i).width) ∙ (λ i. Row w (sym g.place i) (sym g.width i))

    by : (x : LookedUpInTwo) → IsUsed x w g.entry → row_in s t r x ≡ Row w p n
    by (Found v d) u = to v d u.0 u.1
    by (StoodIn v d) u = to v d u.0 u.1
    by Nothing u = absurd u

-- 17 is given where both fonts are read and alike, and the row number is at or above Height or no character is there.
pub record NoRow (s t : List ℕ) (c : Code) (r : ℕ) : Type 0 where
  pub header : Header
  pub firsts : List Entry
  pub seconds : List Entry
  pub say : BothSay s t header firsts seconds
  pub why : (header.height ≤ r) ⊎ (looked_up_in_two c firsts seconds ≡ Nothing)

pub no_row_if : (s t : List ℕ) (c : Code) (r : ℕ) → NoRow s t c r → row_of_two s t c r ≡ no_row
unfolding row_of_two
no_row_if s t c r g =
    ap (row_by s t c r) (say_fonts s t g.header g.firsts g.seconds g.say) ∙ by (ltb r g.header.height) refl g.why
  where
    by : (b : Bool) → ltb r g.header.height ≡ b → (g.header.height ≤ r) ⊎ (looked_up_in_two c g.firsts g.seconds ≡ Nothing) → cond b (row_in s t r (looked_up_in_two c g.firsts g.seconds)) no_row ≡ no_row
    by true e (inl l) = absurd (omega (arith, ltb-true r g.header.height e))
    by true e (inr x) = ap (row_in s t r) x
    by false e x = refl

-- "A part of whichever font had it": it lies within that font.
module _ (s t : List ℕ) (c : Code) (r : ℕ) (w : Which) (p n : ℕ) (g : GivenOfTwo s t c r w p n) where
  among-used : (x : LookedUpInTwo) → AmongTwo g.firsts g.seconds x → IsUsed x w g.entry → Among (characters_in w g.firsts g.seconds) g.entry
  among-used (Found v d) a u = subst (λ (e : Entry). Among (characters_in w g.firsts g.seconds) e) u.1 (subst (λ (q : Which). Among (characters_in q g.firsts g.seconds) d) u.0 a)
  among-used (StoodIn v d) a u = subst (λ (e : Entry). Among (characters_in w g.firsts g.seconds) e) u.1 (subst (λ (q : Which). Among (characters_in q g.firsts g.seconds) d) u.0 a)
  among-used Nothing a u = absurd u

  same-height : g.header.height ≡ g.say.other.height
  same-height = eqb-true _ _ (and_left (eqb g.header.height g.say.other.height) (eqb g.header.hardblank.0 g.say.other.hardblank.0) g.say.equal)

  fits_in : (v : Which) → Among (characters_in v g.firsts g.seconds) g.entry → after r (bytes_in v s t) g.entry.start + g.entry.width ≤ length (bytes_in v s t)
  fits_in First k = (row-stands s g.header g.firsts g.say.first g.entry k.0 k.1 r g.below).fits
  fits_in Second k = (row-stands t g.say.other g.seconds g.say.second g.entry k.0 k.1 r (omega (arith, same-height, g.below))).fits

  pub given-fits : p + n ≤ length (bytes_in w s t)
  given-fits = rw (g.place, g.width) (fits_in w (among-used (looked_up_in_two c g.firsts g.seconds) (among_two c g.firsts g.seconds) g.used))

pub row_fits : (s t : List ℕ) (c : Code) (r : ℕ) (w : Which) (p n : ℕ) → row_of_two s t c r ≡ Row w p n → p + n ≤ length (bytes_in w s t)
row_fits s t c r w p n e = given-fits s t c r w p n (row_only s t c r w p n e)
