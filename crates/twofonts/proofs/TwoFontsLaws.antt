-- The sentences of document 02, Q-7, on look-up and drawing by two fonts.
-- Assumes nothing.
use mathlib.Core.Path.{◌≡◌, refl, sym, ap, ap₂, ◌∙◌}
use mathlib.Core.Bool.{Bool, true, false, cond}
use mathlib.Core.List.{List, [], ◌∷◌}
use mathlib.Core.Logic.{◌↔◌, ◌⊎◌, inl, inr, ⊎_elim}
use Prim.Native.Nat.{ℕ, ◌+◌}
use lib.Dec.{eqb, ltb}
use lib.IntN.{pos}
use lib.ListN.{length}
use borrow.Author.Tests.{eq-eqb, ne_eqb, eqb-false}
use Rattle.std.specs.Prelude.{Option, Some, None, Result, Ok, Err}
use Rattle.ground.specs.Limits.{max_text, min_scratch}
use Rattle.ground.specs.Refusals.{refusal, area_too_small, text_too_long, fonts_differ}
use Rattle.ground.proofs.Tests.{clash, and_both, and_none, and_left_false, and_right_false}
use Rattle.ground.specs.declared.refusals.Refusal.{Refusal}
use Rattle.subchars.specs.declared.Code.{Code}
use Rattle.subchars.specs.declared.Mode.{Mode}
use Rattle.blocks.specs.Block.{Block}
use Rattle.figure.specs.Line.{empty, line_from}
use Rattle.header.specs.declared.Header.{Header}
use Rattle.lines.specs.Lines.{after}
use Rattle.chars.specs.declared.Entry.{Entry}
use Rattle.chars.specs.Codes.{same_code}
use Rattle.font.specs.Font as font
use Rattle.reader.specs.Reader.{used, last_of, which_of, looked_up}
use Rattle.reader.proofs.ThreeLaws.{Has, found_exactly, own_found, other_stood_in, unused_nothing}
use Rattle.request.specs.declared.RowPlace.{RowPlace}
use Rattle.request.specs.Request.{in_font, sought, bad_request, row_of_sought, row_request}
use Rattle.flc.specs.declared.Command.{Command}
use Rattle.flc.specs.Control as flc
use Rattle.fontlists.specs.declared.two.Which.TheVariants.{First, Second}
use Rattle.fontlists.specs.declared.two.LookedUpInTwo.TheVariants as two
use Rattle.fontlists.specs.TwoFonts.{first_try, looked_up_in_two}
use Rattle.source.specs.Source.{Choice, Source, choice_of, font_source, choice_of_two, two_source}
use Rattle.source.specs.Counting.{one, is_stood_in, is_nothing, how_many, counts_of}
use Rattle.fontlists.proofs.TwoLaws.{either_looked_up}
use Rattle.fontlists.specs.Steps.{either_of}
use Rattle.drawing.specs.Drawing.{text_codes, with_choice, characters_of, line_of, mode_of, Lined, unlined, lined_text, lined_from, lined_by, lined_of, draw_lined, draws, refuses, lined_read}
use Rattle.twofonts.specs.Fonts.{Fonts, fonts, unfit, alike, fonts_by, fonts_of}
use Rattle.twofonts.specs.declared.RequestedOfTwo.{RequestedOfTwo}
use Rattle.twofonts.specs.declared.RequestedOfTwo.TheVariants as row
use Rattle.twofonts.specs.RowOfTwo.{no_row, row_in, row_by, row_of_two}
use Rattle.twofonts.specs.TwoDrawing.{two_by, two_of, two_lined}
use Rattle.twofonts.proofs.RowLaws.{BothSay, say_fonts}

-- The order of the four tries, and that each is used exactly if none before it is there.
module _ (a b z w : Option Entry) where
  to_first : (e : Entry) → first_try a b z w ≡ two.Found First e → a ≡ Some e
  to_first e = go a b z w
    where
      go : (a b z w : Option Entry) → first_try a b z w ≡ two.Found First e → a ≡ Some e
      go (Some d) b z w p = let q : d ≡ e = cc in ap Some q
      go None (Some d) z w p = clash (cc)
      go None None (Some d) w p = clash (cc)
      go None None None (Some d) p = clash (cc)
      go None None None None p = clash (cc)

  to_second : (e : Entry) → first_try a b z w ≡ two.Found Second e → (a ≡ None) × (b ≡ Some e)
  to_second e = go a b z w
    where
      go : (a b z w : Option Entry) → first_try a b z w ≡ two.Found Second e → (a ≡ None) × (b ≡ Some e)
      go (Some d) b z w p = clash (cc)
      go None (Some d) z w p = let q : d ≡ e = cc in (refl, ap Some q)
      go None None (Some d) w p = clash (cc)
      go None None None (Some d) p = clash (cc)
      go None None None None p = clash (cc)

  to_third : (e : Entry) → first_try a b z w ≡ two.StoodIn First e → (a ≡ None) × (b ≡ None) × (z ≡ Some e)
  to_third e = go a b z w
    where
      go : (a b z w : Option Entry) → first_try a b z w ≡ two.StoodIn First e → (a ≡ None) × (b ≡ None) × (z ≡ Some e)
      go (Some d) b z w p = clash (cc)
      go None (Some d) z w p = clash (cc)
      go None None (Some d) w p = let q : d ≡ e = cc in (refl, refl, ap Some q)
      go None None None (Some d) p = clash (cc)
      go None None None None p = clash (cc)

  to_fourth : (e : Entry) → first_try a b z w ≡ two.StoodIn Second e → (a ≡ None) × (b ≡ None) × (z ≡ None) × (w ≡ Some e)
  to_fourth e = go a b z w
    where
      go : (a b z w : Option Entry) → first_try a b z w ≡ two.StoodIn Second e → (a ≡ None) × (b ≡ None) × (z ≡ None) × (w ≡ Some e)
      go (Some d) b z w p = clash (cc)
      go None (Some d) z w p = clash (cc)
      go None None (Some d) w p = clash (cc)
      go None None None (Some d) p = let q : d ≡ e = cc in (refl, refl, refl, ap Some q)
      go None None None None p = clash (cc)

  to_none : first_try a b z w ≡ two.Nothing → (a ≡ None) × (b ≡ None) × (z ≡ None) × (w ≡ None)
  to_none = go a b z w
    where
      go : (a b z w : Option Entry) → first_try a b z w ≡ two.Nothing → (a ≡ None) × (b ≡ None) × (z ≡ None) × (w ≡ None)
      go (Some d) b z w p = clash (cc)
      go None (Some d) z w p = clash (cc)
      go None None (Some d) w p = clash (cc)
      go None None None (Some d) p = clash (cc)
      go None None None None p = (refl, refl, refl, refl)

module _ (c : Code) (es fs : List Entry) where
  abbrev own : Option Entry
  own = last_of c.0 es

  abbrev its : Option Entry
  its = last_of c.0 fs

  abbrev zeroth : Option Entry
  zeroth = last_of (pos 0) es

  abbrev other : Option Entry
  other = last_of (pos 0) fs

  pub first_try_lem : (e : Entry) → looked_up_in_two c es fs ≡ two.Found First e ↔ (own ≡ Some e)
  unfolding looked_up_in_two
  first_try_lem e = (to_first own its zeroth other e, λ p. ap (λ (a : Option Entry). first_try a its zeroth other) p)

  pub second_try : (e : Entry) → looked_up_in_two c es fs ≡ two.Found Second e ↔ ((own ≡ None) × (its ≡ Some e))
  unfolding looked_up_in_two
  second_try e = (to_second own its zeroth other e, λ p. λ i. first_try (p.0 i) (p.1 i) zeroth other)

  pub third_try : (e : Entry) → looked_up_in_two c es fs ≡ two.StoodIn First e ↔ ((own ≡ None) × (its ≡ None) × (zeroth ≡ Some e))
  unfolding looked_up_in_two
  third_try e = (to_third own its zeroth other e, λ p. λ i. first_try (p.0 i) (p.1 i) (p.2 i) other)

  pub fourth_try : (e : Entry) → looked_up_in_two c es fs ≡ two.StoodIn Second e ↔ ((own ≡ None) × (its ≡ None) × (zeroth ≡ None) × (other ≡ Some e))
  unfolding looked_up_in_two
  fourth_try e = (to_fourth own its zeroth other e, λ p. λ i. first_try (p.0 i) (p.1 i) (p.2 i) (p.3 i))

  pub no_try : looked_up_in_two c es fs ≡ two.Nothing ↔ ((own ≡ None) × (its ≡ None) × (zeroth ≡ None) × (other ≡ None))
  unfolding looked_up_in_two
  no_try = (to_none own its zeroth other, λ p. λ i. first_try (p.0 i) (p.1 i) (p.2 i) (p.3 i))

-- With the same font twice every answer is that font's.
twice_choice : (s : List ℕ) (a z : Option Entry) → choice_of_two s s (first_try a a z z) ≡ choice_of s (which_of a z)
twice_choice s (Some e) z = refl
twice_choice s None (Some e) = refl
twice_choice s None None = refl

pub twice_source : (s : List ℕ) (es : List Entry) → two_source s s es es ≡ font_source s es
unfolding two_source looked_up_in_two font_source looked_up
twice_source s es = λ i c. twice_choice s (last_of c.0 es) (last_of (pos 0) es) i

alike-itself : (h : Header) → alike h h ≡ true
alike-itself h = and_both (eqb h.height h.height) (eqb h.hardblank.0 h.hardblank.0) (eq-eqb h.height h.height refl) (eq-eqb h.hardblank.0 h.hardblank.0 refl)

pub twice_lined : (s control text : List ℕ) → two_of s s control text ≡ lined_of s control text
unfolding two_of fonts_of lined_of
twice_lined s control text = go (font.reading s)
  where
    go : (m : font.FontReading) → two_by s s (fonts_by m m) (flc.control control) text ≡ lined_by s m (flc.control control) text
    go (font.refuses r) = refl
    go (font.says h es) =
        ap (λ (b : Bool). two_by s s (cond b (fonts h es es) (unfit (refusal fonts_differ 0))) (flc.control control) text) (alike-itself h) ∙
        ap (λ (x : Source). lined_from (mode_of h) h.height x (flc.control control) text) (twice_source s es)

pub twice_draws : (size : ℕ) (s control text : List ℕ) → two_lined size s s control text ≡ draw_lined size s control text
unfolding two_lined draw_lined
twice_draws size s control text = ap (λ (x : Lined). cond (ltb size min_scratch) (unlined (refusal area_too_small 0)) x) (twice_lined s control text)

-- The row, too, is that font's, told to stand in the first.
abbrev pub in_first : Result RowPlace Refusal → RequestedOfTwo
in_first (Ok x) = row.Row First x.place x.width
in_first (Err q) = row.Refused q

module _ (c : Code) (es : List Entry) where
  used_twice : (e : Entry) → used c es ≡ Some e → (looked_up_in_two c es es ≡ two.Found First e) ⊎ (looked_up_in_two c es es ≡ two.StoodIn First e)
  used_twice e p = go (same_code e.code c) refl
    where
      go : (b : Bool) → same_code e.code c ≡ b → (looked_up_in_two c es es ≡ two.Found First e) ⊎ (looked_up_in_two c es es ≡ two.StoodIn First e)
      go true q = inl (sym (either_looked_up c es es) ∙ ap (λ x. either_of x x) (own_found c es e p q))
      go false q = inr (sym (either_looked_up c es es) ∙ ap (λ x. either_of x x) (other_stood_in c es e p q))

  unused_twice : used c es ≡ None → looked_up_in_two c es es ≡ two.Nothing
  unused_twice p = sym (either_looked_up c es es) ∙ ap (λ x. either_of x x) (unused_nothing c es p)

pub twice_row : (s : List ℕ) (c : Code) (r : ℕ) → row_of_two s s c r ≡ in_first (row_request s c r)
unfolding row_of_two fonts_of row_request sought
twice_row s c r = go (font.reading s)
  where
    told : (h : Header) (es : List Entry) (u : Option Entry) → used c es ≡ u → cond (ltb r h.height) (row_in s s r (looked_up_in_two c es es)) no_row ≡ in_first (row_of_sought s r (Ok (in_font h.height u)))
    told h es (Some e) p = at (ltb r h.height)
      where
        at : (b : Bool) → cond b (row_in s s r (looked_up_in_two c es es)) no_row ≡ in_first (cond b (Ok (record { place = after r s e.start; width = e.width })) bad_request)
        at true = ⊎_elim (λ q. ap (row_in s s r) q) (λ q. ap (row_in s s r) q) (used_twice c es e p)
        at false = refl
    told h es None p = at (ltb r h.height)
      where
        at : (b : Bool) → cond b (row_in s s r (looked_up_in_two c es es)) no_row ≡ no_row
        at true = ap (row_in s s r) (unused_twice c es p)
        at false = refl

    go : (m : font.FontReading) → row_by s s c r (fonts_by m m) ≡ in_first (row_of_sought s r (sought c m))
    go (font.refuses q) = refl
    go (font.says h es) = ap (λ (b : Bool). row_by s s c r (cond b (fonts h es es) (unfit (refusal fonts_differ 0)))) (alike-itself h) ∙ told h es (used c es) refl

-- A text whose codes the first font has is drawn as by the first alone, whatever legal second font stands behind.
abbrev pub EachHas : List Entry → List Code → Type 0
EachHas es [] = Unit
EachHas es (c ∷ cs) = Has c.0 es × EachHas es cs

module _ (s t : List ℕ) (es fs : List Entry) where
  pub own_first : (c : Code) → Has c.0 es → two_source s t es fs c ≡ font_source s es c
  unfolding two_source font_source
  own_first c h =
      let p = (found_exactly c es).1 h in
      ap (choice_of_two s t) (sym (either_looked_up c es fs) ∙ ap (λ x. either_of x (looked_up c fs)) p.1) ∙ sym (ap (choice_of s) p.1)

  module _ (y : Mode) (h : ℕ) where
    covered_characters : (cs : List Code) → EachHas es cs → characters_of (two_source s t es fs) cs ≡ characters_of (font_source s es) cs
    unfolding characters_of
    covered_characters [] x = refl
    covered_characters (c ∷ cs) x = ap₂ (λ (k : Choice) (bs : List Block). with_choice k bs) (own_first c x.0) (covered_characters cs x.1)

    covered_many : (group : Choice → Bool) (cs : List Code) → EachHas es cs → how_many group (two_source s t es fs) cs ≡ how_many group (font_source s es) cs
    unfolding how_many
    covered_many group [] x = refl
    covered_many group (c ∷ cs) x = ap₂ (λ (k : Choice) (n : ℕ). one (group k) + n) (own_first c x.0) (covered_many group cs x.1)

    covered_counts : (cs : List Code) → EachHas es cs → counts_of (two_source s t es fs) cs ≡ counts_of (font_source s es) cs
    unfolding counts_of
    covered_counts cs x = λ i. record { stood_in = covered_many is_stood_in cs x i; nothing_drawn = covered_many is_nothing cs x i }

    covered_text : (cs : List Code) → EachHas es cs → lined_text y h (two_source s t es fs) cs ≡ lined_text y h (font_source s es) cs
    unfolding line_of
    covered_text cs x = λ i. Lined.lined y h (line_from y h empty (covered_characters cs x i)) (covered_counts cs x i)

pub covered_lined : (s t : List ℕ) (h : Header) (es fs : List Entry) → BothSay s t h es fs → (control text : List ℕ) (cs : List Command) (k : ℕ) → flc.control control ≡ flc.reads cs k → EachHas es (text_codes cs k text) → two_of s t control text ≡ lined_of s control text
unfolding two_of lined_of
covered_lined s t h es fs b control text cs k c x =
    ap₂ (λ (f : Fonts) (r : flc.ControlReading). two_by s t f r text) (say_fonts s t h es fs b) c ∙
    covered (ltb max_text (length text)) ∙
    sym (ap₂ (λ (m : font.FontReading) (r : flc.ControlReading). lined_by s m r text) b.first c)
  where
    covered : (long : Bool) →
        lined_read (mode_of h) h.height (two_source s t es fs) (cond long (refuses (refusal text_too_long 0)) (draws (text_codes cs k text))) ≡
        lined_read (mode_of h) h.height (font_source s es) (cond long (refuses (refusal text_too_long 0)) (draws (text_codes cs k text)))
    covered true = refl
    covered false = covered_text s t es fs (mode_of h) h.height (text_codes cs k text) x

pub covered_draws : (size : ℕ) (s t : List ℕ) (h : Header) (es fs : List Entry) → BothSay s t h es fs → (control text : List ℕ) (cs : List Command) (k : ℕ) → flc.control control ≡ flc.reads cs k → EachHas es (text_codes cs k text) → two_lined size s t control text ≡ draw_lined size s control text
unfolding two_lined draw_lined
covered_draws size s t h es fs b control text cs k c x = ap (λ (l : Lined). cond (ltb size min_scratch) (unlined (refusal area_too_small 0)) l) (covered_lined s t h es fs b control text cs k c x)

-- "Heights or hardblanks differ."
pub differ_exactly : (h k : Header) → alike h k ≡ false ↔ (((h.height ≡ k.height) → ⊥) ⊎ ((h.hardblank.0 ≡ k.hardblank.0) → ⊥))
differ_exactly h k = (
  λ e. ⊎_elim (λ p. inl (eqb-false _ _ p)) (λ p. inr (eqb-false _ _ p)) (and_none (eqb h.height k.height) (eqb h.hardblank.0 k.hardblank.0) e),
  λ w. ⊎_elim (λ n. and_left_false (eqb h.height k.height) (eqb h.hardblank.0 k.hardblank.0) (ne_eqb _ _ n)) (λ n. and_right_false (eqb h.height k.height) (eqb h.hardblank.0 k.hardblank.0) (ne_eqb _ _ n)) w,
)
