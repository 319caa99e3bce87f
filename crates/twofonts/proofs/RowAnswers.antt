-- Each answer of a row request of two fonts is given exactly when document 02, Q-7, says so.
-- Assumes nothing.
use mathlib.Core.Path.{◌≡◌, refl, sym, subst}
use mathlib.Core.Bool.{Bool, true, false}
use mathlib.Core.List.{List}
use mathlib.Core.Logic.{◌↔◌, ◌⊎◌, inl, inr, ⊎_elim}
use Prim.Native.Nat.{ℕ, ◌≤◌}
use native.Mathlib.Omega.{arith}
use lib.Dec.{ltb}
use borrow.Author.Tests.{ltb-true, ltb-false}
use Rattle.ground.specs.Refusals.{refusal, number_of, too_many_characters, bad_shape, fonts_differ}
use Rattle.ground.specs.declared.refusals.Reason.{Reason}
use Rattle.ground.specs.declared.refusals.Refusal.{Refusal}
use Rattle.subchars.specs.declared.Code.{Code}
use Rattle.header.specs.declared.Header.{Header}
use Rattle.chars.specs.declared.Entry.{Entry}
use Rattle.font.specs.Font.{says, refuses, reading}
use Rattle.font.proofs.ReadingLaws.{font_refusal}
use Rattle.fontlists.specs.declared.two.Which.{Which}
use Rattle.fontlists.specs.declared.two.LookedUpInTwo.{LookedUpInTwo}
use Rattle.fontlists.specs.declared.two.LookedUpInTwo.TheVariants.{Found, StoodIn, Nothing}
use Rattle.fontlists.specs.TwoFonts.{looked_up_in_two}
use Rattle.twofonts.specs.declared.RequestedOfTwo.{RequestedOfTwo}
use Rattle.twofonts.specs.declared.RequestedOfTwo.TheVariants.{Row, Refused}
use Rattle.twofonts.specs.Fonts.{alike}
use Rattle.twofonts.specs.RowOfTwo.{row_of_two}
use Rattle.twofonts.proofs.FontsLaws.{unfit-row}
use Rattle.twofonts.proofs.RowLaws.{BothSay, IsUsed, GivenOfTwo, row_only, row_if, NoRow, no_row_if}
use Rattle.twofonts.proofs.Answers.{Unfit, first-refused, second-refused, differ, unfit-is, Both, refused, read, both}

module _ (s t : List ℕ) (c : Code) (r : ℕ) where
  data RowsTo : RequestedOfTwo → Type 0 where
    fonts-refused : (q : Refusal) → Unfit s t q → RowsTo (Refused q)
    no_row : NoRow s t c r → RowsTo (Refused (refusal bad_shape 0))
    row : (w : Which) (p n : ℕ) → GivenOfTwo s t c r w p n → RowsTo (Row w p n)

  abbrev answer : RequestedOfTwo
  answer = row_of_two s t c r

  gives : (a : RequestedOfTwo) → RowsTo a → answer ≡ a
  gives _ (fonts-refused q x) = unfit-row s t q (unfit-is s t q x) c r
  gives _ (no_row x) = no_row_if s t c r x
  gives _ (row w p n g) = row_if s t c r w p n g

  one_of : RowsTo answer
  one_of = by_both (both s t)
    where
      as_told : (a : RequestedOfTwo) → RowsTo a → RowsTo answer
      as_told a d = subst RowsTo (sym (gives a d)) d

      used_so : (x : LookedUpInTwo) (w : Which) (e : Entry) → (x ≡ Found w e) ⊎ (x ≡ StoodIn w e) → IsUsed x w e
      used_so x w e (inl p) = subst (λ (y : LookedUpInTwo). IsUsed y w e) (sym p) (refl, refl)
      used_so x w e (inr p) = subst (λ (y : LookedUpInTwo). IsUsed y w e) (sym p) (refl, refl)

      by_looked : (h : Header) (es fs : List Entry) → BothSay s t h es fs → (b : Bool) → ltb r h.height ≡ b → (x : LookedUpInTwo) → looked_up_in_two c es fs ≡ x → RowsTo answer
      by_looked h es fs say false l x p = as_told _ (no_row (record { header = h; firsts = es; seconds = fs; say = say; why = inl (ltb-false r h.height l) }))
      by_looked h es fs say true l (Found w e) p = as_told _ (row w _ _ (record { header = h; firsts = es; seconds = fs; say = say; below = ltb-true r h.height l; entry = e; used = used_so _ w e (inl p); place = refl; width = refl }))
      by_looked h es fs say true l (StoodIn w e) p = as_told _ (row w _ _ (record { header = h; firsts = es; seconds = fs; say = say; below = ltb-true r h.height l; entry = e; used = used_so _ w e (inr p); place = refl; width = refl }))
      by_looked h es fs say true l Nothing p = as_told _ (no_row (record { header = h; firsts = es; seconds = fs; say = say; why = inr p }))

      by_both : Both s t → RowsTo answer
      by_both (refused q x) = as_told _ (fonts-refused q x)
      by_both (read h es fs say) = by_looked h es fs say (ltb r h.height) refl (looked_up_in_two c es fs) refl

  abbrev FontsFor : Refusal → Type 0
  FontsFor q = (reading s ≡ refuses q) ⊎ ((h : Header) × (es : List Entry) × (reading s ≡ says h es) × (reading t ≡ refuses q))

  abbrev Differ : ℕ → Type 0
  Differ p = (p ≡ 0) × (h : Header) × (k : Header) × (es : List Entry) × (fs : List Entry) × (reading s ≡ says h es) × (reading t ≡ says k fs) × (alike h k ≡ false)

  abbrev Told : RequestedOfTwo → Type 0
  Told (Row w p n) = GivenOfTwo s t c r w p n
  Told (Refused q) = (number_of q.reason ≤ number_of too_many_characters → FontsFor q) × (number_of q.reason ≡ number_of fonts_differ → Differ q.place) × (number_of q.reason ≡ number_of bad_shape → (q.place ≡ 0) × NoRow s t c r)

  told-unfit : (q : Refusal) → Unfit s t q → Told (Refused q)
  told-unfit _ (first-refused q p) = let b = font_refusal s q p in (λ e. inl p, λ e. absurd (omega (arith, b.1)), λ e. absurd (omega (arith, b.1)))
  told-unfit _ (second-refused h es p q m) = let b = font_refusal t q m in (λ e. inr (h, es, p, m), λ e. absurd (omega (arith, b.1)), λ e. absurd (omega (arith, b.1)))
  told-unfit _ (differ h k es fs p m x) = (λ e. absurd (omega arith), λ e. (refl, h, k, es, fs, p, m, x), λ e. absurd (omega arith))

  told : (a : RequestedOfTwo) → RowsTo a → Told a
  told _ (fonts-refused q x) = told-unfit q x
  told _ (no_row x) = (λ e. absurd (omega arith), λ e. absurd (omega arith), λ e. (refl, x))
  told _ (row w p n g) = g

  tells : (a : RequestedOfTwo) → answer ≡ a → Told a
  tells a e = told a (subst RowsTo e one_of)

  refused-at : (why : Reason) (p : ℕ) → p ≡ 0 → answer ≡ Refused (refusal why 0) → answer ≡ Refused (refusal why p)
  refused-at why p e a = subst (λ (q : ℕ). answer ≡ Refused (refusal why q)) (sym e) a

  pub row-fonts : (q : Refusal) → number_of q.reason ≤ number_of too_many_characters → answer ≡ Refused q ↔ FontsFor q
  row-fonts q l = (λ e. (tells _ e).0 l, λ w. ⊎_elim (λ p. gives _ (fonts-refused q (first-refused q p))) (λ v. gives _ (fonts-refused q (second-refused v.0 v.1 v.2 q v.3))) w)

  pub row_24 : (p : ℕ) → answer ≡ Refused (refusal fonts_differ p) ↔ Differ p
  row_24 p = (λ e. (tells _ e).1 refl, λ w. refused-at fonts_differ p w.0 (gives _ (fonts-refused _ (differ w.1 w.2 w.3 w.4 w.5 w.6 w.7))))

  pub row_17 : (p : ℕ) → answer ≡ Refused (refusal bad_shape p) ↔ ((p ≡ 0) × NoRow s t c r)
  row_17 p = (λ e. (tells _ e).2 refl, λ w. refused-at bad_shape p w.0 (gives _ (no_row w.1)))

  pub row-given : (w : Which) (p n : ℕ) → answer ≡ Row w p n ↔ GivenOfTwo s t c r w p n
  row-given w p n = (row_only s t c r w p n, row_if s t c r w p n)
