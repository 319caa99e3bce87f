-- The calls `row` and `row_refusal` agree for every input: the number is 0 exactly where the row is a row of the character that is used.
-- Assumes nothing.
use mathlib.Core.Path.{◌≡◌, refl, sym, ap, ap₂, ◌∙◌, subst}
use mathlib.Core.Bool.{true, false≢true, true≢false}
use mathlib.Core.List.{List, []}
use mathlib.Core.Logic.{◌↔◌}
use Rattle.std.specs.Prelude.{Result, Ok, Err}
use Prim.Native.Nat.{ℕ, ◌+◌, ◌-◌, ◌≤◌}
use native.Mathlib.Omega.{arith}
use lib.ListN.{length, take, drop}
use denote.Ref.{Bor}
use Rattle.ground.specs.declared.refusals.Refusal.{Refusal}
use Rattle.ground.specs.Refusals.{refusal, number_of, too_many_characters, bad_shape}
use Rattle.ground.proofs.Tests.{clash}
use Rattle.subchars.specs.declared.Code.{Code}
use Rattle.lines.specs.Lines.{text_at}
use Rattle.rows.specs.Rows.{row}
use Rattle.rows.proofs.TrailingBlanks.{Marked, row-marked}
use Rattle.font.specs.Font.{refuses, format, reading}
use Rattle.request.specs.declared.RowPlace.{RowPlace}
use Rattle.request.specs.Request.{row_request}
use Rattle.request.proofs.RowLaws.{used-stands}
use Rattle.request.proofs.RequestLaws.{row_place, Given, row_fits, row_only, row_if, RequestBad, refused_17, refused_font, refused-some}
use Rattle.fontcalls.specs.RowCall.{RowTold, part_of, row_bytes, LiesAt, row_tells, row_told}
use Rattle.fontcalls.proofs.ToldApart.{row_apart}

-- The answers to a request.
module _ (s : List ℕ) (c : Code) (r : ℕ) (x : Result RowPlace Refusal) (p : x ≡ row_request s c r) where
  pub by_request : row_tells x ≡ row_told s c r
  unfolding row_told
  by_request = ap row_tells p

  pub part_by_request : part_of s x ≡ row_bytes s c r
  unfolding row_bytes
  part_by_request = ap (part_of s) p

-- The part lies where the request says, and a refused request says nothing.
module _ (s : List ℕ) (c : Code) (r : ℕ) (font part : Bor (List ℕ)) where
  pub lies_there : (p w : ℕ) → Ok (row_place p w) ≡ row_request s c r → part.ref_ptr.0 ≡ font.ref_ptr.0 → part.ref_ptr.1 ≡ p + font.ref_ptr.1 → LiesAt font (row_request s c r) part
  lies_there p w e m o = record { there = λ q f. let g : Ok (row_place p w) ≡ Ok q = e ∙ f in let k : row_place p w ≡ q = cc in (m, o ∙ ap (λ (x : RowPlace). x.place + font.ref_ptr.1) k) }

  pub lies_nowhere : (q : Refusal) → Err q ≡ row_request s c r → LiesAt font (row_request s c r) part
  lies_nowhere q e = record { there = λ p f. let g : Err q ≡ Ok p = e ∙ f in clash (cc) }

-- The part from a place to the place behind its width.
pub row-part : (s : List ℕ) (c : Code) (r p w : ℕ) → Ok (row_place p w) ≡ row_request s c r → take (p + w - p) (drop p s) ≡ row_bytes s c r
row-part s c r p w e = let n : p + w - p ≡ w = omega arith in ap (λ (j : ℕ). take j (drop p s)) n ∙ part_by_request s c r (Ok (row_place p w)) e

module _ (s : List ℕ) (c : Code) (r : ℕ) where
  -- The row of the character that is used: where it stands, and its bytes, which are the row of the line there.
  pub record IsRow : Type 0 where
    pub place : ℕ
    pub width : ℕ
    pub given : Given s c r place width
    pub bytes : row_bytes s c r ≡ take width (drop place s)
    pub whole : row_bytes s c r ≡ row (text_at s place)

  is_row : (p w : ℕ) → row_request s c r ≡ Ok (row_place p w) → IsRow
  unfolding row_bytes
  is_row p w e =
      let g = row_only s c r p w e in
      let t = used-stands s g.header g.entries g.said g.entry c g.is-used r g.below in
      let b : row_bytes s c r ≡ take w (drop p s) = ap (part_of s) e in
      record {
        place = p;
        width = w;
        given = g;
        bytes = b;
        whole = b ∙ ap (λ (j : ℕ). take j (drop p s)) g.width ∙ ap (λ (j : ℕ). take g.entry.width (drop j s)) g.place ∙ t.bytes ∙ sym (ap (λ (j : ℕ). row (text_at s j)) g.place);
      }

  -- Number 0 is told exactly where the row is given.
  pub row_agrees : (row_told s c r).number ≡ 0 ↔ IsRow
  unfolding row_told
  row_agrees = (λ e. to (row_request s c r) refl e, λ w. ap (λ (x : Result RowPlace Refusal). (row_tells x).number) (row_if s c r w.place w.width w.given))
    where
      to : (x : Result RowPlace Refusal) → row_request s c r ≡ x → (row_tells x).number ≡ 0 → IsRow
      to (Ok a) q e = is_row a.place a.width q
      to (Err z) q e = absurd (omega (arith, refused-some s c r z q))

  -- A refused row is empty, and what is not refused has number and place 0.
  pub row-refused : (row_told s c r).refused ≡ true → row_bytes s c r ≡ []
  unfolding row_told row_bytes
  row-refused e = go (row_request s c r) e
    where
      go : (x : Result RowPlace Refusal) → (row_tells x).refused ≡ true → part_of s x ≡ []
      go (Ok a) q = absurd (false≢true q)
      go (Err z) q = refl

  told-refused : (q : Refusal) → row_told s c r ≡ row_tells (Err q) → row_request s c r ≡ Err q
  unfolding row_told
  told-refused q e = go (row_request s c r) e
    where
      go : (x : Result RowPlace Refusal) → row_tells x ≡ row_tells (Err q) → x ≡ Err q
      go (Ok a) k = let y = row_apart (Ok a) (Err q) k in clash (cc)
      go (Err z) k = let y = row_apart (Err z) (Err q) k in let w : z ≡ q = cc in ap Err w

  refused-told : (q : Refusal) → row_request s c r ≡ Err q → row_told s c r ≡ row_tells (Err q)
  unfolding row_told
  refused-told q e = ap row_tells e

  -- The font's refusals, exactly those of the font.
  pub told_font : (q : Refusal) → number_of q.reason ≤ number_of too_many_characters → row_told s c r ≡ row_tells (Err q) ↔ reading s ≡ refuses q
  told_font q h = (λ e. (refused_font s c r q h).0 (told-refused q e), λ m. refused-told q ((refused_font s c r q h).1 m))

  -- 17, "join or row request of bad shape", exactly then, at 0.
  pub told_17 : (p : ℕ) → row_told s c r ≡ row_tells (Err (refusal bad_shape p)) ↔ ((p ≡ 0) × RequestBad s c r)
  told_17 p = (λ e. (refused_17 s c r p).0 (told-refused (refusal bad_shape p) e), λ w. refused-told (refusal bad_shape p) ((refused_17 s c r p).1 w))

  -- "A row request gives the row as a part of the font": where the one call tells a start and a width, the other gives the part there, which lies
  -- in the font.
  pub part-told : (p w : ℕ) → row_told s c r ≡ row_tells (Ok (row_place p w)) → (row_bytes s c r ≡ take w (drop p s)) × (p + w ≤ length s)
  unfolding row_told row_bytes
  part-told p w e = go (row_request s c r) refl e
    where
      go : (x : Result RowPlace Refusal) → row_request s c r ≡ x → row_tells x ≡ row_tells (Ok (row_place p w)) → (part_of s (row_request s c r) ≡ take w (drop p s)) × (p + w ≤ length s)
      go (Ok a) m k =
          let start : a.place ≡ p = ap (λ (t : RowTold). t.start) k in
          let width : a.width ≡ w = ap (λ (t : RowTold). t.width) k in
          (ap (part_of s) m ∙ ap₂ (λ (j n : ℕ). take n (drop j s)) start width, omega (arith, start, width, row_fits s c r a.place a.width m))
      go (Err z) m k = absurd (true≢false (ap (λ (t : RowTold). t.refused) k))

  -- "Blanks and tabs at a row line's end are dropped first, then the last block of equal bytes": so the line of a row that is given is the row, a block of endmarks
  -- that are neither blank nor tab, and blanks and tabs.
  pub line-told : (p w : ℕ) → row_told s c r ≡ row_tells (Ok (row_place p w)) → Marked (text_at s p) × (row_bytes s c r ≡ row (text_at s p))
  unfolding row_told is_row
  line-told p w e = go (row_request s c r) refl e
    where
      go : (x : Result RowPlace Refusal) → row_request s c r ≡ x → row_tells x ≡ row_tells (Ok (row_place p w)) → Marked (text_at s p) × (row_bytes s c r ≡ row (text_at s p))
      go (Ok a) m k =
          let start : a.place ≡ p = ap (λ (t : RowTold). t.start) k in
          let g = row_only s c r a.place a.width m in
          let t = used-stands s g.header g.entries g.said g.entry c g.is-used r g.below in
          let there : Marked (text_at s a.place) = subst (λ (j : ℕ). Marked (text_at s j)) (sym g.place) (row-marked (format g.header) (text_at s _) _ t.width) in
          (subst (λ (j : ℕ). Marked (text_at s j)) start there, (is_row a.place a.width m).whole ∙ ap (λ (j : ℕ). row (text_at s j)) start)
      go (Err z) m k = absurd (true≢false (ap (λ (t : RowTold). t.refused) k))
