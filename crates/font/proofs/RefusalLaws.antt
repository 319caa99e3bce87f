-- A font is refused only as document 01's table says: one type of its refusals, 1 to 8, each at the line where it is met.
-- Assumes nothing.
use mathlib.Core.Path.{◌≡◌, refl, sym, ap, ◌∙◌, subst}
use mathlib.Core.Bool.{Bool, true, false, cond}
use mathlib.Core.List.{List, [], ◌∷◌}
use mathlib.Core.Logic.{◌⊎◌, inl, inr}
use Prim.Native.Nat.{ℕ, ◌≤◌, ◌<◌}
use native.Mathlib.Omega.{arith}
use lib.Dec.{leb}
use lib.ListN.{length, drop}
use borrow.Author.Tests.{lt-ltb, le-ltb, leb-true, leb-false}
use Rattle.std.specs.Prelude.{Result, Ok, Err}
use Rattle.ground.specs.Refusals.{refusal, number_of, font_too_long, no_signature, missing_line, too_many_characters}
use Rattle.ground.specs.declared.refusals.Refusal.{Refusal}
use Rattle.ground.proofs.Tests.{clash, below_or_not}
use Rattle.ground.specs.Limits.{max_font_length}
use Rattle.lines.specs.Lines.{TextLine, lines_from}
use Rattle.lines.proofs.StartLaws.{Starting, start-rest, start_dropped, lines_start}
use Rattle.header.specs.declared.Header.{Header}
use Rattle.header.specs.Header.{read_header}
use Rattle.header.proofs.RefusalLaws.{HeaderStops, header_exactly, header-refusal}
use Rattle.chars.specs.declared.Entry.{Entry}
use Rattle.chars.specs.Codes.{required_codes}
use Rattle.chars.specs.Chars.{Ending, finished, stopped, Listing, listing}
use Rattle.chars.proofs.RefusalLaws.{CharactersStop, only_characters, characters-inside}
use Rattle.font.specs.Font.{refuses, format, reading_of, with_characters, after_header, on_lines, reading}

-- "2, 3, 4, then 5 to 8 as met line by line": the refusals of a font's lines.
pub data LinesStop (size : ℕ) : List TextLine → Refusal → Type 0 where
  -- 2: "first line does not begin with flf2a", where there is none
  no_line : LinesStop size [] (refusal no_signature 0)
  -- 2, 3 and 4
  in_header : {l : TextLine} {ls : List TextLine} {r : Refusal} → HeaderStops l.text r → LinesStop size (l ∷ ls) r
  -- 5: "font ends before a needed line", at the "font length": the comment lines run out
  in_comments : {l : TextLine} {ls : List TextLine} (h : Header) → read_header l.text ≡ Ok h → length ls < h.comment_lines → LinesStop size (l ∷ ls) (refusal missing_line size)
  -- 5 to 8, "after the comment lines": the characters of the required codes, then the tagged ones
  in_characters : {l : TextLine} {ls : List TextLine} {r : Refusal} (h : Header) → read_header l.text ≡ Ok h → h.comment_lines ≤ length ls →
      CharactersStop (format h) size required_codes 0 (drop h.comment_lines ls) r → LinesStop size (l ∷ ls) r

-- "Order. Reading a font: .. 1, 2, 3, 4, then 5 to 8": every refusal of a font.
pub data FontStops (s : List ℕ) : Refusal → Type 0 where
  -- 1: "font too long"
  too_long : max_font_length < length s → FontStops s (refusal font_too_long 0)
  -- 2 to 8, of a font that is not too long
  on_lines_lem : {r : Refusal} → length s ≤ max_font_length → LinesStop (length s) (lines_from s 0) r → FontStops s r

pub ended-stopped : (h : Header) (en : Ending) (es : List Entry) (r : Refusal) → reading_of h en es ≡ refuses r → en ≡ stopped r
ended-stopped h finished es r e = clash (cc)
ended-stopped h (stopped q) es r e = let d : q ≡ r = cc in ap stopped d

module _ (size : ℕ) where
  pub header-by : (l : TextLine) (ls : List TextLine) (x : Result Header Refusal) → read_header l.text ≡ x → on_lines size (l ∷ ls) ≡ after_header x size ls
  header-by l ls x e = ap (λ (y : Result Header Refusal). after_header y size ls) e

  -- the characters behind a header and its comment lines
  abbrev behind : Header → List TextLine → Listing
  behind h ls = listing (format h) size required_codes 0 (drop h.comment_lines ls)

  only_lines : (ls : List TextLine) (r : Refusal) → on_lines size ls ≡ refuses r → LinesStop size ls r
  only_lines [] r e = let p : refusal no_signature 0 ≡ r = cc in subst (LinesStop size []) p no_line
  only_lines (l ∷ ls) r e = go (read_header l.text) refl e
    where
      by : (h : Header) → read_header l.text ≡ Ok h → (b : Bool) → leb h.comment_lines (length ls) ≡ b →
          cond b (with_characters h (behind h ls)) (refuses (refusal missing_line size)) ≡ refuses r → LinesStop size (l ∷ ls) r
      by h p true b q =
          in_characters {l = l} h p (leb-true h.comment_lines (length ls) b)
          (only_characters (format h) size required_codes 0 (drop h.comment_lines ls) r (ended-stopped h (behind h ls).ending (behind h ls).entries r q))
      by h p false b q =
          let d : refusal missing_line size ≡ r = cc in
          subst (LinesStop size (l ∷ ls)) d (in_comments {l = l} h p (leb-false h.comment_lines (length ls) b))

      go : (x : Result Header Refusal) → read_header l.text ≡ x → after_header x size ls ≡ refuses r → LinesStop size (l ∷ ls) r
      go (Err q) p y = let d : q ≡ r = cc in in_header {l = l} ((header_exactly l.text r).0 (p ∙ ap Err d))
      go (Ok h) p y = by h p (leb h.comment_lines (length ls)) refl y

  lines_inside : (ls : List TextLine) (r : Refusal) → Starting size ls → LinesStop size ls r → (number_of no_signature ≤ number_of r.reason) × (number_of r.reason ≤ number_of too_many_characters) × (r.place ≤ size)
  lines_inside [] _ t no_line = (omega arith, omega arith, omega arith)
  lines_inside (l ∷ ls) r t (in_header b) = let k = header-refusal l.text r ((header_exactly l.text r).1 b) in (k.low, omega (arith, k.high), omega (arith, k.place))
  lines_inside (l ∷ ls) _ t (in_comments h e k) = (omega arith, omega arith, omega arith)
  lines_inside (l ∷ ls) r t (in_characters h e k s) =
      let n = characters-inside (format h) size required_codes 0 (drop h.comment_lines ls) r (start_dropped size h.comment_lines ls (start-rest size l ls t)) s in
      (omega (arith, n.0), n.1, n.2)

module _ (s : List ℕ) where
  pub short_is : length s ≤ max_font_length → reading s ≡ on_lines (length s) (lines_from s 0)
  unfolding reading
  short_is h = simp (le-ltb max_font_length (length s) h)

  pub long-is : max_font_length < length s → reading s ≡ refuses (refusal font_too_long 0)
  unfolding reading
  long-is h = simp (lt-ltb max_font_length (length s) h)

  -- the font is too long, or its lines decide
  pub deciding : (max_font_length < length s) ⊎ (length s ≤ max_font_length)
  deciding = below_or_not max_font_length (length s)

  -- each refusal is one of the table, 1 to 8, met at its line
  pub only_font : (r : Refusal) → reading s ≡ refuses r → FontStops s r
  only_font r e = go deciding
    where
      go : (max_font_length < length s) ⊎ (length s ≤ max_font_length) → FontStops s r
      go (inl h) =
          let is : refuses (refusal font_too_long 0) ≡ refuses r = sym (long-is h) ∙ e in
          let p : refusal font_too_long 0 ≡ r = cc in
          subst (FontStops s) p (too_long h)
      go (inr h) = on_lines_lem h (only_lines (length s) (lines_from s 0) r (sym (short_is h) ∙ e))

  -- by 1 to 8, at a place within it or at its end
  pub font_inside : (r : Refusal) → FontStops s r → (number_of font_too_long ≤ number_of r.reason) × (number_of r.reason ≤ number_of too_many_characters) × (r.place ≤ length s) × (r.place ≤ max_font_length)
  font_inside _ (too_long h) = (omega arith, omega arith, omega arith, omega arith)
  font_inside r (on_lines_lem h b) = let n = lines_inside (length s) (lines_from s 0) r (lines_start s) b in (omega (arith, n.0), n.1, n.2, omega (arith, n.2, h))
