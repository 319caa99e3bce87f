-- A font that is read has at most 512 characters, each with all its rows, in file order, of the required codes and those of tags; a refused one has a place within it.
-- Assumes nothing.
use mathlib.Core.Path.{◌≡◌, refl, sym, ap, ◌∙◌, subst}
use mathlib.Core.Bool.{Bool, true, false, cond}
use mathlib.Core.List.{List, [], ◌∷◌, map}
use mathlib.Core.Logic.{◌⊎◌, inl, inr}
use Prim.Native.Nat.{ℕ, suc, ◌≤◌, ◌<◌}
use native.Mathlib.Omega.{arith}
use lib.Dec.{leb}
use lib.IntN.{pos}
use lib.ListN.{length, drop, take}
use Rattle.std.specs.Prelude.{Result, Ok, Err}
use Rattle.ground.specs.Refusals.{refusal, number_of, font_too_long, missing_line, too_many_characters}
use Rattle.ground.specs.declared.refusals.Refusal.{Refusal}
use Rattle.ground.proofs.Tests.{clash}
use Rattle.ground.specs.Limits.{max_characters, max_font_length}
use Rattle.lines.specs.Lines.{TextLine, lines_from}
use Rattle.header.specs.declared.Header.{Header}
use Rattle.header.specs.Header.{read_header}
use Rattle.header.proofs.ParameterLaws.{High}
use Rattle.header.proofs.RefusalLaws.{Numbered, header_numbered}
use Rattle.chars.specs.declared.Entry.{Entry}
use Rattle.chars.specs.Codes.{code, required_codes, required_count}
use Rattle.chars.specs.Chars.{Ending, finished, stopped, Listing, listing}
use Rattle.chars.proofs.CodeLaws.{codes_length}
use Rattle.chars.proofs.EntryLaws.{EachStands, each-further, each_dropped, listing-sound}
use Rattle.chars.proofs.OrderLaws.{InOrder, Coded, listing_coded, coded_ordered, coded_first, EachTagged, coded_others}
use Rattle.font.specs.Font.{says, refuses, format, reading_of, with_characters, after_header, on_lines, reading}
use Rattle.font.proofs.RefusalLaws.{short_is, long-is, deciding, only_font, font_inside}

-- A font that is read has a first line with its header, and on the lines behind it the characters.
data LinesRead (size : ℕ) (h : Header) : List TextLine → List Entry → Type 0 where
  behind : (l : TextLine) (ls : List TextLine) → read_header l.text ≡ Ok h → (listing (format h) size required_codes 0 (drop h.comment_lines ls)).ending ≡ finished →
      LinesRead size h (l ∷ ls) (listing (format h) size required_codes 0 (drop h.comment_lines ls)).entries

ended-read : (g : Header) (en : Ending) (es : List Entry) (h : Header) (xs : List Entry) → reading_of g en es ≡ says h xs → (g ≡ h) × (es ≡ xs) × (en ≡ finished)
ended-read g finished es h xs e = (cc, cc, refl)
ended-read g (stopped r) es h xs e = clash (cc)

lines_read : (size : ℕ) (ls : List TextLine) (h : Header) (es : List Entry) → on_lines size ls ≡ says h es → LinesRead size h ls es
lines_read size [] h es e = clash (cc)
lines_read size (l ∷ ls) h es e = go (read_header l.text) refl e
  where
    listed : Header → Listing
    listed g = listing (format g) size required_codes 0 (drop g.comment_lines ls)

    said : (g : Header) → read_header l.text ≡ Ok g → (b : Bool) → cond b (with_characters g (listed g)) (refuses (refusal missing_line size)) ≡ says h es → LinesRead size h (l ∷ ls) es
    said g p true q =
        let r = ended-read g (listed g).ending (listed g).entries h es q in
        subst (LinesRead size h (l ∷ ls)) (ap (λ (y : Header). (listed y).entries) (sym r.0) ∙ r.1) (behind l ls (p ∙ ap Ok r.0) (ap (λ (y : Header). (listed y).ending) (sym r.0) ∙ r.2))
    said g p false q = clash (cc)

    go : (x : Result Header Refusal) → read_header l.text ≡ x → after_header x size ls ≡ says h es → LinesRead size h (l ∷ ls) es
    go (Err r) p q = clash (cc)
    go (Ok g) p q = said g p (leb g.comment_lines (length ls)) q

module _ (size : ℕ) (h : Header) where
  read_numbered : (ls : List TextLine) (es : List Entry) → LinesRead size h ls es → Numbered h
  read_numbered _ _ (behind l ls p q) = header_numbered l.text h p

  read-sound : (ls : List TextLine) (es : List Entry) → LinesRead size h ls es → (length es ≤ max_characters) × EachStands (format h) ls es
  read-sound _ _ (behind l ls p q) =
      let x = listing (format h) size required_codes 0 (drop h.comment_lines ls) in
      let s = listing-sound (format h) size required_codes 0 (drop h.comment_lines ls) (omega (arith, codes_length)) in
      (omega (arith, s.few), each-further (format h) l ls x.entries (each_dropped (format h) h.comment_lines ls x.entries s.rows))

  read_coded : (ls : List TextLine) (es : List Entry) → LinesRead size h ls es → Coded (format h) required_codes (drop (suc h.comment_lines) ls) es
  read_coded _ _ (behind l ls p q) = listing_coded (format h) size required_codes 0 (drop h.comment_lines ls) q

module _ (s : List ℕ) where
  -- a font is refused by 1 to 8, at a place within it or at its end
  pub font_refusal : (r : Refusal) → reading s ≡ refuses r → (number_of font_too_long ≤ number_of r.reason) × (number_of r.reason ≤ number_of too_many_characters) × (r.place ≤ length s) × (r.place ≤ max_font_length)
  font_refusal r e = font_inside s r (only_font s r e)

  -- A font that is read.
  pub record FontRead (h : Header) (es : List Entry) : Type 0 where
    pub short : length s ≤ max_font_length
    pub high : High h.height
    pub few : length es ≤ max_characters
    pub rows : EachStands (format h) (lines_from s 0) es

  font_lines : (h : Header) (es : List Entry) → reading s ≡ says h es → (length s ≤ max_font_length) × LinesRead (length s) h (lines_from s 0) es
  font_lines h es e = go (deciding s)
    where
      go : (max_font_length < length s) ⊎ (length s ≤ max_font_length) → (length s ≤ max_font_length) × LinesRead (length s) h (lines_from s 0) es
      go (inl k) = let y : refuses (refusal font_too_long 0) ≡ says h es = sym (long-is s k) ∙ e in clash (cc)
      go (inr k) = (k, lines_read (length s) (lines_from s 0) h es (sym (short_is s k) ∙ e))

  pub font_read : (h : Header) (es : List Entry) → reading s ≡ says h es → FontRead h es
  font_read h es e =
      let x = font_lines h es e in
      let r = read-sound (length s) h (lines_from s 0) es x.1 in
      record { short = x.0; high = (read_numbered (length s) h (lines_from s 0) es x.1).rows; few = r.0; rows = r.1 }

  -- its header's layout is one that the numbers of a header give
  pub font_numbered : (h : Header) (es : List Entry) → reading s ≡ says h es → Numbered h
  font_numbered h es e = read_numbered (length s) h (lines_from s 0) es (font_lines h es e).1

  -- behind the header line and the comment lines stand the characters of the required codes, in order, and then the tagged ones, each behind the tag line that names its code
  pub font_coded : (h : Header) (es : List Entry) → reading s ≡ says h es → Coded (format h) required_codes (drop (suc h.comment_lines) (lines_from s 0)) es
  font_coded h es e = read_coded (length s) h (lines_from s 0) es (font_lines h es e).1

  -- so they stand "in file order"
  pub font_ordered : (h : Header) (es : List Entry) → reading s ≡ says h es → InOrder (format h) (drop (suc h.comment_lines) (lines_from s 0)) es
  font_ordered h es e = coded_ordered (format h) required_codes (drop (suc h.comment_lines) (lines_from s 0)) es (font_coded h es e)

  -- the first 102 have the required codes
  pub font_required : (h : Header) (es : List Entry) → reading s ≡ says h es → map (λ (e : Entry). e.code) (take required_count es) ≡ map (λ (c : ℕ). code (pos c)) required_codes
  font_required h es e =
      ap (λ (k : ℕ). map (λ (x : Entry). x.code) (take k es)) (sym codes_length) ∙ coded_first (format h) required_codes (drop (suc h.comment_lines) (lines_from s 0)) es (font_coded h es e)

  -- the others have the codes of their tags
  pub font_tagged : (h : Header) (es : List Entry) → reading s ≡ says h es → EachTagged (drop (suc h.comment_lines) (lines_from s 0)) (drop required_count es)
  font_tagged h es e =
      subst (λ (k : ℕ). EachTagged (drop (suc h.comment_lines) (lines_from s 0)) (drop k es)) codes_length
      (coded_others (format h) required_codes (drop (suc h.comment_lines) (lines_from s 0)) es (font_coded h es e))
