-- How far the reading of a font comes, line by line: what is due there, and which lines remain; and that the font is refused exactly as they are.
-- Assumes nothing.
use mathlib.Core.Path.{◌≡◌, refl, sym, ap, ◌∙◌}
use mathlib.Core.Bool.{Bool, true, false, cond}
use mathlib.Core.List.{List, ◌∷◌}
use mathlib.Core.Logic.{◌↔◌}
use Prim.Native.Nat.{ℕ, suc, ◌-◌, ◌≤◌, ◌<◌}
use native.Mathlib.Omega.{arith}
use lib.Dec.{leb, leb-zero, leb-suc-suc}
use lib.IntN.{pos}
use lib.ListN.{length, get_or, drop}
use borrow.Author.Tests.{eq-eqb}
use Rattle.std.specs.Prelude.{Option, Some, Ok}
use Rattle.ground.specs.Refusals.{refusal, missing_line}
use Rattle.ground.specs.declared.refusals.Refusal.{Refusal}
use Rattle.ground.specs.Limits.{max_font_length, max_characters}
use Rattle.subchars.specs.declared.Code.{Code}
use Rattle.lines.specs.Lines.{TextLine, lines_from}
use Rattle.header.specs.declared.Header.{Header}
use Rattle.header.specs.Header.{read_header}
use Rattle.rows.specs.declared.Format.{Format}
use Rattle.rows.specs.Rows.{row_of, has_width, rows_on, other_rows, character_rows, line_count}
use Rattle.chars.specs.Codes.{code, tag_of, required_codes, required_count}
use Rattle.chars.specs.Chars.{Ending, stopped, Listing, blank_lines, tagged_from, listing}
use Rattle.chars.proofs.CodeLaws.{still_required, none_required}
use Rattle.chars.proofs.RefusalLaws.{ending_by, ending-is, tag_room}
use Rattle.font.specs.Font.{FontReading, refuses, format, reading_of, with_characters, on_lines, reading}
use Rattle.font.proofs.RefusalLaws.{short_is, header-by, ended-stopped}

-- What is due at a line behind the header line.
pub data Due : Type 0 where
  -- so many comment lines
  comments : ℕ → Due
  -- a character, so many standing before it: while they are fewer than the required codes its first row, then a tag line or the end of the file
  character : ℕ → Due
  -- the first row of the character before which so many stand
  first-row : ℕ → Due
  -- of the character before which n stand, k more rows, of width w
  more_rows : (n k w : ℕ) → Due

-- "Lines are taken one after another": of a font s whose header is h, what is due, and the lines that remain.
pub data Comes (s : List ℕ) (h : Header) : Due → List TextLine → Type 0 where
  behind-header : {l : TextLine} {ls : List TextLine} → length s ≤ max_font_length → lines_from s 0 ≡ l ∷ ls → read_header l.text ≡ Ok h → Comes s h (comments h.comment_lines) ls
  past_comment : {k : ℕ} {l : TextLine} {ls : List TextLine} → Comes s h (comments (suc k)) (l ∷ ls) → Comes s h (comments k) ls
  past_comments_lem : {ls : List TextLine} → Comes s h (comments 0) ls → Comes s h (character 0) ls
  -- "after the comment lines come codes 32 to 126, then 196, 214, 220, 228, 246, 252, 223"
  required : {n : ℕ} {ls : List TextLine} → Comes s h (character n) ls → n < required_count → Comes s h (first-row n) ls
  -- "then tagged characters to the end"
  past_tag : {n : ℕ} {l : TextLine} {ls : List TextLine} → Comes s h (character n) (l ∷ ls) → required_count ≤ n → n < max_characters →
      blank_lines (l ∷ ls) ≡ false → (c : Code) → tag_of l.text ≡ Some c → Comes s h (first-row n) ls
  past_first : {n : ℕ} {l : TextLine} {ls : List TextLine} → Comes s h (first-row n) (l ∷ ls) → (w : ℕ) → row_of (format h) l.text ≡ Some w → Comes s h (more_rows n (h.height - 1) w) ls
  past_row : {n k w : ℕ} {l : TextLine} {ls : List TextLine} → Comes s h (more_rows n (suc k) w) (l ∷ ls) → row_of (format h) l.text ≡ Some w → Comes s h (more_rows n k w) ls
  past_rows : {n w : ℕ} {ls : List TextLine} → Comes s h (more_rows n 0 w) ls → Comes s h (character (suc n)) ls

module _ (s : List ℕ) (h : Header) where
  abbrev f : Format
  f = format h

  abbrev size : ℕ
  size = length s

  -- How the characters end from there on.
  abbrev characters_end : ℕ → List TextLine → Ending
  characters_end n ls = (listing f size (drop n required_codes) n ls).ending

  abbrev pub end_from : Due → List TextLine → Ending
  end_from (comments k) ls = cond (leb k (length ls)) (characters_end 0 (drop k ls)) (stopped (refusal missing_line size))
  end_from (character n) ls = characters_end n ls
  end_from (first-row n) ls = ending_by (character_rows f size ls) (characters_end (suc n) (drop (line_count f) ls))
  end_from (more_rows n k w) ls = ending_by (rows_on f size k w ls) (characters_end (suc n) (drop k ls))

  comment_end : (k : ℕ) (l : TextLine) (ls : List TextLine) → end_from (comments (suc k)) (l ∷ ls) ≡ end_from (comments k) ls
  comment_end k l ls = ap (λ (b : Bool). cond b (characters_end 0 (drop k ls)) (stopped (refusal missing_line size))) (leb-suc-suc k (length ls))

  comments_end : (ls : List TextLine) → end_from (comments 0) ls ≡ end_from (character 0) ls
  comments_end ls = ap (λ (b : Bool). cond b (characters_end 0 ls) (stopped (refusal missing_line size))) (leb-zero (length ls))

  required_end : (n : ℕ) (ls : List TextLine) → n < required_count → end_from (character n) ls ≡ end_from (first-row n) ls
  unfolding listing
  required_end n ls u =
      ap (λ (cs : List ℕ). (listing f size cs n ls).ending) (still_required n u) ∙
      ending-is f size (code (pos (get_or required_codes n 0))) ls (listing f size (drop (suc n) required_codes) (suc n) (drop (line_count f) ls))

  pub no_required : (n : ℕ) (ls : List TextLine) → required_count ≤ n → end_from (character n) ls ≡ (tagged_from f size 0 n ls).ending
  unfolding listing
  no_required n ls u = ap (λ (cs : List ℕ). (listing f size cs n ls).ending) (none_required n u)

  tag_end : (n : ℕ) (l : TextLine) (ls : List TextLine) → required_count ≤ n → n < max_characters → blank_lines (l ∷ ls) ≡ false → (c : Code) → tag_of l.text ≡ Some c →
      end_from (character n) (l ∷ ls) ≡ end_from (first-row n) ls
  tag_end n l ls u v m c t =
      no_required n (l ∷ ls) u ∙ tag_room f size n l ls (record { more = m; code = c; names = t }) v ∙
      ap (ending_by (character_rows f size ls)) (sym (no_required (suc n) (drop (line_count f) ls) (omega arith)))

  first-end : (n : ℕ) (l : TextLine) (ls : List TextLine) (w : ℕ) → row_of f l.text ≡ Some w → end_from (first-row n) (l ∷ ls) ≡ end_from (more_rows n (h.height - 1) w) ls
  unfolding character_rows
  first-end n l ls w e = ap (λ (x : Option ℕ). ending_by (other_rows f size l.start x ls) (characters_end (suc n) (drop (h.height - 1) ls))) e

  row-end : (n k w : ℕ) (l : TextLine) (ls : List TextLine) → row_of f l.text ≡ Some w → end_from (more_rows n (suc k) w) (l ∷ ls) ≡ end_from (more_rows n k w) ls
  unfolding rows_on
  row-end n k w l ls e =
      let q : has_width (row_of f l.text) w ≡ true = ap (λ (x : Option ℕ). has_width x w) e ∙ eq-eqb w w refl in
      simp q

  rows_end : (n w : ℕ) (ls : List TextLine) → end_from (more_rows n 0 w) ls ≡ end_from (character (suc n)) ls
  unfolding rows_on
  rows_end n w ls = refl

  -- A font is refused exactly as the lines that remain.
  abbrev Decides : Ending → Type 0
  Decides x = (r : Refusal) → reading s ≡ refuses r ↔ x ≡ stopped r

  header_decides : (l : TextLine) (ls : List TextLine) → size ≤ max_font_length → lines_from s 0 ≡ l ∷ ls → read_header l.text ≡ Ok h → Decides (end_from (comments h.comment_lines) ls)
  header_decides l ls u e g r = (λ q. to (leb h.comment_lines (length ls)) (sym is ∙ q), λ q. is ∙ from (leb h.comment_lines (length ls)) q)
    where
      characters : Listing
      characters = listing f size required_codes 0 (drop h.comment_lines ls)

      read : Bool → FontReading
      read b = cond b (with_characters h characters) (refuses (refusal missing_line size))

      is : reading s ≡ read (leb h.comment_lines (length ls))
      is = short_is s u ∙ ap (on_lines size) e ∙ header-by size l ls (Ok h) g

      to : (b : Bool) → read b ≡ refuses r → cond b characters.ending (stopped (refusal missing_line size)) ≡ stopped r
      to true q = ended-stopped h characters.ending characters.entries r q
      to false q = let d : refusal missing_line size ≡ r = cc in ap stopped d

      from : (b : Bool) → cond b characters.ending (stopped (refusal missing_line size)) ≡ stopped r → read b ≡ refuses r
      from true q = ap (λ (x : Ending). reading_of h x characters.entries) q
      from false q = let d : refusal missing_line size ≡ r = cc in ap refuses d

  passed : (x y : Ending) → x ≡ y → Decides x → Decides y
  passed x y e d r = (λ q. sym e ∙ (d r).0 q, λ q. (d r).1 (e ∙ q))

  pub decides : (due : Due) (ls : List TextLine) → Comes s h due ls → Decides (end_from due ls)
  decides _ ls (behind-header {l = l} u e g) = header_decides l ls u e g
  decides _ ls (past_comment {k = k} {l = l} c) = passed _ _ (comment_end k l ls) (decides (comments (suc k)) (l ∷ ls) c)
  decides _ ls (past_comments_lem c) = passed _ _ (comments_end ls) (decides (comments 0) ls c)
  decides _ ls (required {n = n} c u) = passed _ _ (required_end n ls u) (decides (character n) ls c)
  decides _ ls (past_tag {n = n} {l = l} c u v m z t) = passed _ _ (tag_end n l ls u v m z t) (decides (character n) (l ∷ ls) c)
  decides _ ls (past_first {n = n} {l = l} c w e) = passed _ _ (first-end n l ls w e) (decides (first-row n) (l ∷ ls) c)
  decides _ ls (past_row {n = n} {k = k} {w = w} {l = l} c e) = passed _ _ (row-end n k w l ls e) (decides (more_rows n (suc k) w) (l ∷ ls) c)
  decides _ ls (past_rows {n = n} {w = w} c) = passed _ _ (rows_end n w ls) (decides (more_rows n 0 w) ls c)
