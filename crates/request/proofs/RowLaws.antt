-- The rows of a font that was read: each row of each character stands on a line of the font, and is a part of the font.
-- Assumes nothing.
use mathlib.Core.Path.{◌≡◌, refl, sym, ap, ◌∙◌, subst}
use mathlib.Core.List.{List, [], ◌∷◌}
use Prim.Native.Nat.{ℕ, zero, suc, ◌+◌, ◌-◌, ◌≤◌, ◌<◌}
use native.Mathlib.Omega.{arith}
use lib.ListN.{length, take, drop, length-drop}
use lib.Seq.{take-take, length-take-le}
use Rattle.ground.proofs.Tests.{clash, and_left, and_right}
use Rattle.subchars.specs.declared.Code.{Code}
use Rattle.lines.specs.Lines.{TextLine, line, lines_from, line_end, text_at, next_start, after}
use Rattle.lines.proofs.PlaceLaws.{after-add}
use Rattle.lines.proofs.LineLaws.{some-line, lines_next, line_end_le}
use Rattle.header.specs.declared.Header.{Header}
use Rattle.rows.specs.declared.Format.{Format}
use Rattle.rows.specs.Rows.{row, row_of, has_width, line_count}
use Rattle.rows.proofs.BlockLaws.{row_prefix, row_le}
use Rattle.rows.proofs.LineLaws.{row-width, has_width_lem, width_less}
use Rattle.rows.proofs.RowLaws.{rows_have, AllRead}
use Rattle.chars.specs.declared.Entry.{Entry}
use Rattle.chars.proofs.EntryLaws.{Stands, here, further, EachStands, none, one}
use Rattle.font.specs.Font.{says, format, reading}
use Rattle.font.proofs.ReadingLaws.{font_read}
use Rattle.std.specs.Prelude.{Some}
use Rattle.reader.specs.Reader.{entry_at, used}
use Rattle.reader.proofs.UseLaws.{used-at}

-- A row of width w stands on the line that starts at a place.
pub record RowStands (f : Format) (s : List ℕ) (w at : ℕ) : Type 0 where
  pub inside : at < length s
  pub width : row_of f (text_at s at) ≡ Some w
  pub marked : at + w < line_end s at
  pub ends : at + w ≤ line_end s at
  pub fits : at + w ≤ length s
  pub bytes : take w (drop at s) ≡ row (text_at s at)

-- a line with a row of width w
on_line : (f : Format) (s : List ℕ) (w at : ℕ) → at < length s → row_of f (text_at s at) ≡ Some w → RowStands f s w at
on_line f s w at h e =
    let n = line_end s at - at in
    let k = line_end_le s at (omega arith) in
    let l : length (text_at s at) ≡ n = length-take-le n (drop at s) (omega (arith, k, length-drop at s)) in
    let v = row-width f (text_at s at) w e in
    let b : w ≤ n = omega (arith, v, row_le (text_at s at), l) in
    record {
      inside = h;
      width = e;
      marked = omega (arith, width_less f (text_at s at) w e, l);
      ends = omega (arith, b);
      fits = omega (arith, b, k);
      bytes = sym (take-take w n (drop at s) b) ∙ ap (λ (j : ℕ). take j (text_at s at)) v ∙ row_prefix (text_at s at);
    }

-- Rows that are read, one after another.
all_stand : (f : Format) (s : List ℕ) (w r k at : ℕ) → r < k → AllRead f w k (lines_from s at) → RowStands f s w (after r s at)
unfolding after rows_have
all_stand f s w r zero at h a = absurd (omega arith)
all_stand f s w r (suc k) at h a =
    let i = some-line s at (omega (arith, a.enough)) in
    let b = subst (AllRead f w (suc k)) (lines_next s at i) a in
    let x = has_width (row_of f (text_at s at)) w in
    let y = rows_have f w (take k (lines_from s (next_start s at))) in
    by r h i (has_width_lem (row_of f (text_at s at)) w (and_left x y b.same)) (record { enough = omega (arith, b.enough); same = and_right x y b.same }) (λ j l m. all_stand f s w j k (next_start s at) l m)
  where
    by : (j : ℕ) → j < suc k → at < length s → row_of f (text_at s at) ≡ Some w → AllRead f w k (lines_from s (next_start s at)) →
        ((j : ℕ) → j < k → AllRead f w k (lines_from s (next_start s at)) → RowStands f s w (after j s (next_start s at))) → RowStands f s w (after j s at)
    by zero l i e m more = on_line f s w at i e
    by (suc j) l i e m more = more j (omega arith) m

-- A character that stands on the lines starts at one of them, and its rows are read from there.
pub record Begins (f : Format) (s : List ℕ) (at : ℕ) (e : Entry) : Type 0 where
  pub number : ℕ
  pub place : e.start ≡ after number s at
  pub rows : AllRead f e.width (line_count f) (lines_from s e.start)

stand_begins : (f : Format) (s : List ℕ) (e : Entry) (ls : List TextLine) (at : ℕ) → lines_from s at ≡ ls → Stands f e ls → Begins f s at e
unfolding after
stand_begins f s e [] at p x = elim x [ ]
stand_begins f s e (l ∷ ls) at p (here q a) =
    let i = some-line s at (omega (arith, ap length p)) in
    let z : line at (text_at s at) ∷ lines_from s (next_start s at) ≡ l ∷ ls = sym (lines_next s at i) ∙ p in
    let m : line at (text_at s at) ≡ l = cc in
    let u : e.start ≡ at = q ∙ sym (ap (λ (x : TextLine). x.start) m) in
    record { number = 0; place = u; rows = subst (AllRead f e.width (line_count f)) (sym (ap (lines_from s) u ∙ p)) a }
stand_begins f s e (l ∷ ls) at p (further t) =
    let i = some-line s at (omega (arith, ap length p)) in
    let z : line at (text_at s at) ∷ lines_from s (next_start s at) ≡ l ∷ ls = sym (lines_next s at i) ∙ p in
    let b = stand_begins f s e ls (next_start s at) (cc) t in
    record { number = suc b.number; place = b.place; rows = b.rows }

each_at : (f : Format) (ls : List TextLine) (es : List Entry) (k : ℕ) (e : Entry) → EachStands f ls es → entry_at es k ≡ Some e → Stands f e ls
unfolding entry_at
each_at f ls [] k e none p = clash (cc)
each_at f ls (x ∷ es) zero e (one s t) p = let q : x ≡ e = cc in subst (λ (y : Entry). Stands f y ls) q s
each_at f ls (x ∷ es) (suc k) e (one s t) p = each_at f ls es k e t p

module _ (s : List ℕ) (h : Header) (es : List Entry) (said : reading s ≡ says h es) (e : Entry) where
  begins : (k : ℕ) → entry_at es k ≡ Some e → Begins (format h) s 0 e
  begins k p = stand_begins (format h) s e (lines_from s 0) 0 refl (each_at (format h) (lines_from s 0) es k e (font_read s h es said).rows p)

  -- the place of each row is the start of a line of the font
  pub row_line : (k : ℕ) → entry_at es k ≡ Some e → (r : ℕ) → (n : ℕ) × (after r s e.start ≡ after n s 0)
  row_line k p r = let b = begins k p in (b.number + r, ap (after r s) b.place ∙ after-add b.number r s 0)

  -- and that line holds a row of the character's width, the bytes there
  pub row-stands : (k : ℕ) → entry_at es k ≡ Some e → (r : ℕ) → r < h.height → RowStands (format h) s e.width (after r s e.start)
  row-stands k p r l = all_stand (format h) s e.width r (line_count (format h)) e.start (omega arith) (begins k p).rows

  -- the same for the character that is used for a code
  pub used-stands : (c : Code) → used c es ≡ Some e → (r : ℕ) → r < h.height → RowStands (format h) s e.width (after r s e.start)
  used-stands c p r l = let k = used-at c es e p in row-stands k.0 k.1 r l
