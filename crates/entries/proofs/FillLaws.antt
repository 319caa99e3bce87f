-- The index: what is moved to it from three lists of numbers and from an array is what the font says.
-- Assumes nothing.
use mathlib.Core.Path.{◌≡◌, refl, sym, ap, ◌∙◌}
use mathlib.Core.Bool.{Bool, true, false}
use mathlib.Core.List.{List, ◌++◌, map}
use Rattle.std.specs.Prelude.{Result, Ok, Err}
use Prim.Native.Nat.{ℕ, ◌+◌, ◌-◌, ◌≤◌, ◌<◌, min}
use native.Mathlib.Omega.{arith}
use native.Mathlib.Numerals.{add-one}
use lib.Dec.{ltb}
use lib.IntN.{ℤ, pos}
use lib.ListN.{length, take, set, get_or, replicate, length-append, length-replicate, get_or-eq_default, get_or-map}
use lib.Seq.{get_or-take, take-length}
use borrow.Author.Tests.{ltb-true, ltb-false}
use Rattle.ground.specs.Refusals.{refusal, area_too_small}
use Rattle.ground.specs.Limits.{max_characters}
use Rattle.ground.proofs.Lent as lent
use Rattle.chars.specs.declared.Entry.{Entry}
use Rattle.chars.specs.Codes.{code}
use Rattle.chars.specs.Chars.{entry}
use Rattle.font.specs.Font.{FontReading, says, refuses, reading}
use Rattle.font.proofs.ReadingLaws.{font_read}
use Rattle.index.specs.Index.{code_of, start_of, width_of, Lists}
use Rattle.ground.specs.declared.refusals.Refusal.{Refusal}
use Rattle.reader.specs.declared.FontRead.{FontRead}
use Rattle.reader.specs.Reader.{ReadInto, font_answer, entries_of}
use Rattle.reader.proofs.ReadLaws.{read-says}
use Rattle.entries.specs.declared.listing.Listed.{Listed}
use Rattle.entries.specs.Filling.{font_reading, zero_entry, with_zeros, index_of}
use Rattle.entries.specs.Steps.{array_length, listed_of}
use Rattle.entries.proofs.Moved.{moved, moved_next, zero-behind, zeros_left}

-- The lists hold an entry's code, start and width.
part-is : {A : Type 0} (g : Entry → A) (es : List Entry) (l : List A) (i : ℕ) → i < length es → take (length es) l ≡ map g es → get_or l i (g zero_entry) ≡ g (get_or es i zero_entry)
part-is g es l i h e =
    sym (get_or-take (length es) l i (g zero_entry) h) ∙ ap (λ (m : List _). get_or m i (g zero_entry)) e ∙ get_or-map g es i zero_entry

module _ (es : List Entry) (codes : List ℤ) (starts widths : List ℕ) (l : Lists es codes starts widths) where
  entry-is : (i : ℕ) → i < length es → entry (code (get_or codes i (pos 0))) (get_or starts i 0) (get_or widths i 0) ≡ get_or es i zero_entry
  entry-is i h =
      ap (λ (x : ℤ). entry (code x) (get_or starts i 0) (get_or widths i 0)) (part-is code_of es codes i h l.codes_are) ∙
      ap (λ (x : ℕ). entry (get_or es i zero_entry).code x (get_or widths i 0)) (part-is start_of es starts i h l.starts_are) ∙
      ap (λ (x : ℕ). entry (get_or es i zero_entry).code (get_or es i zero_entry).start x) (part-is width_of es widths i h l.widths_are)

  -- one entry more is taken from the lists
  pub listed_next : (a ys : List Entry) (i : ℕ) (e : Entry) → i < length es → i < length ys → e ≡ entry (code (get_or codes i (pos 0))) (get_or starts i 0) (get_or widths i 0) →
      a ≡ moved es ys i → set a i e ≡ moved es ys (i + 1)
  listed_next a ys i e h g p q =
      ap (λ (b : List Entry). set b i e) q ∙ ap (set (moved es ys i) i) (p ∙ entry-is i h) ∙ moved_next zero_entry es ys i h g ∙ ap (moved es ys) (sym (add-one i))

  pub listed-all : (a : List Entry) (n : ℕ) → length es ≤ n → a ≡ moved es (replicate n zero_entry) (length es) → a ≡ with_zeros es n
  listed-all a n h q = q ∙ (λ j. take-length es j ++ zeros_left zero_entry n (length es) h j)

-- What an answer and the entries say together.
module _ (m : FontReading) (codes : List ℤ) (starts widths : List ℕ) (r : Result FontRead Refusal) (i : ReadInto m r codes starts widths) where
  pub read-few : (a : FontRead) → r ≡ Ok a → a.count ≤ max_characters
  read-few a p = omega (arith, (read-says m a (sym p ∙ i.answer)).count, i.lists.few)

  pub read-listed : (a : FontRead) (es : List Entry) → r ≡ Ok a →
      ((l : List Entry) → a.count ≡ length l → Lists l codes starts widths → es ≡ with_zeros l array_length) →
      ◌≡◌ {A = Listed} (record { answer = Ok a; entries = es }) (listed_of m)
  unfolding index_of
  read-listed a es p f =
      let s = read-says m a (sym p ∙ i.answer) in
      (λ j. record { answer = (sym p ∙ i.answer) j; entries = f (entries_of m) s.count i.lists j })

-- Whether an index has room, and what it holds.
module _ (s : List ℕ) (room : ℕ) where
  pub no_room : room < max_characters → font_reading room s ≡ refuses (refusal area_too_small 0)
  unfolding font_reading
  no_room h = lent.too_small refuses (λ q r e. cc) room max_characters (reading s) h

  pub has_room : max_characters ≤ room → font_reading room s ≡ reading s
  unfolding font_reading
  has_room h = lent.has_room refuses (λ q r e. cc) room max_characters (reading s) h

  -- no more entries than a font may have, and than the index holds
  few : (length (entries_of (font_reading room s)) ≤ max_characters) × (length (entries_of (font_reading room s)) ≤ room)
  few = go (ltb room max_characters) refl
    where
      read : (m : FontReading) → reading s ≡ m → length (entries_of m) ≤ max_characters
      read (says h es) p = (font_read s h es p).few
      read (refuses r) p = omega arith

      go : (b : Bool) → ltb room max_characters ≡ b → (length (entries_of (font_reading room s)) ≤ max_characters) × (length (entries_of (font_reading room s)) ≤ room)
      go true p =
          let e = ap (λ (m : FontReading). length (entries_of m)) (no_room (ltb-true room max_characters p)) in
          (omega arith, omega arith)
      go false p =
          let h = ltb-false room max_characters p in
          let e = ap (λ (m : FontReading). length (entries_of m)) (has_room h) in
          (omega (arith, read (reading s) refl), omega (arith, read (reading s) refl))

  pub index_length : (n : ℕ) → length (entries_of (font_reading room s)) ≤ n → length (index_of (font_reading room s) n) ≡ n
  unfolding index_of
  index_length n h =
      let es = entries_of (font_reading room s) in
      omega (arith, length-append es (replicate (n - length es) zero_entry), length-replicate (n - length es) zero_entry)

  pub index_room : length (index_of (font_reading room s) room) ≡ room
  index_room = index_length room few.1

  -- what is moved to place i of the index: the entry there, which for a place behind the array is its last
  pub index_at : (i : ℕ) → get_or (index_of (font_reading room s) array_length) (min i max_characters) zero_entry ≡ get_or (index_of (font_reading room s) room) i zero_entry
  unfolding index_of
  index_at i =
      let es = entries_of (font_reading room s) in
      zero-behind zero_entry es (array_length - length es) (min i max_characters) ∙ go es few.0 (ltb max_characters i) refl ∙ sym (zero-behind zero_entry es (room - length es) i)
    where
      go : (es : List Entry) → length es ≤ max_characters → (b : Bool) → ltb max_characters i ≡ b → get_or es (min i max_characters) zero_entry ≡ get_or es i zero_entry
      go es h true p =
          let l = ltb-true max_characters i p in
          let m : length es ≤ min i max_characters = omega arith in
          let o : length es ≤ i = omega arith in
          get_or-eq_default es zero_entry m ∙ sym (get_or-eq_default es zero_entry o)
      go es h false p = let l = ltb-false max_characters i p in let e : min i max_characters ≡ i = omega arith in ap (λ (j : ℕ). get_or es j zero_entry) e
