-- The lists hold what the font says: from where its characters start, and from its opening; and what the answer says of the font.
-- Assumes nothing.
use mathlib.Core.Path.{◌≡◌, refl, sym, ap, ◌∙◌, subst}
use mathlib.Core.List.{List}
use Prim.Native.Nat.{ℕ}
use native.Mathlib.Omega.{arith}
use lib.IntN.{ℤ}
use lib.ListN.{length}
use Rattle.std.specs.Prelude.{Result, Ok, Err}
use Rattle.ground.specs.declared.refusals.Refusal.{Refusal}
use Rattle.ground.proofs.Tests.{clash}
use Rattle.header.specs.declared.Header.{Header}
use Rattle.chars.specs.Chars.{Ending, finished, stopped, Listing}
use Rattle.font.specs.declared.Opening.{Opening}
use Rattle.rows.specs.declared.Format.{Format}
use Rattle.font.specs.Font.{FontReading, says, refuses, format, reading_of, with_characters, reading}
use Rattle.font.specs.Steps.{open_at, read_from}
use Rattle.font.proofs.OpenLaws.{open_reads}
use Rattle.index.specs.Index.{listing_at, ended_by, Indexed}
use Rattle.reader.specs.declared.FontRead.{FontRead}
use Rattle.reader.specs.Reader.{read_with, font_answer, entries_of, ReadInto, Behind}

module _ (codes : List ℤ) (starts widths : List ℕ) where
  -- a refused font has no characters
  unread : (r : Refusal) → ReadInto (refuses r) (Err r) codes starts widths
  unread r = record { answer = refl; lists = record { few = omega arith; codes_are = refl; starts_are = refl; widths_are = refl } }

  module _ (h : Header) (x : Listing) where
    filled : (n : ℕ) → Indexed x (Ok n) codes starts widths → ReadInto (with_characters h x) (Ok (read_with h n)) codes starts widths
    filled n i = go x.ending i.answer
      where
        go : (en : Ending) → Ok n ≡ ended_by en (length x.entries) → ReadInto (reading_of h en x.entries) (Ok (read_with h n)) codes starts widths
        go finished e = record { answer = cc; lists = i.lists }
        go (stopped q) e = clash (cc)

    failed : (r : Refusal) → Indexed x (Err r) codes starts widths → ReadInto (with_characters h x) (Err r) codes starts widths
    failed r i = go x.ending i.answer
      where
        go : (en : Ending) → Err r ≡ ended_by en (length x.entries) → ReadInto (reading_of h en x.entries) (Err r) codes starts widths
        go finished e = clash (cc)
        go (stopped q) e = let p : r ≡ q = cc in subst (λ (y : Refusal). ReadInto (refuses y) (Err r) codes starts widths) p (unread r)

  -- the answer of the filling, from a place of a font on
  module _ (h : Header) (s : List ℕ) (at : ℕ) (f : Format) (e : f ≡ format h) (r : Result ℕ Refusal) (i : Indexed (listing_at f s at) r codes starts widths) where
    indexed : (x : Result ℕ Refusal) → r ≡ x → Indexed (listing_at (format h) s at) x codes starts widths
    indexed x p =
        subst (λ (y : Result ℕ Refusal). Indexed (listing_at (format h) s at) y codes starts widths) p
        (subst (λ (g : Format). Indexed (listing_at g s at) r codes starts widths) e i)

    pub behind_filled : (n : ℕ) → r ≡ Ok n → Behind h s at (Ok (read_with h n)) codes starts widths
    behind_filled n p = filled h (listing_at (format h) s at) n (indexed (Ok n) p)

    pub behind_failed : (q : Refusal) → r ≡ Err q → Behind h s at (Err q) codes starts widths
    behind_failed q p = failed h (listing_at (format h) s at) q (indexed (Err q) p)

  module _ (s : List ℕ) where
    pub opened : (x : Opening) (r : Result FontRead Refusal) → Ok x ≡ open_at s → Behind x.header s x.next.at r codes starts widths → ReadInto (reading s) r codes starts widths
    opened x r p b = subst (λ (m : FontReading). ReadInto m r codes starts widths) (sym (open_reads s ∙ ap (read_from s) (sym p))) b

    pub closed : (r : Refusal) → Err r ≡ open_at s → ReadInto (reading s) (Err r) codes starts widths
    closed r p = subst (λ (m : FontReading). ReadInto m (Err r) codes starts widths) (sym (open_reads s ∙ ap (read_from s) (sym p))) (unread r)

-- What the answer says of the font.
pub record Said (m : FontReading) (h : Header) (n : ℕ) : Type 0 where
  pub is : m ≡ says h (entries_of m)
  pub count : n ≡ length (entries_of m)

pub read-says : (m : FontReading) (x : FontRead) → Ok x ≡ font_answer m → Said m x.header x.count
read-says (says g es) x e =
    let p : x ≡ read_with g (length es) = cc in
    record { is = ap (λ (y : FontRead). says y.header es) (sym p); count = ap (λ (y : FontRead). y.count) p }
read-says (refuses q) x e = clash (cc)

pub unread_refuses : (m : FontReading) (r : Refusal) → Err r ≡ font_answer m → m ≡ refuses r
unread_refuses (says g es) r e = clash (cc)
unread_refuses (refuses q) r e = let p : r ≡ q = cc in ap refuses (sym p)
