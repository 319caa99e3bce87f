-- The lists that were filled hold what the font means.
-- Assumes nothing.
use mathlib.Core.Path.{◌≡◌, sym, ◌∙◌}
use mathlib.Core.List.{List}
use Rattle.std.specs.Prelude.{Result, Ok, Err}
use Prim.Native.Nat.{ℕ, ◌≤◌}
use native.Mathlib.Omega.{arith}
use lib.IntN.{ℤ}
use lib.ListN.{length, take}
use Rattle.ground.specs.Limits.{max_characters}
use Rattle.ground.specs.declared.refusals.Refusal.{Refusal}
use Rattle.header.specs.declared.Header.{Header}
use Rattle.font.specs.Font as font
use Rattle.index.specs.Index.{CharacterRoom}
use Rattle.index.specs.Latest.{Latest}
use Rattle.reader.specs.declared.FontRead.{FontRead}
use Rattle.reader.specs.Reader.{entries_of, ReadInto}
use Rattle.reader.proofs.ReadLaws.{read-says, unread_refuses}
use Rattle.fontlists.specs.Held.{FontHeld}

-- A filled list has its length.
pub room-kept : (a a' : List ℤ) (b b' c c' : List ℕ) → CharacterRoom max_characters a b c → length a' ≡ length a → length b' ≡ length b → length c' ≡ length c → CharacterRoom max_characters a' b' c'
room-kept a a' b b' c c' m p q r = record { for_codes = omega (arith, m.for_codes, p); for_starts = omega (arith, m.for_starts, q); for_widths = omega (arith, m.for_widths, r) }

module _ (s : List ℕ) (r : Result FontRead Refusal) (codes : List ℤ) (starts widths : List ℕ) (into : ReadInto (font.reading s) r codes starts widths) where
  module _ (a : FontRead) (e : r ≡ Ok a) where
    abbrev h : Header
    h = a.header

    abbrev n : ℕ
    n = a.count

    pub few-characters : CharacterRoom max_characters codes starts widths → (n ≤ length codes) × ((n ≤ length starts) × (n ≤ length widths))
    few-characters m =
        let x = read-says (font.reading s) a (sym e ∙ into.answer) in
        (omega (arith, x.count, into.lists.few, m.for_codes), (omega (arith, x.count, into.lists.few, m.for_starts), omega (arith, x.count, into.lists.few, m.for_widths)))

    pub font_held : CharacterRoom max_characters codes starts widths → (places : List ℕ) → Latest (take n codes) places → FontHeld s h n codes starts widths places
    font_held m places l =
        let x = read-says (font.reading s) a (sym e ∙ into.answer) in
        let f = few-characters m in
        record {
          characters = entries_of (font.reading s);
          said = x.is;
          count = x.count;
          long = record { for_codes = f.0; for_starts = f.1.0; for_widths = f.1.1 };
          lists = into.lists;
          latest = l;
        }

  pub font_unread : (q : Refusal) → r ≡ Err q → font.reading s ≡ font.refuses q
  font_unread q e = unread_refuses (font.reading s) q (sym e ∙ into.answer)
