-- What holds of a font's characters: how many there are, and that each has its rows.
-- Assumes nothing.
use mathlib.Core.Path.{◌≡◌, refl}
use mathlib.Core.List.{List, [], ◌∷◌}
use Prim.Native.Nat.{ℕ, zero, suc, ◌+◌, ◌≤◌, ◌<◌}
use native.Mathlib.Omega.{arith}
use lib.ListN.{length, drop}
use Rattle.std.specs.Prelude.{Result, Ok, Err}
use Rattle.ground.specs.Refusals.{refusal, missing_line}
use Rattle.ground.specs.declared.refusals.Refusal.{Refusal}
use Rattle.ground.specs.Limits.{max_characters}
use Rattle.subchars.specs.declared.Code.{Code}
use Rattle.lines.specs.Lines.{TextLine}
use Rattle.rows.specs.declared.Format.{Format}
use Rattle.rows.specs.Rows.{character_rows, line_count}
use Rattle.rows.proofs.RowLaws.{AllRead, character_read}
use Rattle.chars.specs.declared.Entry.{Entry}
use Rattle.chars.specs.Chars.{Ending, finished, stopped, Listing, ends, listed, character_then, listing}
use Rattle.chars.proofs.Induction.{listing-all}

-- A character stands on the lines: from its first row line on it has all its rows, each of its width.
pub data Stands (f : Format) (e : Entry) : List TextLine → Type 0 where
  here : {l : TextLine} {ls : List TextLine} → e.start ≡ l.start → AllRead f e.width (line_count f) (l ∷ ls) → Stands f e (l ∷ ls)
  further : {l : TextLine} {ls : List TextLine} → Stands f e ls → Stands f e (l ∷ ls)

pub data EachStands (f : Format) (ls : List TextLine) : List Entry → Type 0 where
  none : EachStands f ls []
  one : {e : Entry} {es : List Entry} → Stands f e ls → EachStands f ls es → EachStands f ls (e ∷ es)

pub each-further : (f : Format) (l : TextLine) (ls : List TextLine) (es : List Entry) → EachStands f ls es → EachStands f (l ∷ ls) es
each-further f l ls [] none = none
each-further f l ls (e ∷ es) (one s t) = one (further s) (each-further f l ls es t)

pub each_dropped : (f : Format) (k : ℕ) (ls : List TextLine) (es : List Entry) → EachStands f (drop k ls) es → EachStands f ls es
each_dropped f zero ls es h = h
each_dropped f (suc k) [] es h = h
each_dropped f (suc k) (l ∷ ls) es h = each-further f l ls es (each_dropped f k ls es h)

-- What is to be shown of the characters on the lines, n others being before them.
pub record SoundListing (f : Format) (n : ℕ) (ls : List TextLine) (x : Listing) : Type 0 where
  pub few : n + length x.entries ≤ max_characters
  pub rows : EachStands f ls x.entries

nothing : (f : Format) (n : ℕ) (ls : List TextLine) (e : Ending) → n ≤ max_characters → SoundListing f n ls (ends e)
nothing f n ls e h = record { few = omega arith; rows = none }

-- A character and those that follow it.
character_sound : (f : Format) (size n : ℕ) (c : Code) (ls : List TextLine) (more : Listing) → n < max_characters → SoundListing f (suc n) ls more → SoundListing f n ls (character_then f size c ls more)
character_sound f size n c [] more h s = nothing f n [] (stopped (refusal missing_line size)) (omega arith)
character_sound f size n c (l ∷ ls) more h s = go (character_rows f size (l ∷ ls)) refl
  where
    go : (v : Result ℕ Refusal) → character_rows f size (l ∷ ls) ≡ v → SoundListing f n (l ∷ ls) (listed v c l.start more)
    go (Ok w) e = record { few = omega (arith, s.few); rows = one (here refl (character_read f size w (l ∷ ls) e)) s.rows }
    go (Err r) e = nothing f n (l ∷ ls) (stopped r) (omega arith)

pub listing-sound : (f : Format) (size : ℕ) (cs : List ℕ) (n : ℕ) (ls : List TextLine) → n + length cs ≤ max_characters → SoundListing f n ls (listing f size cs n ls)
listing-sound f size cs n ls h =
    listing-all f size (SoundListing f) (λ m ks i. nothing f m ks finished i) (λ m l ks k i. nothing f m (l ∷ ks) (stopped (refusal k l.start)) i)
    (λ m l ks x s. record { few = s.few; rows = each-further f l ks x.entries s.rows })
    (λ m c ks more i s. character_sound f size m c ks more i (record { few = s.few; rows = each_dropped f (line_count f) ks more.entries s.rows })) cs n ls h
