-- The characters stand in file order: the rows of each lie behind those of the one before; and their codes are the required ones, then those of tags.
-- Assumes nothing.
use mathlib.Core.Path.{◌≡◌, refl, sym, ap, ◌∙◌}
use mathlib.Core.Bool.{Bool, true, false, cond}
use mathlib.Core.List.{List, [], ◌∷◌, map}
use Prim.Native.Nat.{ℕ, zero, suc}
use lib.Dec.{ltb}
use lib.IntN.{pos}
use lib.ListN.{length, drop, take}
use Rattle.std.specs.Prelude.{Option, Some, None, Result, Ok, Err}
use Rattle.ground.specs.Refusals.{refusal, too_many_characters}
use Rattle.ground.proofs.Tests.{clash}
use Rattle.ground.specs.declared.refusals.Refusal.{Refusal}
use Rattle.ground.specs.Limits.{max_characters}
use Rattle.subchars.specs.declared.Code.{Code}
use Rattle.lines.specs.Lines.{TextLine}
use Rattle.rows.specs.declared.Format.{Format}
use Rattle.rows.specs.Rows.{character_rows, line_count}
use Rattle.rows.proofs.RowLaws.{AllRead, character_read}
use Rattle.chars.specs.declared.Entry.{Entry}
use Rattle.chars.specs.Codes.{code, tag_of}
use Rattle.chars.specs.Chars.{finished, stopped, Listing, ends, listed, character_then, blank_lines, tagged, tagged_from, listing}

-- "In file order": a character has all its rows from its first row line on, and the next one stands somewhere behind them.
pub data InOrder (f : Format) : List TextLine → List Entry → Type 0 where
  none : {ls : List TextLine} → InOrder f ls []
  here : {l : TextLine} {ls : List TextLine} {e : Entry} {es : List Entry} →
      e.start ≡ l.start → AllRead f e.width (line_count f) (l ∷ ls) → InOrder f (drop (line_count f) (l ∷ ls)) es → InOrder f (l ∷ ls) (e ∷ es)
  further : {l : TextLine} {ls : List TextLine} {es : List Entry} → InOrder f ls es → InOrder f (l ∷ ls) es

-- The characters of lines that are read to the end: "codes 32 to 126, then 196, 214, 220, 228, 246, 252, 223; then tagged characters to the end". Of the
-- given codes each is the next character's, whose rows are next; behind them a character's rows follow a tag line, whose first word is its code.
pub data Coded (f : Format) : List ℕ → List TextLine → List Entry → Type 0 where
  required : {c : ℕ} {cs : List ℕ} {l : TextLine} {ls : List TextLine} {e : Entry} {es : List Entry} →
      e.code ≡ code (pos c) → e.start ≡ l.start → AllRead f e.width (line_count f) (l ∷ ls) → Coded f cs (drop (line_count f) (l ∷ ls)) es → Coded f (c ∷ cs) (l ∷ ls) (e ∷ es)
  tag : {t l : TextLine} {ls : List TextLine} {e : Entry} {es : List Entry} →
      tag_of t.text ≡ Some e.code → e.start ≡ l.start → AllRead f e.width (line_count f) (l ∷ ls) → Coded f [] (drop (line_count f) (l ∷ ls)) es → Coded f [] (t ∷ l ∷ ls) (e ∷ es)
  -- "if, where a tag line is due, all that remains is blanks, tabs and line ends, the file has ended"
  end : {ls : List TextLine} → blank_lines ls ≡ true → Coded f [] ls []

-- A character that is read, before others.
data ReadThen (f : Format) (c : Code) (more : Listing) : List TextLine → List Entry → Type 0 where
  then : {l : TextLine} {ls : List TextLine} (e : Entry) → e.code ≡ c → e.start ≡ l.start → AllRead f e.width (line_count f) (l ∷ ls) → more.ending ≡ finished →
      ReadThen f c more (l ∷ ls) (e ∷ more.entries)

module _ (f : Format) (size : ℕ) where
  read_then : (c : Code) (ls : List TextLine) (more : Listing) → (character_then f size c ls more).ending ≡ finished → ReadThen f c more ls (character_then f size c ls more).entries
  read_then c [] more e = clash (cc)
  read_then c (l ∷ ls) more e = go (character_rows f size (l ∷ ls)) refl e
    where
      go : (v : Result ℕ Refusal) → character_rows f size (l ∷ ls) ≡ v → (listed v c l.start more).ending ≡ finished → ReadThen f c more (l ∷ ls) (listed v c l.start more).entries
      go (Ok w) p q = then {l = l} (record { code = c; start = l.start; width = w }) refl refl (character_read f size w (l ∷ ls) p) q
      go (Err r) p q = clash (cc)

  after_tag : (c : Code) (more : Listing) (t : TextLine) (ls : List TextLine) (es : List Entry) → tag_of t.text ≡ Some c →
      (more.ending ≡ finished → Coded f [] (drop (line_count f) ls) more.entries) → ReadThen f c more ls es → Coded f [] (t ∷ ls) es
  after_tag c more t [] es p g x = elim x [ ]
  after_tag c more t (l ∷ ls) _ p g (then e a b r q) = tag {t = t} {l = l} {e = e} (p ∙ ap Some (sym a)) b r (g q)

  after_required : (k : ℕ) (cs : List ℕ) (more : Listing) (ls : List TextLine) (es : List Entry) →
      (more.ending ≡ finished → Coded f cs (drop (line_count f) ls) more.entries) → ReadThen f (code (pos k)) more ls es → Coded f (k ∷ cs) ls es
  after_required k cs more [] es g x = elim x [ ]
  after_required k cs more (l ∷ ls) _ g (then e a b r q) = required {l = l} {e = e} a b r (g q)

  tagged_coded : (k n : ℕ) (ls : List TextLine) → (tagged_from f size k n ls).ending ≡ finished → Coded f [] (drop k ls) (tagged_from f size k n ls).entries
  unfolding tagged_from blank_lines
  tagged_coded zero n [] e = end refl
  tagged_coded (suc k) n [] e = end refl
  tagged_coded (suc k) n (l ∷ ls) e = tagged_coded k n ls e
  tagged_coded zero n (l ∷ ls) e = go (blank_lines (l ∷ ls)) refl (tag_of l.text) refl e (tagged_coded (line_count f) (suc n) ls)
    where
      more : Listing
      more = tagged_from f size (line_count f) (suc n) ls

      room : (c : Code) → tag_of l.text ≡ Some c → (b : Bool) → (more.ending ≡ finished → Coded f [] (drop (line_count f) ls) more.entries) →
          (cond b (character_then f size c ls more) (ends (stopped (refusal too_many_characters l.start)))).ending ≡ finished →
          Coded f [] (l ∷ ls) (cond b (character_then f size c ls more) (ends (stopped (refusal too_many_characters l.start)))).entries
      room c p true g q = after_tag c more l ls (character_then f size c ls more).entries p g (read_then c ls more q)
      room c p false g q = clash (cc)

      go : (b : Bool) → blank_lines (l ∷ ls) ≡ b → (t : Option Code) → tag_of l.text ≡ t → (cond b (ends finished) (tagged t f size l.start n ls more)).ending ≡ finished →
          (more.ending ≡ finished → Coded f [] (drop (line_count f) ls) more.entries) → Coded f [] (l ∷ ls) (cond b (ends finished) (tagged t f size l.start n ls more)).entries
      go true m t p q g = end m
      go false m None p q g = clash (cc)
      go false m (Some c) p q g = room c p (ltb n max_characters) g q

  pub listing_coded : (cs : List ℕ) (n : ℕ) (ls : List TextLine) → (listing f size cs n ls).ending ≡ finished → Coded f cs ls (listing f size cs n ls).entries
  unfolding listing
  listing_coded [] n ls e = tagged_coded 0 n ls e
  listing_coded (c ∷ cs) n ls e =
      let more = listing f size cs (suc n) (drop (line_count f) ls) in
      after_required c cs more ls (character_then f size (code (pos c)) ls more).entries (listing_coded cs (suc n) (drop (line_count f) ls)) (read_then (code (pos c)) ls more e)

-- They stand in file order.
pub coded_ordered : (f : Format) (cs : List ℕ) (ls : List TextLine) (es : List Entry) → Coded f cs ls es → InOrder f ls es
coded_ordered f [] [] (e ∷ es) x = elim x [ ]
coded_ordered f [] (t ∷ []) (e ∷ es) x = elim x [ ]
coded_ordered f (c ∷ cs) [] es x = elim x [ ]
coded_ordered f (c ∷ cs) (l ∷ ls) [] x = elim x [ ]
coded_ordered f (c ∷ cs) (l ∷ ls) (e ∷ es) (required a b r s) = here b r (coded_ordered f cs (drop (line_count f) (l ∷ ls)) es s)
coded_ordered f [] (t ∷ l ∷ ls) (e ∷ es) (tag p b r s) = further (here b r (coded_ordered f [] (drop (line_count f) (l ∷ ls)) es s))
coded_ordered f [] ls [] (end b) = none

-- The codes of the first characters are the required ones, in order.
pub coded_first : (f : Format) (cs : List ℕ) (ls : List TextLine) (es : List Entry) → Coded f cs ls es → map (λ (e : Entry). e.code) (take (length cs) es) ≡ map (λ (c : ℕ). code (pos c)) cs
coded_first f (c ∷ cs) [] es s = elim s [ ]
coded_first f (c ∷ cs) (l ∷ ls) [] s = elim s [ ]
coded_first f (c ∷ cs) (l ∷ ls) (e ∷ es) (required a b r s) = ap (λ (x : Code). x ∷ map (λ (e : Entry). e.code) (take (length cs) es)) a ∙ ap (λ (xs : List Code). code (pos c) ∷ xs) (coded_first f cs (drop (line_count f) (l ∷ ls)) es s)
coded_first f [] ls es s = refl

-- A character whose rows stand right behind a tag line that names its code.
pub data Tagged (e : Entry) : List TextLine → Type 0 where
  behind : {t l : TextLine} {ls : List TextLine} → tag_of t.text ≡ Some e.code → e.start ≡ l.start → Tagged e (t ∷ l ∷ ls)
  beyond : {l : TextLine} {ls : List TextLine} → Tagged e ls → Tagged e (l ∷ ls)

pub data EachTagged (ls : List TextLine) : List Entry → Type 0 where
  no_more : EachTagged ls []
  one_more : {e : Entry} {es : List Entry} → Tagged e ls → EachTagged ls es → EachTagged ls (e ∷ es)

tagged-beyond : (l : TextLine) (ls : List TextLine) (es : List Entry) → EachTagged ls es → EachTagged (l ∷ ls) es
tagged-beyond l ls [] no_more = no_more
tagged-beyond l ls (e ∷ es) (one_more t s) = one_more (beyond t) (tagged-beyond l ls es s)

tagged_dropped : (k : ℕ) (ls : List TextLine) (es : List Entry) → EachTagged (drop k ls) es → EachTagged ls es
tagged_dropped zero ls es h = h
tagged_dropped (suc k) [] es h = h
tagged_dropped (suc k) (l ∷ ls) es h = tagged-beyond l ls es (tagged_dropped k ls es h)

-- The codes of the others are those of their tags.
pub coded_others : (f : Format) (cs : List ℕ) (ls : List TextLine) (es : List Entry) → Coded f cs ls es → EachTagged ls (drop (length cs) es)
coded_others f (c ∷ cs) (l ∷ ls) (e ∷ es) (required a b r s) =
    tagged_dropped (line_count f) (l ∷ ls) (drop (length cs) es) (coded_others f cs (drop (line_count f) (l ∷ ls)) es s)
coded_others f [] [] (e ∷ es) x = elim x [ ]
coded_others f [] (t ∷ []) (e ∷ es) x = elim x [ ]
coded_others f (c ∷ cs) [] es x = elim x [ ]
coded_others f (c ∷ cs) (l ∷ ls) [] x = elim x [ ]
coded_others f [] (t ∷ l ∷ ls) (e ∷ es) (tag p b r s) =
    one_more (behind {t = t} {l = l} p b) (tagged-beyond t (l ∷ ls) es (tagged_dropped (line_count f) (l ∷ ls) es (coded_others f [] (drop (line_count f) (l ∷ ls)) es s)))
coded_others f [] ls [] (end b) = no_more
