-- A font's characters are stopped only at the line where document 01's table refuses them: 5 and 6 by a character's rows, 7 and 8 by a tag line.
-- Assumes nothing.
use mathlib.Core.Path.{◌≡◌, refl, sym, ap, ◌∙◌, subst}
use mathlib.Core.Bool.{Bool, true, false, cond, true≢false}
use mathlib.Core.List.{List, [], ◌∷◌}
use mathlib.Core.Logic.{◌↔◌, ◌⊎◌, inl, inr, ⊎_elim}
use Prim.Native.Nat.{ℕ, zero, suc, ◌≤◌, ◌<◌}
use native.Mathlib.Omega.{arith}
use lib.Dec.{ltb}
use lib.IntN.{ℤ, pos, negsuc}
use lib.ListN.{drop}
use borrow.Author.Tests.{lt-ltb, ltb-true, ltb-false, eqb-true}
use Rattle.std.specs.Prelude.{Option, Some, None, Result, Ok, Err}
use Rattle.ground.specs.Refusals.{refusal, number_of, missing_line, bad_code_tag, too_many_characters}
use Rattle.ground.specs.declared.refusals.Refusal.{Refusal}
use Rattle.ground.proofs.Tests.{clash}
use Rattle.ground.specs.Limits.{max_characters}
use Rattle.subchars.specs.declared.Code.{Code}
use Rattle.lines.specs.Lines.{TextLine}
use Rattle.lines.specs.Words.{first_word}
use Rattle.lines.specs.Numbers.{code_number}
use Rattle.lines.proofs.StartLaws.{Starting, start_first, start-rest, start_dropped}
use Rattle.rows.specs.declared.Format.{Format}
use Rattle.rows.specs.Rows.{character_rows, line_count}
use Rattle.rows.proofs.RefusalLaws.{CharacterStops, only_character, character_inside}
use Rattle.chars.specs.Codes.{code, same_number, same_code, no_code, tag_code, tag_of}
use Rattle.chars.specs.Chars.{Ending, finished, stopped, Listing, ends, listed, character_then, blank_lines, tagged, tagged_from, listing}
use Rattle.chars.proofs.ListingLaws.{tag_skip}

-- A bad code tag: the first word is no number within signed 32 bits, or it is -1.
pub data BadCode (t : List ℕ) : Type 0 where
  no_number : code_number (first_word t) ≡ None → BadCode t
  minus_one : code_number (first_word t) ≡ Some no_code → BadCode t

-- the same in one sentence
pub code_exactly : (t : List ℕ) → BadCode t ↔ ((code_number (first_word t) ≡ None) ⊎ (code_number (first_word t) ≡ Some no_code))
code_exactly t = (to, λ w. ⊎_elim no_number minus_one w)
  where
    to : BadCode t → (code_number (first_word t) ≡ None) ⊎ (code_number (first_word t) ≡ Some no_code)
    to (no_number e) = inl e
    to (minus_one e) = inr e

is_minus_one : (z : ℤ) → same_number z (negsuc 0) ≡ true → z ≡ negsuc 0
is_minus_one (pos n) e = absurd (true≢false (sym e))
is_minus_one (negsuc n) e = ap negsuc (eqb-true n 0 e)

pub bad_exactly : (t : List ℕ) → tag_of t ≡ None ↔ BadCode t
unfolding tag_of
bad_exactly t = (to (code_number (first_word t)) refl, from)
  where
    by : (c : Code) → code_number (first_word t) ≡ Some c → (b : Bool) → same_code c no_code ≡ b → cond b None (Some c) ≡ None → BadCode t
    by c p true q e = minus_one (p ∙ ap (λ (z : ℤ). Some (code z)) (is_minus_one c.0 q))
    by c p false q e = clash (cc)

    to : (m : Option Code) → code_number (first_word t) ≡ m → tag_code m ≡ None → BadCode t
    to (Some c) p e = by c p (same_code c no_code) refl e
    to None p e = no_number p

    from : BadCode t → tag_code (code_number (first_word t)) ≡ None
    from (no_number p) = ap tag_code p
    from (minus_one p) = ap tag_code p

-- The first of the lines is a tag line: more remains than "blanks, tabs and line ends", and its first word is a code.
pub record TagLine (l : TextLine) (ls : List TextLine) : Type 0 where
  pub more : blank_lines (l ∷ ls) ≡ false
  pub code : Code
  pub names : tag_of l.text ≡ Some code

-- "Then 5 to 8 as met line by line": where the characters of the given codes are still required, n others being before them, the line at which they
-- are refused.
pub data CharactersStop (f : Format) (size : ℕ) : List ℕ → ℕ → List TextLine → Refusal → Type 0 where
  -- 5 and 6: the rows of a required character
  in_required : {c : ℕ} {cs : List ℕ} {n : ℕ} {ls : List TextLine} {r : Refusal} → CharacterStops f size ls r → CharactersStop f size (c ∷ cs) n ls r
  past_required : {c : ℕ} {cs : List ℕ} {n : ℕ} {ls : List TextLine} {r : Refusal} (w : ℕ) →
      character_rows f size ls ≡ Ok w → CharactersStop f size cs (suc n) (drop (line_count f) ls) r → CharactersStop f size (c ∷ cs) n ls r
  -- 7: "bad code tag", at the "start of that line"
  bad_tag : {n : ℕ} {l : TextLine} {ls : List TextLine} → blank_lines (l ∷ ls) ≡ false → BadCode l.text → CharactersStop f size [] n (l ∷ ls) (refusal bad_code_tag l.start)
  -- 8: "a 513th character", at the "start of its tag line"; "on one tag line 7 before 8"
  too_many : {n : ℕ} {l : TextLine} {ls : List TextLine} → TagLine l ls → max_characters ≤ n → CharactersStop f size [] n (l ∷ ls) (refusal too_many_characters l.start)
  -- 5 and 6: the rows of a tagged character, behind its tag line
  in_tagged : {n : ℕ} {l : TextLine} {ls : List TextLine} {r : Refusal} → TagLine l ls → n < max_characters → CharacterStops f size ls r → CharactersStop f size [] n (l ∷ ls) r
  past_tagged : {n : ℕ} {l : TextLine} {ls : List TextLine} {r : Refusal} (w : ℕ) → TagLine l ls → n < max_characters →
      character_rows f size ls ≡ Ok w → CharactersStop f size [] (suc n) (drop (line_count f) ls) r → CharactersStop f size [] n (l ∷ ls) r

-- How characters end, by the rows of the first and how the others end.
abbrev pub ending_by : Result ℕ Refusal → Ending → Ending
ending_by (Ok w) more = more
ending_by (Err r) more = stopped r

module _ (f : Format) (size : ℕ) where
  pub ending-is : (c : Code) (ls : List TextLine) (more : Listing) → (character_then f size c ls more).ending ≡ ending_by (character_rows f size ls) more.ending
  unfolding character_rows
  ending-is c [] more = refl
  ending-is c (l ∷ ls) more = go (character_rows f size (l ∷ ls))
    where
      go : (v : Result ℕ Refusal) → (listed v c l.start more).ending ≡ ending_by v more.ending
      go (Ok w) = refl
      go (Err r) = refl

  -- the lines from a tag line on
  module _ (n : ℕ) (l : TextLine) (ls : List TextLine) where
    abbrev pub others : Listing
    others = tagged_from f size (line_count f) (suc n) ls

    pub tag_due : blank_lines (l ∷ ls) ≡ false → tagged_from f size 0 n (l ∷ ls) ≡ tagged (tag_of l.text) f size l.start n ls others
    unfolding tagged_from
    tag_due m = ap (λ (b : Bool). cond b (ends finished) (tagged (tag_of l.text) f size l.start n ls others)) m

    pub tag_named : (t : TagLine l ls) → tagged_from f size 0 n (l ∷ ls) ≡ tagged (Some t.code) f size l.start n ls others
    tag_named t = tag_due t.more ∙ ap (λ (x : Option Code). tagged x f size l.start n ls others) t.names

    pub tag_room : (t : TagLine l ls) → n < max_characters → (tagged_from f size 0 n (l ∷ ls)).ending ≡ ending_by (character_rows f size ls) (tagged_from f size 0 (suc n) (drop (line_count f) ls)).ending
    tag_room t h =
        ap (λ (x : Listing). x.ending) (tag_named t ∙ ap (λ (b : Bool). cond b (character_then f size t.code ls others) (ends (stopped (refusal too_many_characters l.start)))) (lt-ltb n max_characters h)) ∙
        ending-is t.code ls others ∙ ap (λ (x : Listing). ending_by (character_rows f size ls) x.ending) (tag_skip f size (line_count f) (suc n) ls)

  only_tagged : (k n : ℕ) (ls : List TextLine) (r : Refusal) → (tagged_from f size k n ls).ending ≡ stopped r → CharactersStop f size [] n (drop k ls) r
  unfolding tagged_from
  only_tagged zero n [] r e = clash (cc)
  only_tagged (suc k) n [] r e = clash (cc)
  only_tagged (suc k) n (l ∷ ls) r e = only_tagged k n ls r e
  only_tagged zero n (l ∷ ls) r e = go (blank_lines (l ∷ ls)) refl (tag_of l.text) refl e (only_tagged (line_count f) (suc n) ls r)
    where
      rows : TagLine l ls → n < max_characters → (v : Result ℕ Refusal) → character_rows f size ls ≡ v → ending_by v (others n l ls).ending ≡ stopped r →
          ((others n l ls).ending ≡ stopped r → CharactersStop f size [] (suc n) (drop (line_count f) ls) r) → CharactersStop f size [] n (l ∷ ls) r
      rows t h (Ok w) p q more = past_tagged w t h p (more q)
      rows t h (Err z) p q more = let d : z ≡ r = cc in in_tagged t h (only_character f size ls r (p ∙ ap Err d))

      room : TagLine l ls → (c : Code) (b : Bool) → ltb n max_characters ≡ b → (cond b (character_then f size c ls (others n l ls)) (ends (stopped (refusal too_many_characters l.start)))).ending ≡ stopped r →
          ((others n l ls).ending ≡ stopped r → CharactersStop f size [] (suc n) (drop (line_count f) ls) r) → CharactersStop f size [] n (l ∷ ls) r
      room t c true b q more = rows t (ltb-true n max_characters b) (character_rows f size ls) refl (sym (ending-is c ls (others n l ls)) ∙ q) more
      room t c false b q more =
          let p : refusal too_many_characters l.start ≡ r = cc in
          subst (CharactersStop f size [] n (l ∷ ls)) p (too_many t (ltb-false n max_characters b))

      go : (b : Bool) → blank_lines (l ∷ ls) ≡ b → (t : Option Code) → tag_of l.text ≡ t → (cond b (ends finished) (tagged t f size l.start n ls (others n l ls))).ending ≡ stopped r →
          ((others n l ls).ending ≡ stopped r → CharactersStop f size [] (suc n) (drop (line_count f) ls) r) → CharactersStop f size [] n (l ∷ ls) r
      go true m t p q more = clash (cc)
      go false m None p q more =
          let d : refusal bad_code_tag l.start ≡ r = cc in
          subst (CharactersStop f size [] n (l ∷ ls)) d (bad_tag {l = l} m ((bad_exactly l.text).0 p))
      go false m (Some c) p q more = room (record { more = m; code = c; names = p }) c (ltb n max_characters) refl q more

  -- 5 to 8: characters are stopped only so
  pub only_characters : (cs : List ℕ) (n : ℕ) (ls : List TextLine) (r : Refusal) → (listing f size cs n ls).ending ≡ stopped r → CharactersStop f size cs n ls r
  unfolding listing
  only_characters [] n ls r e = only_tagged 0 n ls r e
  only_characters (c ∷ cs) n ls r e =
      go (character_rows f size ls) refl (sym (ending-is (code (pos c)) ls (listing f size cs (suc n) (drop (line_count f) ls))) ∙ e) (only_characters cs (suc n) (drop (line_count f) ls) r)
    where
      more : Listing
      more = listing f size cs (suc n) (drop (line_count f) ls)

      go : (v : Result ℕ Refusal) → character_rows f size ls ≡ v → ending_by v more.ending ≡ stopped r →
          (more.ending ≡ stopped r → CharactersStop f size cs (suc n) (drop (line_count f) ls) r) → CharactersStop f size (c ∷ cs) n ls r
      go (Ok w) p q further = past_required w p (further q)
      go (Err z) p q further = let d : z ≡ r = cc in in_required (only_character f size ls r (p ∙ ap Err d))

  -- by no other number, at a place within the font or at its end
  pub characters-inside : (cs : List ℕ) (n : ℕ) (ls : List TextLine) (r : Refusal) → Starting size ls → CharactersStop f size cs n ls r →
      (number_of missing_line ≤ number_of r.reason) × (number_of r.reason ≤ number_of too_many_characters) × (r.place ≤ size)
  characters-inside [] n [] r t x = elim x [ ]
  characters-inside (c ∷ cs) n ls r t (in_required s) = let k = character_inside f size ls r t s in (k.0, omega (arith, k.1), k.2)
  characters-inside (c ∷ cs) n ls r t (past_required w e s) = characters-inside cs (suc n) (drop (line_count f) ls) r (start_dropped size (line_count f) ls t) s
  characters-inside [] n (l ∷ ls) _ t (bad_tag m b) = (omega arith, omega arith, start_first size l ls t)
  characters-inside [] n (l ∷ ls) _ t (too_many g h) = (omega arith, omega arith, start_first size l ls t)
  characters-inside [] n (l ∷ ls) r t (in_tagged g h s) = let k = character_inside f size ls r (start-rest size l ls t) s in (k.0, omega (arith, k.1), k.2)
  characters-inside [] n (l ∷ ls) r t (past_tagged w g h e s) = characters-inside [] (suc n) (drop (line_count f) ls) r (start_dropped size (line_count f) ls (start-rest size l ls t)) s
