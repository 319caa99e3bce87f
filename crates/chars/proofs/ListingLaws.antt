-- The characters by places are the characters on the lines: what is left is one step, and what is left after it.
-- Assumes nothing.
use mathlib.Core.Path.{◌≡◌, refl, sym, ap, ◌∙◌}
use mathlib.Core.Bool.{Bool, true, false, cond}
use mathlib.Core.List.{List, [], ◌∷◌}
use Prim.Native.Nat.{ℕ, zero, suc, ◌-◌, ◌≤◌, ◌<◌}
use native.Mathlib.Omega.{arith}
use lib.Dec.{ltb}
use lib.IntN.{pos}
use lib.ListN.{length, drop, get_or, take}
use borrow.Author.Tests.{lt-ltb, le-ltb, ltb-true, ltb-false}
use Rattle.std.specs.Prelude.{Option, Some, None, Result, Ok, Err, ok_or}
use Rattle.ground.specs.Refusals.{refusal, bad_code_tag, too_many_characters}
use Rattle.ground.specs.declared.refusals.Refusal.{Refusal}
use Rattle.ground.proofs.Tests.{clash}
use Rattle.ground.specs.Limits.{max_characters}
use Rattle.subchars.specs.declared.Code.{Code}
use Rattle.lines.specs.declared.Line.{Line}
use Rattle.lines.specs.Lines.{TextLine, lines_from, text_at, next_start, cursor, after}
use Rattle.lines.proofs.LineLaws.{lines_none, lines_next, after_lines, LineFound, line-part}
use Rattle.rows.specs.declared.Format.{Format}
use Rattle.rows.specs.Rows.{character_rows, line_count}
use Rattle.rows.specs.Steps.{char_then, char_at}
use Rattle.chars.specs.declared.TagLine.{TagLine}
use Rattle.chars.specs.Codes.{code, required_codes, required_count, tag_of}
use Rattle.chars.specs.Chars.{finished, stopped, Listing, ends, with_entry, entry, listed, character_then, blank_lines, tagged, tagged_from, listing}
use Rattle.chars.specs.Steps.{Next, listed_then, listed_at, tag_then, tag_at, blank_from, tagged_then, tagged_at, next_of, next_at}
use Rattle.chars.proofs.CodeLaws.{still_required, none_required}
use Rattle.chars.proofs.BlankLaws.{blank_from_lem}

pub tag_skip : (f : Format) (size k n : ℕ) (ls : List TextLine) → tagged_from f size k n ls ≡ tagged_from f size 0 n (drop k ls)
unfolding tagged_from
tag_skip f size zero n ls = refl
tag_skip f size (suc k) n [] = refl
tag_skip f size (suc k) n (l ∷ ls) = tag_skip f size k n ls

-- The characters from a place on, after n others; and the same after one step.
abbrev pub rest : Format → List ℕ → ℕ → ℕ → Listing
rest f s n at = listing f (length s) (drop n required_codes) n (lines_from s at)

abbrev pub following : Format → List ℕ → ℕ → Next → Listing
following f s n (Ok (Some x)) = with_entry x.entry (rest f s (suc n) x.next.at)
following f s n (Ok None) = ends finished
following f s n (Err r) = ends (stopped r)

-- A character, and g of the lines behind it.
module _ (f : Format) (s : List ℕ) (n : ℕ) (g : List TextLine → Listing) (later : (next : ℕ) → g (lines_from s next) ≡ rest f s (suc n) next) where
  character_step : (at : ℕ) (c : Code) →
      character_then f (length s) c (lines_from s at) (g (drop (line_count f) (lines_from s at))) ≡ following f s n (listed_at f s at c)
  unfolding listed_at char_at character_rows
  character_step at c = go (ltb at (length s)) refl
    where
      by : (v : Result ℕ Refusal) → listed v c at (g (drop (line_count f) (lines_from s at))) ≡ following f s n (listed_then (char_then v (cursor (after (line_count f) s at))) c at)
      by (Ok w) = ap (with_entry (entry c at w)) (ap g (sym (after_lines (line_count f) s at)) ∙ later (after (line_count f) s at))
      by (Err r) = refl

      go : (b : Bool) → ltb at (length s) ≡ b →
          character_then f (length s) c (lines_from s at) (g (drop (line_count f) (lines_from s at))) ≡ following f s n (listed_then (char_then (character_rows f (length s) (lines_from s at)) (cursor (after (line_count f) s at))) c at)
      go true e =
          let l = lines_next s at (ltb-true at (length s) e) in
          let more = g (drop (line_count f) (lines_from s at)) in
          ap (λ (ls : List TextLine). character_then f (length s) c ls more) l ∙
          ap (λ (ls : List TextLine). listed (character_rows f (length s) ls) c at more) (sym l) ∙
          by (character_rows f (length s) (lines_from s at))
      go false e =
          let l = lines_none s at (ltb-false at (length s) e) in
          ap (λ (ls : List TextLine). character_then f (length s) c ls (g (drop (line_count f) (lines_from s at)))) l ∙
          sym (ap (λ (ls : List TextLine). following f s n (listed_then (char_then (character_rows f (length s) ls) (cursor (after (line_count f) s at))) c at)) l)

required_step : (f : Format) (s : List ℕ) (n at : ℕ) → n < required_count → rest f s n at ≡ following f s n (listed_at f s at (code (pos (get_or required_codes n 0))))
unfolding listing
required_step f s n at h =
    ap (λ (cs : List ℕ). listing f (length s) cs n (lines_from s at)) (still_required n h) ∙
    character_step f s n (λ ls. listing f (length s) (drop (suc n) required_codes) (suc n) ls) (λ next. refl) at (code (pos (get_or required_codes n 0)))

no_required : (f : Format) (s : List ℕ) (n at : ℕ) → required_count ≤ n → rest f s n at ≡ tagged_from f (length s) 0 n (lines_from s at)
unfolding listing
no_required f s n at h = ap (λ (cs : List ℕ). listing f (length s) cs n (lines_from s at)) (none_required n h)

-- A tag line, by its step.
tag_step : (f : Format) (s : List ℕ) (n at : ℕ) (t : Option Code) → required_count ≤ n →
    tagged t f (length s) at n (lines_from s (next_start s at)) (tagged_from f (length s) (line_count f) (suc n) (lines_from s (next_start s at))) ≡
    following f s n (tagged_then (tag_then t (cursor (next_start s at))) f s at n)
tag_step f s n at None h = refl
tag_step f s n at (Some c) h = go (ltb n max_characters)
  where
    ls : List TextLine
    ls = lines_from s (next_start s at)

    go : (b : Bool) →
        cond b (character_then f (length s) c ls (tagged_from f (length s) (line_count f) (suc n) ls)) (ends (stopped (refusal too_many_characters at))) ≡
        following f s n (cond b (listed_at f s (next_start s at) c) (Err (refusal too_many_characters at)))
    go true =
        ap (character_then f (length s) c ls) (tag_skip f (length s) (line_count f) (suc n) ls) ∙
        character_step f s n (λ ls. tagged_from f (length s) 0 (suc n) ls) (λ next. sym (no_required f s (suc n) next (omega arith))) (next_start s at) c
    go false = refl

no_lines : blank_lines [] ≡ true
unfolding blank_lines
no_lines = refl

tagged_step : (f : Format) (s : List ℕ) (n at : ℕ) → required_count ≤ n → tagged_from f (length s) 0 n (lines_from s at) ≡ following f s n (tagged_at f s at n)
unfolding tagged_from tagged_at tag_at
tagged_step f s n at h = go (ltb at (length s)) refl
  where
    by : (b : Bool) (y : Listing) (r : Next) → y ≡ following f s n r → cond b (ends finished) y ≡ following f s n (cond b (Ok None) r)
    by true y r q = refl
    by false y r q = q

    go : (b : Bool) → ltb at (length s) ≡ b →
        tagged_from f (length s) 0 n (lines_from s at) ≡ following f s n (cond (blank_from s at) (Ok None) (tagged_then (cond b (tag_then (tag_of (text_at s at)) (cursor (next_start s at))) None) f s at n))
    go true e =
        let l = lines_next s at (ltb-true at (length s) e) in
        let ls = lines_from s (next_start s at) in
        let t = tagged (tag_of (text_at s at)) f (length s) at n ls (tagged_from f (length s) (line_count f) (suc n) ls) in
        ap (tagged_from f (length s) 0 n) l ∙
        ap (λ (b : Bool). cond b (ends finished) t) (ap blank_lines (sym l) ∙ sym (blank_from_lem s at)) ∙
        by (blank_from s at) t (tagged_then (tag_then (tag_of (text_at s at)) (cursor (next_start s at))) f s at n) (tag_step f s n at (tag_of (text_at s at)) h)
    go false e =
        let l = lines_none s at (ltb-false at (length s) e) in
        ap (tagged_from f (length s) 0 n) l ∙ sym (ap (λ (b : Bool). following f s n (cond b (Ok None) (tagged_then None f s at n))) (blank_from_lem s at ∙ ap blank_lines l ∙ no_lines))

-- One step.
pub rest_step : (f : Format) (s : List ℕ) (n at : ℕ) → rest f s n at ≡ following f s n (next_at f s at n)
unfolding next_at
rest_step f s n at = go (ltb n required_count) refl
  where
    go : (b : Bool) → ltb n required_count ≡ b → rest f s n at ≡ following f s n (next_of (drop n required_codes) f s at n)
    go true e =
        let h = ltb-true n required_count e in
        required_step f s n at h ∙ sym (ap (λ (cs : List ℕ). following f s n (next_of cs f s at n)) (still_required n h))
    go false e =
        let h = ltb-false n required_count e in
        no_required f s n at h ∙ tagged_step f s n at h ∙ sym (ap (λ (cs : List ℕ). following f s n (next_of cs f s at n)) (none_required n h))

-- What the step is, by cases of the code.
module _ (f : Format) (s : List ℕ) (at n : ℕ) where
  pub next_required : (r : Next) (c : Code) → n < required_count → c ≡ code (pos (get_or required_codes n 0)) → r ≡ listed_at f s at c → r ≡ next_at f s at n
  unfolding next_at
  next_required r c h e p = p ∙ ap (listed_at f s at) e ∙ sym (ap (λ (cs : List ℕ). next_of cs f s at n) (still_required n h))

  pub next_tagged : (r : Next) → required_count ≤ n → r ≡ tagged_at f s at n → r ≡ next_at f s at n
  unfolding next_at
  next_tagged r h p = p ∙ sym (ap (λ (cs : List ℕ). next_of cs f s at n) (none_required n h))

  pub tagged_complete : blank_from s at ≡ true → Ok None ≡ tagged_at f s at n
  unfolding tagged_at
  tagged_complete e = simp e

  module _ (e : blank_from s at ≡ false) (t : Option TagLine) (p : t ≡ tag_at s at) where
    tagged_is : tagged_then t f s at n ≡ tagged_at f s at n
    unfolding tagged_at
    tagged_is = simp e (ap (λ (x : Option TagLine). tagged_then x f s at n) p)

    pub tagged-listed : (r : Next) (l : TagLine) → t ≡ Some l → n < max_characters → r ≡ listed_at f s l.next.at l.code → r ≡ tagged_at f s at n
    tagged-listed r l q k u = u ∙ sym (ap (λ (x : Option TagLine). tagged_then x f s at n) q ∙ simp (lt-ltb n max_characters k)) ∙ tagged_is

    pub tagged-many : (l : TagLine) → t ≡ Some l → max_characters ≤ n → Err (refusal too_many_characters at) ≡ tagged_at f s at n
    tagged-many l q k = sym (ap (λ (x : Option TagLine). tagged_then x f s at n) q ∙ simp (le-ltb n max_characters k)) ∙ tagged_is

    pub tagged-stopped : (q : Refusal) → ◌≡◌ {A = Result TagLine Refusal} (Err q) (ok_or t (refusal bad_code_tag at)) → ◌≡◌ {A = Next} (Err q) (tagged_at f s at n)
    tagged-stopped q u = by t u ∙ tagged_is
      where
        by : (x : Option TagLine) → ◌≡◌ {A = Result TagLine Refusal} (Err q) (ok_or x (refusal bad_code_tag at)) → ◌≡◌ {A = Next} (Err q) (tagged_then x f s at n)
        by (Some l) v = clash (cc)
        by None v = let d : q ≡ refusal bad_code_tag at = cc in ap Err d

-- A tag line at a place, from the line that the cursor found.
pub tag_line : (s : List ℕ) (at : ℕ) (l : Line) (x : LineFound s at l) (t : Option Code) → t ≡ tag_of (take (l.end - l.start) (drop l.start s)) → tag_then t l.next ≡ tag_at s at
unfolding tag_at
tag_line s at l x t p =
    simp (lt-ltb at (length s) x.inside) (ap (λ (j : ℕ). tag_then t (cursor j)) x.further ∙ ap (λ (y : Option Code). tag_then y (cursor (next_start s at))) (p ∙ ap tag_of (line-part s at l x)))

pub tag_missed : (s : List ℕ) (at : ℕ) → length s ≤ at → None ≡ tag_at s at
unfolding tag_at
tag_missed s at h = simp (le-ltb at (length s) h)
