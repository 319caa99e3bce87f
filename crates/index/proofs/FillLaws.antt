-- The index, as a loop fills it: the entries so far, and then what is left to read.
-- Assumes nothing.
use mathlib.Core.Path.{◌≡◌, refl, sym, ap, ◌∙◌, subst}
use mathlib.Core.Bool.{Bool, true, false, cond}
use mathlib.Core.List.{List, [], ◌∷◌, ◌++◌, append_assoc, append-nil, map}
use Prim.Native.Nat.{ℕ, suc, ◌+◌, ◌≤◌, ◌<◌}
use native.Mathlib.Omega.{arith}
use native.Mathlib.Numerals.{add-one}
use lib.Dec.{ltb}
use lib.IntN.{ℤ}
use lib.ListN.{length, take, set, length-set, length-append}
use borrow.Author.Tests.{ltb-true, ltb-false}
use Rattle.std.specs.Prelude.{Option, Some, None, Ok, Err}
use Rattle.ground.specs.Refusals.{refusal, too_many_characters}
use Rattle.ground.specs.declared.refusals.Refusal.{Refusal}
use Rattle.ground.proofs.Tests.{clash}
use Rattle.ground.proofs.Areas.{map_more}
use Rattle.ground.specs.Limits.{max_characters}
use Rattle.rows.specs.declared.Format.{Format}
use Rattle.chars.specs.declared.Entry.{Entry}
use Rattle.chars.specs.declared.TagLine.{TagLine}
use Rattle.chars.specs.declared.Listed.{Listed}
use Rattle.chars.specs.Codes.{required_count}
use Rattle.chars.specs.Chars.{Ending, finished, stopped, Listing, ends}
use Rattle.chars.specs.Steps.{Next, listed_at, tag_at, blank_from, tagged_then, tagged_at, next_of, next_at}
use Rattle.chars.proofs.CodeLaws.{none_required}
use Rattle.chars.proofs.ListingLaws.{rest, following, rest_step}
use Rattle.index.specs.Index.{listing_at, ended_by, CharacterRoom, Indexed, code_of, start_of, width_of}

-- A character is listed only where there is room.
pub listed-room : (f : Format) (s : List ℕ) (at n : ℕ) (l : Listed) → Ok (Some l) ≡ next_at f s at n → n < max_characters
unfolding next_at tagged_at
listed-room f s at n l p = go (ltb n required_count) refl
  where
    room : (c : Bool) → ltb n max_characters ≡ c → (x : Next) → Ok (Some l) ≡ cond c x (Err (refusal too_many_characters at)) → n < max_characters
    room true h x q = ltb-true n max_characters h
    room false h x q = clash (cc)

    tag : (t : Option TagLine) → Ok (Some l) ≡ tagged_then t f s at n → n < max_characters
    tag (Some m) q = room (ltb n max_characters) refl (listed_at f s m.next.at m.code) q
    tag None q = clash (cc)

    more : (b : Bool) (t : Option TagLine) → Ok (Some l) ≡ cond b (Ok None) (tagged_then t f s at n) → n < max_characters
    more true t q = clash (cc)
    more false t q = tag t q

    go : (b : Bool) → ltb n required_count ≡ b → n < max_characters
    go true h = omega (arith, ltb-true n required_count h)
    go false h = more (blank_from s at) (tag_at s at) (p ∙ ap (λ (cs : List ℕ). next_of cs f s at n) (none_required n (ltb-false n required_count h)))

-- Entries before a listing.
abbrev before : List Entry → Listing → Listing
before es x = record { entries = es ++ x.entries; ending = x.ending }

-- The loop's invariant: n characters are in the index, and the others are to come from `at` on.
pub record CharactersHeld (f : Format) (s : List ℕ) (from : ℕ) (codes₀ : List ℤ) (starts₀ widths₀ : List ℕ) (codes : List ℤ) (starts widths : List ℕ) (at n : ℕ) : Type 0 where
  pub few : n ≤ max_characters
  pub long_codes : length codes ≡ length codes₀
  pub long_starts : length starts ≡ length starts₀
  pub long_widths : length widths ≡ length widths₀
  pub done : List Entry
  pub count : n ≡ length done
  pub whole : listing_at f s from ≡ before done (rest f s n at)
  pub codes_are : take n codes ≡ map code_of done
  pub starts_are : take n starts ≡ map start_of done
  pub widths_are : take n widths ≡ map width_of done

module _ (f : Format) (s : List ℕ) (from : ℕ) (codes₀ : List ℤ) (starts₀ widths₀ : List ℕ) where
  pub held_none : CharactersHeld f s from codes₀ starts₀ widths₀ codes₀ starts₀ widths₀ from 0
  held_none =
      record {
        few = omega arith;
        long_codes = refl;
        long_starts = refl;
        long_widths = refl;
        done = [];
        count = refl;
        whole = refl;
        codes_are = refl;
        starts_are = refl;
        widths_are = refl;
      }

  module _ (big : CharacterRoom max_characters codes₀ starts₀ widths₀) (codes : List ℤ) (starts widths : List ℕ) (at n : ℕ) (h : CharactersHeld f s from codes₀ starts₀ widths₀ codes starts widths at n) where
    step_whole : (x : Listed) → Ok (Some x) ≡ next_at f s at n → listing_at f s from ≡ before (h.done ++ (x.entry ∷ [])) (rest f s (n + 1) x.next.at)
    step_whole x p =
        let e = x.entry in
        let next = x.next in
        h.whole ∙ ap (before h.done) (rest_step f s n at ∙ sym (ap (following f s n) p)) ∙
        ap (λ (l : List Entry). record { entries = l; ending = (rest f s (suc n) next.at).ending }) (sym (append_assoc h.done (e ∷ []) (rest f s (suc n) next.at).entries)) ∙
        ap (λ (j : ℕ). before (h.done ++ (e ∷ [])) (rest f s j next.at)) (sym (add-one n))

    pub held_more : (x : Listed) → Ok (Some x) ≡ next_at f s at n →
        CharactersHeld f s from codes₀ starts₀ widths₀ (set codes n (code_of x.entry)) (set starts n (start_of x.entry)) (set widths n (width_of x.entry)) x.next.at (n + 1)
    held_more x p =
        let e = x.entry in
        let r = listed-room f s at n x p in
        record {
          few = omega arith;
          long_codes = length-set codes n (code_of e) ∙ h.long_codes;
          long_starts = length-set starts n (start_of e) ∙ h.long_starts;
          long_widths = length-set widths n (width_of e) ∙ h.long_widths;
          done = h.done ++ (e ∷ []);
          count = omega (arith, h.count, length-append h.done (e ∷ []));
          whole = step_whole x p;
          codes_are = map_more code_of codes n h.done e (omega (arith, h.long_codes, big.for_codes)) h.codes_are;
          starts_are = map_more start_of starts n h.done e (omega (arith, h.long_starts, big.for_starts)) h.starts_are;
          widths_are = map_more width_of widths n h.done e (omega (arith, h.long_widths, big.for_widths)) h.widths_are;
        }

    stop : (x : Ending) → ends x ≡ rest f s n at → Indexed (listing_at f s from) (ended_by x n) codes starts widths
    stop x p =
        let d = h.done in
        let e : listing_at f s from ≡ record { entries = d; ending = x } =
        h.whole ∙ sym (ap (before d) p) ∙ ap (λ (l : List Entry). record { entries = l; ending = x }) (append-nil d) in
        let c = h.count in
        subst (λ (y : Listing). Indexed y (ended_by x n) codes starts widths) (sym e)
        (record {
          answer = ap (ended_by x) c;
          lists = record {
            few = omega (arith, c, h.few);
            codes_are = ap (λ (j : ℕ). take j codes) (sym c) ∙ h.codes_are;
            starts_are = ap (λ (j : ℕ). take j starts) (sym c) ∙ h.starts_are;
            widths_are = ap (λ (j : ℕ). take j widths) (sym c) ∙ h.widths_are;
          };
        })

    pub held_done : Ok None ≡ next_at f s at n → Indexed (listing_at f s from) (Ok n) codes starts widths
    held_done p = stop finished (ap (following f s n) p ∙ sym (rest_step f s n at))

    pub held_failed : (r : Refusal) → Err r ≡ next_at f s at n → Indexed (listing_at f s from) (Err r) codes starts widths
    held_failed r q = stop (stopped r) (ap (following f s n) q ∙ sym (rest_step f s n at))
