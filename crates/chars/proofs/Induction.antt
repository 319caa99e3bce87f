-- One induction over a font's characters: what holds where they end, where a tag line is refused, one line further and one character further, holds
-- of all of them.
-- Assumes nothing.
use mathlib.Core.Path.{◌≡◌, refl}
use mathlib.Core.Bool.{Bool, true, false, cond}
use mathlib.Core.List.{List, [], ◌∷◌}
use Prim.Native.Nat.{ℕ, zero, suc, ◌+◌, ◌≤◌, ◌<◌}
use native.Mathlib.Omega.{arith}
use lib.Dec.{ltb}
use lib.IntN.{pos}
use lib.ListN.{length, drop}
use borrow.Author.Tests.{ltb-true}
use Rattle.std.specs.Prelude.{Option, Some, None}
use Rattle.ground.specs.Refusals.{refusal, bad_code_tag, too_many_characters}
use Rattle.ground.specs.declared.refusals.Reason.{Reason}
use Rattle.ground.specs.Limits.{max_characters}
use Rattle.subchars.specs.declared.Code.{Code}
use Rattle.lines.specs.Lines.{TextLine}
use Rattle.rows.specs.declared.Format.{Format}
use Rattle.rows.specs.Rows.{line_count}
use Rattle.chars.specs.Codes.{code, tag_of}
use Rattle.chars.specs.Chars.{finished, stopped, Listing, ends, character_then, blank_lines, tagged, tagged_from, listing}

-- `Holds n ls x`: of the characters x on the lines ls, after n others.
module _ (f : Format) (size : ℕ) (Holds : ℕ → List TextLine → Listing → Type 0)
    (at-end : (n : ℕ) (ls : List TextLine) → n ≤ max_characters → Holds n ls (ends finished))
    (at_tag : (n : ℕ) (l : TextLine) (ls : List TextLine) (k : Reason) → n ≤ max_characters → Holds n (l ∷ ls) (ends (stopped (refusal k l.start))))
    (further : (n : ℕ) (l : TextLine) (ls : List TextLine) (x : Listing) → Holds n ls x → Holds n (l ∷ ls) x)
    (character : (n : ℕ) (c : Code) (ls : List TextLine) (more : Listing) → n < max_characters → Holds (suc n) (drop (line_count f) ls) more → Holds n ls (character_then f size c ls more))
  where
    tagged-all : (k n : ℕ) (ls : List TextLine) → n ≤ max_characters → Holds n (drop k ls) (tagged_from f size k n ls)
    unfolding tagged_from
    tagged-all zero n [] h = at-end n [] h
    tagged-all (suc k) n [] h = at-end n [] h
    tagged-all (suc k) n (l ∷ ls) h = tagged-all k n ls h
    tagged-all zero n (l ∷ ls) h = go (blank_lines (l ∷ ls)) (tag_of l.text) (λ m. tagged-all (line_count f) (suc n) ls m)
      where
        room : (c : Code) (b : Bool) → ltb n max_characters ≡ b → (suc n ≤ max_characters → Holds (suc n) (drop (line_count f) ls) (tagged_from f size (line_count f) (suc n) ls)) →
            Holds n (l ∷ ls) (cond b (character_then f size c ls (tagged_from f size (line_count f) (suc n) ls)) (ends (stopped (refusal too_many_characters l.start))))
        room c true e more =
            let i = ltb-true n max_characters e in
            further n l ls (character_then f size c ls (tagged_from f size (line_count f) (suc n) ls)) (character n c ls (tagged_from f size (line_count f) (suc n) ls) i (more i))
        room c false e more = at_tag n l ls too_many_characters h

        go : (b : Bool) (t : Option Code) → (suc n ≤ max_characters → Holds (suc n) (drop (line_count f) ls) (tagged_from f size (line_count f) (suc n) ls)) →
            Holds n (l ∷ ls) (cond b (ends finished) (tagged t f size l.start n ls (tagged_from f size (line_count f) (suc n) ls)))
        go true t more = at-end n (l ∷ ls) h
        go false None more = at_tag n l ls bad_code_tag h
        go false (Some c) more = room c (ltb n max_characters) refl more

    pub listing-all : (cs : List ℕ) (n : ℕ) (ls : List TextLine) → n + length cs ≤ max_characters → Holds n ls (listing f size cs n ls)
    unfolding listing
    listing-all [] n ls h = tagged-all 0 n ls (omega arith)
    listing-all (c ∷ cs) n ls h =
        character n (code (pos c)) ls (listing f size cs (suc n) (drop (line_count f) ls)) (omega arith) (listing-all cs (suc n) (drop (line_count f) ls) (omega arith))
