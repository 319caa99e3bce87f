-- One record noted after another: what is held of a code is the first record of it.
-- Assumes nothing.
use mathlib.Core.Path.{◌≡◌, refl, sym, ap, ap₂, ◌∙◌, subst}
use mathlib.Core.Bool.{Bool, true, false, cond, not, ◌&&◌, true≢false}
use mathlib.Core.List.{List, ◌++◌}
use Prim.Native.Nat.{ℕ, ◌+◌, ◌-◌, ◌<◌, ◌≤◌}
use native.Mathlib.Omega.{arith}
use lib.Dec.{eqb}
use lib.ListN.{length, take, drop, get_or, set, replicate, length-set, length-replicate, get_or-replicate}
use lib.Seq.{get_or-set_same, get_or-set_other}
use borrow.Author.Tests.{eq-eqb, ne_eqb, eqb-true}
use Rattle.records.specs.declared.Head.{Head}
use Rattle.records.specs.declared.Place.{Place}
use Rattle.records.specs.declared.Record.{Record}
use Rattle.std.specs.Prelude.{Option, Some, None}
use Rattle.records.specs.Versions.{head_length}
use Rattle.records.specs.Records.{record_list, list_ends}
use Rattle.records.specs.Places.{place_in}
use Rattle.records.specs.Steps.{Walkable}
use Rattle.records.proofs.WalkLaws.{records_at, Next, walk_on, place_here, place_next, place_none}
use Rattle.heads.specs.Pack.{says, meaning}
use Rattle.heads.proofs.FindLaws.{records_are}
use Rattle.letters.specs.Held.{held_at, held_of, or_else_place, LetterNoted, Held}

pub held_none : (w : ℕ) → held_at 0 w ≡ None
unfolding held_at
held_none w = refl

pub held-some : (p w : ℕ) → 0 < p → held_at p w ≡ Some (record { at = p; width = w })
unfolding held_at
held-some p w l = rw (ne_eqb p 0 (λ e. absurd (omega arith)))

held_noted : (p w : ℕ) (x : Option Place) → (p ≡ 0 → ⊥) → or_else_place (held_at p w) x ≡ held_at p w
unfolding held_at
held_noted p w x n = rw (ne_eqb p 0 n)

or_none : (x : Option Place) → x ≡ or_else_place x None
or_none (Some p) = refl
or_none None = refl

other : (live : Bool) (code c : ℕ) → eqb code c ≡ false → (live && eqb code c) ≡ false
other true code c e = e
other false code c e = refl

pub not_live : (live : Bool) → not live ≡ true → live ≡ false
not_live true e = absurd (true≢false (sym e))
not_live false e = refl

pub live_not : (live : Bool) → not live ≡ false → live ≡ true
live_not true e = refl
live_not false e = absurd (true≢false e)

-- The four ways of noting.
module _ (starts widths : List ℕ) (live : Bool) (code at width : ℕ) where
  unmoved : ((c : ℕ) → c < 256 → held_of starts widths c ≡ or_else_place (held_of starts widths c) (cond (live && eqb code c) (held_at at width) None)) → LetterNoted live code at width starts widths starts widths
  unmoved e = record { as_long = (refl, refl); each = e }

  -- nothing is laid upon what is held
  apart : (c : ℕ) → (live && eqb code c) ≡ false → held_of starts widths c ≡ or_else_place (held_of starts widths c) (cond (live && eqb code c) (held_at at width) None)
  apart c e = or_none (held_of starts widths c) ∙ ap (λ (b : Bool). or_else_place (held_of starts widths c) (cond b (held_at at width) None)) (sym e)

  pub note_free : live ≡ false → LetterNoted live code at width starts widths starts widths
  note_free e = unmoved (λ c l. apart c (ap (λ (b : Bool). b && eqb code c) e))

  pub note_large : 256 ≤ code → LetterNoted live code at width starts widths starts widths
  note_large g = unmoved (λ c l. apart c (other live code c (ne_eqb code c (λ e. absurd (omega arith)))))

  by_code : (P : ℕ → Type 0) → P code → ((c : ℕ) → eqb code c ≡ false → (c ≡ code → ⊥) → P c) → (c : ℕ) → P c
  by_code P here there c = go (eqb code c) refl
    where
      go : (b : Bool) → eqb code c ≡ b → P c
      go true e = subst P (eqb-true code c e) here
      go false e = there c e (λ q. true≢false (sym (eq-eqb code c (sym q)) ∙ e))

  pub note_again : (get_or starts code 0 ≡ 0 → ⊥) → LetterNoted live code at width starts widths starts widths
  note_again n =
      unmoved (λ c l.
      by_code (λ j. held_of starts widths j ≡ or_else_place (held_of starts widths j) (cond (live && eqb code j) (held_at at width) None))
      (sym (held_noted (get_or starts code 0) (get_or widths code 0) (cond (live && eqb code code) (held_at at width) None) n))
      (λ j e q. apart j (other live code j e)) c)

  pub note_new : live ≡ true → code < length starts → code < length widths → get_or starts code 0 ≡ 0 → LetterNoted live code at width starts widths (set starts code at) (set widths code width)
  note_new y l m z =
      record {
        as_long = (length-set starts code at, length-set widths code width);
        each =
            λ c u.
            by_code (λ j. held_of (set starts code at) (set widths code width) j ≡ or_else_place (held_of starts widths j) (cond (live && eqb code j) (held_at at width) None))
            (ap₂ held_at (get_or-set_same starts code at 0 l) (get_or-set_same widths code width 0 m) ∙
            sym (ap (λ (p : ℕ). or_else_place (held_at p (get_or widths code 0)) (cond (live && eqb code code) (held_at at width) None)) z ∙
            ap (λ (x : Option Place). or_else_place x (cond (live && eqb code code) (held_at at width) None)) (held_none (get_or widths code 0)) ∙
            ap₂ (λ (b d : Bool). cond (b && d) (held_at at width) None) y (eq-eqb code code refl)))
            (λ j e q. ap₂ held_at (get_or-set_other starts code j at 0 q) (get_or-set_other widths code j width 0 q) ∙ apart j (other live code j e)) c;
      }

-- One record further.
step : (x y : Option Place) (b : Bool) (at w : ℕ) → 0 < at → or_else_place x (cond b (Some (record { at = at; width = w })) y) ≡ or_else_place (or_else_place x (cond b (held_at at w) None)) y
step (Some p) y b at w l = refl
step None y true at w l = sym (ap (λ (x : Option Place). or_else_place x y) (held-some at w l))
step None y false at w l = refl

-- What is found from the start on is what is held, or else what is found from a place on.
pub record Passed (f : Head) (s : List ℕ) (from at : ℕ) (starts widths : List ℕ) : Type 0 where
  pub walk : Walkable f s at
  pub behind : 0 < at
  pub room : (256 ≤ length starts) × (256 ≤ length widths)
  pub each : (c : ℕ) → c < 256 → place_in f c from (records_at f s from) ≡ or_else_place (held_of starts widths c) (place_in f c at (records_at f s at))

-- The list that was filled with zeros.
zeroed : (starts z : List ℕ) → z ≡ take 0 starts ++ replicate (length starts - 0) 0 → z ≡ replicate (length starts) 0
zeroed starts z q =
    let n : length starts - 0 ≡ length starts = omega arith in
    q ∙ ap (λ (k : ℕ). replicate k 0) n

pub zeroed_long : (starts z : List ℕ) → z ≡ take 0 starts ++ replicate (length starts - 0) 0 → length z ≡ length starts
zeroed_long starts z q = ap length (zeroed starts z q) ∙ length-replicate (length starts) 0

module _ (f : Head) (s : List ℕ) (from : ℕ) where
  pub passed_none : (starts widths z : List ℕ) → z ≡ take 0 starts ++ replicate (length starts - 0) 0 → Walkable f s from → 0 < from → (256 ≤ length starts) × (256 ≤ length widths) → Passed f s from from z widths
  passed_none starts widths z q w b r =
      let e = zeroed starts z q in
      record {
        walk = w;
        behind = b;
        room = (omega (arith, r.0, zeroed_long starts z q), r.1);
        each =
            λ c l.
            sym (ap (λ (y : List ℕ). or_else_place (held_at (get_or y c 0) (get_or widths c 0)) (place_in f c from (records_at f s from))) e ∙
            ap (λ (p : ℕ). or_else_place (held_at p (get_or widths c 0)) (place_in f c from (records_at f s from))) (get_or-replicate (length starts) c 0 0 (omega (arith, r.0))) ∙
            ap (λ (x : Option Place). or_else_place x (place_in f c from (records_at f s from))) (held_none (get_or widths c 0)));
      }

  module _ (at : ℕ) (starts widths starts' widths' : List ℕ) (p : Passed f s from at starts widths) where
    pub passed_on : (r : Record) → Next f s at r → LetterNoted r.live r.code at r.width starts widths starts' widths' → Passed f s from (at + r.size) starts' widths'
    passed_on r x n =
        record {
          walk = walk_on f s at p.walk r x;
          behind = omega (arith, p.behind);
          room = (omega (arith, p.room.0, n.as_long.0), omega (arith, p.room.1, n.as_long.1));
          each = λ c l. p.each c l ∙ ap (or_else_place (held_of starts widths c)) (next c) ∙ step (held_of starts widths c) (place_in f c (at + r.size) (records_at f s (at + r.size))) (r.live && eqb r.code c) at r.width p.behind ∙ ap (λ (y : Option Place). or_else_place y (place_in f c (at + r.size) (records_at f s (at + r.size)))) (sym (n.each c l));
        }
      where
        next : (c : ℕ) → place_in f c at (records_at f s at) ≡ cond (r.live && eqb r.code c) (Some (record { at = at; width = r.width })) (place_in f c (at + r.size) (records_at f s (at + r.size)))
        next c = go (r.live && eqb r.code c) refl
          where
            go : (b : Bool) → (r.live && eqb r.code c) ≡ b → place_in f c at (records_at f s at) ≡ cond b (Some (record { at = at; width = r.width })) (place_in f c (at + r.size) (records_at f s (at + r.size)))
            go true e = place_here f s at r x c e
            go false e = place_next f s at r x c e

  module _ (at : ℕ) (starts widths : List ℕ) (p : Passed f s from at starts widths) where
    pub all_held : (rs : List (List ℕ)) → meaning s ≡ says f rs → from ≡ head_length f.version → record_list f (drop at s) ≡ list_ends true → Held f rs starts widths
    all_held rs m e z =
        record {
          room = p.room;
          each =
              λ c l.
              or_none (held_of starts widths c) ∙ ap (or_else_place (held_of starts widths c)) (sym (place_none f s at c true z)) ∙ sym (p.each c l) ∙ ap₂ (place_in f c) e (records_are s f rs m from e);
        }
