-- A walk over the records of a pack, one record at a time.
-- Assumes nothing.
use mathlib.Core.Path.{◌≡◌, refl, sym, ap, ◌∙◌}
use mathlib.Core.Bool.{Bool, true, false, cond, not, ◌&&◌, ◌||◌}
use mathlib.Core.List.{List, [], ◌∷◌}
use Prim.Native.Nat.{ℕ, ◌+◌, ◌-◌, ◌*◌, ◌≤◌, ◌<◌}
use native.Mathlib.Omega.{arith}
use native.Mathlib.Nat.{add-zero, zero-add, add_assoc}
use lib.Dec.{eqb}
use lib.ListN.{length, take, drop, length-drop}
use lib.Seq.{drop-drop}
use Rattle.ground.proofs.Runs.{rest-is}
use Rattle.ground.proofs.Tests.{clash}
use Rattle.records.specs.declared.Head.{Head}
use Rattle.records.specs.declared.Scan.TheVariants as scanned
use Rattle.records.specs.declared.Record.{Record}
use Rattle.records.specs.declared.Place.{Place}
use Rattle.records.specs.declared.Spot.{Spot}
use Rattle.records.specs.declared.Spot.TheVariants as spot
use Rattle.std.specs.Result.{result_ok}
use Rattle.std.specs.Prelude.{Some, None, is_some, Result, Ok, Err}
use Rattle.records.specs.Versions.{record_head_length}
use Rattle.records.specs.Records.{is_live, code_in, width_in, RecordList, list_ends, with_record, record_list, is_live_of, has_live, none_twice, live_count, is_free_of}
use Rattle.records.specs.Places.{place_in, spot_in}
use Rattle.records.specs.Steps.{record_at, scan_of, skim_of, Walkable, first_in, counted_from, soundness}
use Rattle.records.proofs.ListingLaws.{scan_record, scan_end, scan_damaged, skim_scan, skim_scan_end}

-- What the records from a place on are.
abbrev pub records_at : Head → List ℕ → ℕ → List (List ℕ)
records_at f s at = (record_list f (drop at s)).records

-- A record that stands at a place, with all that a walk needs of it.
pub record Next (f : Head) (s : List ℕ) (at : ℕ) (r : Record) : Type 0 where
  pub listed : record_list f (drop at s) ≡ with_record (take r.size (drop at s)) (record_list f (drop (at + r.size) s))
  pub is : record_at f (take r.size (drop at s)) ≡ r
  pub long : length (take r.size (drop at s)) ≡ r.size
  pub size_is : r.size ≡ record_head_length f.version + f.height * r.width
  pub some : 0 < r.size
  pub inside : at ≤ length s → at + r.size ≤ length s

-- What is met where the live record of a code is wanted, and where a free one of a width is.
abbrev pub has_code : ℕ → Record → Bool
has_code code r = r.live && eqb r.code code

abbrev pub has_width : ℕ → Record → Bool
has_width width r = not r.live && eqb r.width width

pub first_place : (f : Head) (code at : ℕ) (rs : List (List ℕ)) → result_ok (first_in f (has_code code) at rs) ≡ place_in f code at rs
unfolding first_in place_in is_live_of
first_place f code at [] = refl
first_place f code at (r ∷ rs) = go (is_live r && eqb (code_in r) code) (first_place f code (at + length r) rs)
  where
    go : (b : Bool) → result_ok (first_in f (has_code code) (at + length r) rs) ≡ place_in f code (at + length r) rs → result_ok (cond b (Ok (record { at = at; width = width_in f r })) (first_in f (has_code code) (at + length r) rs)) ≡ cond b (Some (record { at = at; width = width_in f r })) (place_in f code (at + length r) rs)
    go true e = refl
    go false e = e

abbrev pub spot_of : Result Place ℕ → Spot
spot_of (Ok p) = spot.Free p.at
spot_of (Err at) = spot.Tail at

pub first_spot : (f : Head) (width at : ℕ) (rs : List (List ℕ)) → spot_of (first_in f (has_width width) at rs) ≡ spot_in f width at rs
unfolding first_in spot_in is_free_of
first_spot f width at [] = refl
first_spot f width at (r ∷ rs) = go (not (is_live r) && eqb (width_in f r) width) (first_spot f width (at + length r) rs)
  where
    go : (b : Bool) → spot_of (first_in f (has_width width) (at + length r) rs) ≡ spot_in f width (at + length r) rs → spot_of (cond b (Ok (record { at = at; width = width_in f r })) (first_in f (has_width width) (at + length r) rs)) ≡ cond b (spot.Free at) (spot_in f width (at + length r) rs)
    go true e = refl
    go false e = e

module _ (f : Head) (s : List ℕ) (at : ℕ) where
  pub next_at_lem : (r : Record) → scanned.Record r ≡ scan_of f (take (length s - at) (drop at s)) → Next f s at r
  next_at_lem r e =
      let x = scan_record f (drop at s) r (e ∙ ap (scan_of f) (rest-is s at)) in
      record {
        listed = x.listed ∙ ap (λ (l : List ℕ). with_record (take r.size (drop at s)) (record_list f l)) (drop-drop r.size at s);
        is = x.is;
        long = x.long;
        size_is = x.size_is;
        some = x.some;
        inside = λ h. omega (arith, x.inside, length-drop at s);
      }

  pub end-at : scanned.End ≡ scan_of f (take (length s - at) (drop at s)) → record_list f (drop at s) ≡ list_ends true
  end-at e = scan_end f (drop at s) (e ∙ ap (scan_of f) (rest-is s at))

  pub damaged-at : scanned.Damaged ≡ scan_of f (take (length s - at) (drop at s)) → record_list f (drop at s) ≡ list_ends false
  damaged-at e = scan_damaged f (drop at s) (e ∙ ap (scan_of f) (rest-is s at))

  -- A walk over the heads alone.
  module _ (w : Walkable f s at) where
    part-whole : (record_list f (take (length s - at) (drop at s))).whole ≡ true
    part-whole = ap (λ (l : List ℕ). (record_list f l).whole) (rest-is s at) ∙ w.whole

    pub walk_part : (f.height ≤ 32) × ((record_list f (take (length s - at) (drop at s))).whole ≡ true)
    walk_part = (w.low, part-whole)

    pub skim_at : (r : Record) → Some r ≡ skim_of f (take (length s - at) (drop at s)) → Next f s at r
    skim_at r e = next_at_lem r (skim_scan f (take (length s - at) (drop at s)) r part-whole e)

    pub skim_end : None ≡ skim_of f (take (length s - at) (drop at s)) → record_list f (drop at s) ≡ list_ends true
    skim_end e = end-at (skim_scan_end f (take (length s - at) (drop at s)) e)

    pub walk_on : (r : Record) → Next f s at r → Walkable f s (at + r.size)
    walk_on r x = record { low = w.low; inside = x.inside w.inside; whole = sym (ap (λ (y : RecordList). y.whole) x.listed) ∙ w.whole }

  module _ (r : Record) (x : Next f s at r) where
    bytes : List ℕ
    bytes = take r.size (drop at s)

    more : List (List ℕ)
    more = records_at f s (at + r.size)

    -- The search for a record.
    first_step : (p : Record → Bool) → first_in f p at (records_at f s at) ≡ cond (p r) (Ok (record { at = at; width = r.width })) (first_in f p (at + r.size) more)
    unfolding first_in bytes more
    first_step p =
        ap (λ (y : RecordList). first_in f p at y.records) x.listed ∙
        ap (λ (y : Record). cond (p y) (Ok (record { at = at; width = y.width })) (first_in f p (at + length bytes) more)) x.is ∙
        ap (λ (b : ℕ). cond (p r) (Ok (record { at = at; width = r.width })) (first_in f p (at + b) more)) x.long

    pub first_here : (p : Record → Bool) → p r ≡ true → first_in f p at (records_at f s at) ≡ Ok (record { at = at; width = r.width })
    first_here p e = first_step p ∙ ap (λ (b : Bool). cond b (Ok (record { at = at; width = r.width })) (first_in f p (at + r.size) more)) e

    pub first_next : (p : Record → Bool) → p r ≡ false → first_in f p at (records_at f s at) ≡ first_in f p (at + r.size) (records_at f s (at + r.size))
    unfolding more
    first_next p e = first_step p ∙ ap (λ (b : Bool). cond b (Ok (record { at = at; width = r.width })) (first_in f p (at + r.size) more)) e

    -- so the search for the live record of a code
    pub place_here : (code : ℕ) → has_code code r ≡ true → place_in f code at (records_at f s at) ≡ Some (record { at = at; width = r.width })
    place_here code e = sym (first_place f code at (records_at f s at)) ∙ ap result_ok (first_here (has_code code) e)

    pub place_next : (code : ℕ) → has_code code r ≡ false → place_in f code at (records_at f s at) ≡ place_in f code (at + r.size) (records_at f s (at + r.size))
    place_next code e = sym (first_place f code at (records_at f s at)) ∙ ap result_ok (first_next (has_code code) e) ∙ first_place f code (at + r.size) (records_at f s (at + r.size))

    -- The count of the live records, if all are good.
    pub counted_next : (n : ℕ) → counted_from n (record_list f (drop at s)) ≡ counted_from (n + cond r.live 1 0) (record_list f (drop (at + r.size) s))
    unfolding counted_from live_count bytes more
    counted_next n =
        let w = (record_list f (drop (at + r.size) s)).whole in
        ap (counted_from n) x.listed ∙
        ap (λ (y : Record). cond w (Some (n + (cond y.live 1 0 + live_count more))) None) x.is ∙
        ap (λ (b : ℕ). cond w (Some b) None) (sym (add_assoc n (cond r.live 1 0) (live_count more)))

    -- The test for repeated codes.
    twice_step : none_twice (records_at f s at) ≡ (not (r.live && has_live r.code more) && none_twice more)
    unfolding none_twice bytes more
    twice_step =
        ap (λ (y : RecordList). none_twice y.records) x.listed ∙
        ap (λ (y : Record). not (y.live && has_live y.code more) && none_twice more) x.is

    pub twice_here : (r.live && has_live r.code (records_at f s (at + r.size))) ≡ true → none_twice (records_at f s at) ≡ false
    unfolding more
    twice_here e = twice_step ∙ ap (λ (b : Bool). not b && none_twice more) e

    pub twice_next : (r.live && has_live r.code (records_at f s (at + r.size))) ≡ false → none_twice (records_at f s at) ≡ none_twice (records_at f s (at + r.size))
    unfolding more
    twice_next e = twice_step ∙ ap (λ (b : Bool). not b && none_twice more) e

  pub first_none : (p : Record → Bool) (b : Bool) → record_list f (drop at s) ≡ list_ends b → first_in f p at (records_at f s at) ≡ Err at
  unfolding first_in
  first_none p b e = ap (λ (x : RecordList). first_in f p at x.records) e

  pub place_none : (code : ℕ) (b : Bool) → record_list f (drop at s) ≡ list_ends b → place_in f code at (records_at f s at) ≡ None
  place_none code b e = sym (first_place f code at (records_at f s at)) ∙ ap result_ok (first_none (has_code code) b e)

  pub twice_none : (b : Bool) → record_list f (drop at s) ≡ list_ends b → none_twice (records_at f s at) ≡ true
  unfolding none_twice
  twice_none b e = ap (λ (x : RecordList). none_twice x.records) e

  pub counted-end : (n : ℕ) → record_list f (drop at s) ≡ list_ends true → counted_from n (record_list f (drop at s)) ≡ Some n
  unfolding counted_from live_count
  counted-end n e = ap (counted_from n) e ∙ ap Some (add-zero n)

  pub counted-damaged : (n : ℕ) → record_list f (drop at s) ≡ list_ends false → counted_from n (record_list f (drop at s)) ≡ None
  unfolding counted_from
  counted-damaged n e = ap (counted_from n) e

-- The test of all records is the count, where no code repeats.
pub record Countable (n : ℕ) (x : RecordList) : Type 0 where
  pub whole : x.whole ≡ true
  pub count : n ≡ live_count x.records

module _ (x : RecordList) where
  pub counted-whole : (n : ℕ) → Some n ≡ counted_from 0 x → Countable n x
  unfolding counted_from
  counted-whole n e = go x.whole refl e
    where
      go : (w : Bool) → x.whole ≡ w → Some n ≡ cond w (Some (0 + live_count x.records)) None → Countable n x
      go true p e = let k : n ≡ 0 + live_count x.records = cc in record { whole = p; count = k ∙ zero-add (live_count x.records) }
      go false p e = clash (cc)

  pub verdict_broken : None ≡ counted_from 0 x → None ≡ soundness x
  unfolding counted_from soundness
  verdict_broken e = go x.whole (none_twice x.records) e
    where
      go : (w b : Bool) → None ≡ cond w (Some (0 + live_count x.records)) None → None ≡ cond (w && b) (Some (live_count x.records)) None
      go true b e = clash (cc)
      go false b e = refl

  pub verdict-sound : (n : ℕ) → Countable n x → none_twice x.records ≡ true → Some n ≡ soundness x
  unfolding soundness
  verdict-sound n k e = ap Some k.count ∙ sym (rw (k.whole, e))

  pub verdict_twice : (n : ℕ) → Countable n x → none_twice x.records ≡ false → None ≡ soundness x
  unfolding soundness
  verdict_twice n k e = sym (rw (k.whole, e))

-- A place is found exactly where there is such a live record.
pub place-has : (f : Head) (code at : ℕ) (rs : List (List ℕ)) → is_some (place_in f code at rs) ≡ has_live code rs
unfolding place_in has_live
place-has f code at [] = refl
place-has f code at (r ∷ rs) = go (is_live_of code r) (place-has f code (at + length r) rs)
  where
    go : (b : Bool) → is_some (place_in f code (at + length r) rs) ≡ has_live code rs → is_some (cond b (Some (record { at = at; width = width_in f r })) (place_in f code (at + length r) rs)) ≡ (b || has_live code rs)
    go true e = refl
    go false e = e

pub yes_and : (l b h : Bool) → l ≡ true → b ≡ h → b ≡ (l && h)
yes_and l b h e q = rw e q

pub count_le : (n at size : ℕ) (live : Bool) → n ≤ at → 0 < size → n + cond live 1 0 ≤ at + size
count_le n at size true h k = omega arith
count_le n at size false h k = omega arith
