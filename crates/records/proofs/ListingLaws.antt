-- A listing is its first record and then what is listed behind it.
-- Assumes nothing.
use mathlib.Core.Path.{◌≡◌, refl, sym, ap, ◌∙◌, subst}
use mathlib.Core.Bool.{Bool, true, false, cond, ◌&&◌}
use mathlib.Core.List.{List, [], ◌∷◌, ◌++◌}
use Prim.Native.Nat.{ℕ, zero, suc, ◌+◌, ◌-◌, ◌*◌, ◌≤◌, ◌<◌}
use native.Mathlib.Omega.{arith}
use lib.Dec.{eqb, leb}
use lib.ListN.{length, take, drop, get_or, take-append-drop, length-drop, get_or-append}
use lib.Seq.{take-append-le, drop-append-le, length-take-le}
use borrow.Author.Tests.{leb-true, le-leb}
use Rattle.ground.specs.Runs.{all}
use Rattle.ground.proofs.Tests.{and_left, and_right, and_both, clash}
use Rattle.areas.specs.Numbers.{number_of}
use Rattle.records.specs.declared.Head.{Head}
use Rattle.records.specs.declared.Record.{Record}
use Rattle.records.specs.declared.Scan.TheVariants as scanned
use Rattle.std.specs.Prelude.{Some, None}
use Rattle.records.specs.Versions.{width_length, record_head_length}
use Rattle.rows.specs.Rows.{legal_byte}
use Rattle.records.specs.Records.{is_zero, is_live, code_in, width_in, rows_in, size_in, good_fields, good_record, RecordList, list_ends, with_record, records_from, record_list}
use Rattle.records.specs.Steps.{record_at, scan_of, skim_of}
use Rattle.records.proofs.VersionLaws.{width_length_low}

module _ (f : Head) where
  skip : (k : ℕ) (t : List ℕ) → records_from f k t ≡ record_list f (drop k t)
  unfolding records_from
  skip zero t = refl
  skip (suc k) [] = refl
  skip (suc k) (b ∷ bs) = skip k bs

  size-some : (t : List ℕ) → 6 ≤ size_in f t
  unfolding size_in
  size-some t = omega (arith, width_length_low f.version)

  pub listing_step : (t : List ℕ) →
      record_list f t ≡ cond (all is_zero t) (list_ends true) (cond (good_record f t) (with_record (take (size_in f t) t) (record_list f (drop (size_in f t) t))) (list_ends false))
  unfolding records_from all
  listing_step [] = refl
  listing_step (b ∷ bs) =
      let n = size_in f (b ∷ bs) in
      let e : n ≡ suc (n - 1) = omega (arith, size-some (b ∷ bs)) in
      let g : drop (n - 1) bs ≡ drop n (b ∷ bs) = sym (ap (λ (j : ℕ). drop j (b ∷ bs)) e) in
      ap (λ (x : RecordList). cond (all is_zero (b ∷ bs)) (list_ends true) (cond (good_record f (b ∷ bs)) (with_record (take n (b ∷ bs)) x) (list_ends false)))
      (skip (n - 1) bs ∙ ap (record_list f) g)

  -- A good record, in parts.
  pub record Fine (t : List ℕ) : Type 0 where
    pub head : record_head_length f.version ≤ length t
    pub fields : good_fields f.version (get_or t 0 0) (code_in t) (width_in f t) ≡ true
    pub size : size_in f t ≤ length t
    pub rows : all (legal_byte f.hardblank.0) (rows_in f t) ≡ true

  pub fine : (t : List ℕ) → good_record f t ≡ true → Fine t
  unfolding good_record
  fine t e =
      let a = leb (record_head_length f.version) (length t) in
      let b = good_fields f.version (get_or t 0 0) (code_in t) (width_in f t) in
      let c = leb (size_in f t) (length t) in
      let d = all (legal_byte f.hardblank.0) (rows_in f t) in
      let p = and_right a (b && (c && d)) e in
      let q = and_right b (c && d) p in
      record {
        head = leb-true _ _ (and_left a (b && (c && d)) e);
        fields = and_left b (c && d) p;
        size = leb-true _ _ (and_left c d q);
        rows = and_right c d q;
      }

  pub good : (t : List ℕ) → Fine t → good_record f t ≡ true
  unfolding good_record
  good t h = and_both _ _ (le-leb _ _ h.head) (and_both _ _ h.fields (and_both _ _ (le-leb _ _ h.size) h.rows))

  -- A list that is whole begins with zeros only or with a good record.
  pub whole_good : (t : List ℕ) → (record_list f t).whole ≡ true → all is_zero t ≡ false → good_record f t ≡ true
  whole_good t w z =
      let n = size_in f t in
      let e : record_list f t ≡ cond (good_record f t) (with_record (take n t) (record_list f (drop n t))) (list_ends false) = listing_step t ∙ rw z in
      go (good_record f t) (sym w ∙ ap (λ (x : RecordList). x.whole) e)
    where
      go : (g : Bool) → true ≡ (cond g (with_record (take (size_in f t) t) (record_list f (drop (size_in f t) t))) (list_ends false)).whole → g ≡ true
      go true e = refl
      go false e = sym e

  -- The fields of a record stay when something stands behind it.
  module _ (r rest : List ℕ) (h : record_head_length f.version ≤ length r) where
    part : (a n : ℕ) → a + n ≤ length r → take n (drop a (r ++ rest)) ≡ take n (drop a r)
    part a n g = ap (take n) (drop-append-le a r rest (omega arith)) ∙ take-append-le n (drop a r) rest (omega (arith, length-drop a r))

    pub status_behind : get_or (r ++ rest) 0 0 ≡ get_or r 0 0
    status_behind = get_or-append r rest 0 0 (omega arith)

    pub live-behind : is_live (r ++ rest) ≡ is_live r
    unfolding is_live
    live-behind = ap (λ (b : ℕ). eqb b 1) status_behind

    pub code-behind : code_in (r ++ rest) ≡ code_in r
    unfolding code_in
    code-behind = ap number_of (part 1 4 (omega (arith, width_length_low f.version)))

    pub width-behind : width_in f (r ++ rest) ≡ width_in f r
    unfolding width_in
    width-behind = ap number_of (part 5 (width_length f.version) h)

    pub size-behind : size_in f (r ++ rest) ≡ size_in f r
    unfolding size_in
    size-behind = ap (λ (w : ℕ). record_head_length f.version + f.height * w) width-behind

    pub rows_behind : size_in f r ≤ length r → rows_in f (r ++ rest) ≡ rows_in f r
    unfolding rows_in size_in
    rows_behind g = ap (λ (w : ℕ). take (f.height * w) (drop (record_head_length f.version) (r ++ rest))) width-behind ∙ part (record_head_length f.version) (f.height * width_in f r) g

  -- What the fields of a list's first bytes say.
  module _ (t : List ℕ) (m : ℕ) (h : record_head_length f.version ≤ m) (g : m ≤ length t) where
    whole_is : take m t ++ drop m t ≡ t
    whole_is = take-append-drop m t

    head_in : record_head_length f.version ≤ length (take m t)
    head_in = omega (arith, length-take-le m t g)

    pub status_front : get_or (take m t) 0 0 ≡ get_or t 0 0
    status_front = sym (status_behind (take m t) (drop m t) head_in) ∙ ap (λ (l : List ℕ). get_or l 0 0) whole_is

    pub live_front : is_live (take m t) ≡ is_live t
    live_front = sym (live-behind (take m t) (drop m t) head_in) ∙ ap is_live whole_is

    pub code_front : code_in (take m t) ≡ code_in t
    code_front = sym (code-behind (take m t) (drop m t) head_in) ∙ ap code_in whole_is

    pub width_front : width_in f (take m t) ≡ width_in f t
    width_front = sym (width-behind (take m t) (drop m t) head_in) ∙ ap (width_in f) whole_is

    pub record_front : record_at f (take m t) ≡ record_at f t
    unfolding size_in
    record_front =
        ap (λ (j : Bool). record_of j (code_in (take m t)) (width_in f (take m t))) live_front ∙
        ap (λ (j : ℕ). record_of (is_live t) j (width_in f (take m t))) code_front ∙
        ap (record_of (is_live t) (code_in t)) width_front
      where
        record_of : Bool → ℕ → ℕ → Record
        record_of l c w = record { live = l; code = c; width = w; size = record_head_length f.version + f.height * w }

  -- A record that a scan finds.
  pub record Stands (t : List ℕ) (r : Record) : Type 0 where
    pub listed : record_list f t ≡ with_record (take r.size t) (record_list f (drop r.size t))
    pub is : record_at f (take r.size t) ≡ r
    pub size_is : r.size ≡ record_head_length f.version + f.height * r.width
    pub long : length (take r.size t) ≡ r.size
    pub inside : r.size ≤ length t
    pub some : 0 < r.size

  stands : (t : List ℕ) → all is_zero t ≡ false → good_record f t ≡ true → Stands t (record_at f t)
  unfolding size_in
  stands t z g =
      let h = fine t g in
      let m = size_in f t in
      let l : record_head_length f.version ≤ m = omega arith in
      record {
        listed = listing_step t ∙ rw (z, g);
        is = record_front t m l h.size;
        size_is = refl;
        long = length-take-le m t h.size;
        inside = h.size;
        some = omega (arith, size-some t);
      }

  pub scan_record : (t : List ℕ) (r : Record) → scanned.Record r ≡ scan_of f t → Stands t r
  unfolding scan_of
  scan_record t r e = go (all is_zero t) refl (good_record f t) refl e
    where
      go : (z : Bool) → all is_zero t ≡ z → (g : Bool) → good_record f t ≡ g → scanned.Record r ≡ cond z scanned.End (cond g (scanned.Record (record_at f t)) scanned.Damaged) → Stands t r
      go true p g q e = clash (cc)
      go false p false q e = clash (cc)
      go false p true q e = let k : record_at f t ≡ r = cc in subst (Stands t) k (stands t p q)

  pub scan_end : (t : List ℕ) → scanned.End ≡ scan_of f t → record_list f t ≡ list_ends true
  unfolding scan_of
  scan_end t e = listing_step t ∙ go (all is_zero t) (good_record f t) (with_record (take (size_in f t) t) (record_list f (drop (size_in f t) t))) e
    where
      go : (z g : Bool) (x : RecordList) → scanned.End ≡ cond z scanned.End (cond g (scanned.Record (record_at f t)) scanned.Damaged) → cond z (list_ends true) (cond g x (list_ends false)) ≡ list_ends true
      go true g x e = refl
      go false true x e = clash (cc)
      go false false x e = clash (cc)

  pub scan_damaged : (t : List ℕ) → scanned.Damaged ≡ scan_of f t → record_list f t ≡ list_ends false
  unfolding scan_of
  scan_damaged t e = listing_step t ∙ go (all is_zero t) (good_record f t) (with_record (take (size_in f t) t) (record_list f (drop (size_in f t) t))) e
    where
      go : (z g : Bool) (x : RecordList) → scanned.Damaged ≡ cond z scanned.End (cond g (scanned.Record (record_at f t)) scanned.Damaged) → cond z (list_ends true) (cond g x (list_ends false)) ≡ list_ends false
      go true g x e = clash (cc)
      go false true x e = clash (cc)
      go false false x e = refl

  -- What a skim finds in a list that is whole is what a scan finds.
  pub skim_scan : (t : List ℕ) (r : Record) → (record_list f t).whole ≡ true → Some r ≡ skim_of f t → scanned.Record r ≡ scan_of f t
  unfolding skim_of scan_of
  skim_scan t r w e = go (all is_zero t) refl e
    where
      go : (z : Bool) → all is_zero t ≡ z → Some r ≡ cond z None (Some (record_at f t)) → scanned.Record r ≡ cond z scanned.End (cond (good_record f t) (scanned.Record (record_at f t)) scanned.Damaged)
      go true p e = clash (cc)
      go false p e =
          let q : scanned.Record r ≡ scanned.Record (record_at f t) = cc in
          q ∙ sym (rw (whole_good t w p))

  pub skim_scan_end : (t : List ℕ) → None ≡ skim_of f t → scanned.End ≡ scan_of f t
  unfolding skim_of scan_of
  skim_scan_end t e = go (all is_zero t) e
    where
      go : (z : Bool) → None ≡ cond z None (Some (record_at f t)) → scanned.End ≡ cond z scanned.End (cond (good_record f t) (scanned.Record (record_at f t)) scanned.Damaged)
      go true e = refl
      go false e = clash (cc)
