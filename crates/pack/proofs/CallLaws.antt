-- The answers of the calls, case by case.
-- Assumes nothing.
use mathlib.Core.Path.{◌≡◌, refl, sym, ap, ap₂, ◌∙◌}
use mathlib.Core.Bool.{Bool, true, false, cond, not, ◌&&◌, ◌||◌}
use mathlib.Core.List.{List, [], ◌++◌, append_assoc}
use Prim.Native.Nat.{ℕ, ◌+◌, ◌-◌, ◌*◌, ◌≤◌, ◌<◌}
use native.Mathlib.Omega.{arith}
use native.Mathlib.Nat.{mul-le-mul_right}
use lib.Dec.{eqb, leb}
use lib.ListN.{length, take, drop, get_or, set, length-set, length-append, length-replicate, replicate-append-replicate}
use denote.Ref.{Bor}
use borrow.Author.Tests.{eq-eqb, ne_eqb, le-leb, lt-leb, leb-true, eqb-true}
use Rattle.ground.specs.Area.{zeros, padded}
use Rattle.ground.specs.Runs.{all, joined}
use Rattle.ground.specs.Refusals.{refusal, bad_shape, damaged_pack, code_present, code_absent, no_room}
use Rattle.ground.specs.declared.refusals.Refusal.{Refusal}
use Rattle.ground.proofs.Tests.{and_left, and_right, clash}
use Rattle.areas.specs.Laid.{laid}
use Rattle.areas.proofs.LaidLaws.{laid_parts, length-laid}
use Rattle.records.specs.declared.Head.{Head}
use Rattle.records.specs.declared.Place.{Place}
use Rattle.records.specs.declared.Spot.TheVariants.{Free, Tail}
use Rattle.records.specs.Versions.{head_length, record_head_length, max_width}
use Rattle.rows.specs.Rows.{legal_byte}
use Rattle.records.specs.Records.{minus_one, has_live, live_count}
use Rattle.records.specs.Places.{place_in, spot_in}
use Rattle.records.proofs.VersionLaws.{max_width_high}
use Rattle.records.proofs.WalkLaws.{records_at, place-has}
use Rattle.edits.specs.Changes.{new_record, removed, placed, kept}
use Rattle.edits.proofs.WriteLaws.{length_new}
use Rattle.edits.proofs.PlaceLaws.{place-removed, place-live, spot_placed, free-inside, spot_free, AtTail, spot_tail}
use Rattle.heads.specs.declared.Opened.{Opened}
use Rattle.heads.specs.Pack.{Pack, says, damaged, meaning, remade, opened_by}
use Rattle.std.specs.Prelude.{Option, Some, None, is_some, ok_or, Result, Ok, Err}
use Rattle.std.specs.Result.{IsErrAnd}
use Rattle.std.proofs.lemmas.Result.{err_from_is_err_and}
use Rattle.pack.specs.declared.Located.{Located}
use Rattle.pack.specs.Calls.{opened_or_refused, check_told, located_at, located_in, found_at, find_told, rows_part, rows_told, LiesIn, Changes, removal, good_letter, has_room, insertion, compaction}
use Rattle.heads.proofs.FindLaws.{records_are, place_in_lem}
use Rattle.heads.proofs.OpenLaws.{Opens, opens_of, Told, pack_wholes, pack_bytes, head-size, pack_fits, remade-is}

-- What `ok_or` makes of a place.
pub ok_place : (x : Option Place) (r : Refusal) (p : Place) → Ok p ≡ ok_or x r → Some p ≡ x
ok_place (Some q) r p e = let k : p ≡ q = cc in ap Some k
ok_place None r p e = clash (cc)

pub err_place : (x : Option Place) (r b : Refusal) → Err b ≡ ok_or x r → (b ≡ r) × (None ≡ x)
err_place (Some q) r b e = clash (cc)
err_place None r b e = let k : b ≡ r = cc in (k, refl)

-- What the exit of a `?` returns.
pub err_is : {T : Type 0} (r : Result T Refusal) (e : Refusal) → IsErrAnd r (λ x. x ≡ e) → r ≡ Err e
err_is r e h = let p = err_from_is_err_and r h in p.1 ∙ ap Err p.2

-- What a pack that is opened says, or that it is damaged.
pub opened_is : (p : Pack) → ok_or (opened_by p) (refusal damaged_pack 0) ≡ opened_or_refused p
unfolding opened_by
opened_is (says f rs) = refl
opened_is damaged = refl

pub opened_told : (s : List ℕ) (o : Opened) → Ok o ≡ opened_or_refused (meaning s) → Told s o.head o.live
opened_told s o e = go (meaning s) refl e
  where
    go : (p : Pack) → meaning s ≡ p → Ok o ≡ opened_or_refused p → Told s o.head o.live
    go (says f rs) q e =
        let k : o ≡ (record { head = f; live = live_count rs }) = cc in
        record { records = rs; says_so = q ∙ ap (λ (h : Head). says h rs) (sym (ap (λ (x : Opened). x.head) k)); count = ap (λ (x : Opened). x.live) k }
    go damaged q e = clash (cc)

-- A pack that is damaged.
module _ (s : List ℕ) (r : Refusal) (g : Err r ≡ opened_or_refused (meaning s)) where
  e : meaning s ≡ damaged
  e = go (meaning s) refl g
    where
      go : (p : Pack) → meaning s ≡ p → Err r ≡ opened_or_refused p → meaning s ≡ damaged
      go (says f rs) q h = clash (cc)
      go damaged q h = q

  w : r ≡ refusal damaged_pack 0
  w = let k : Err r ≡ opened_or_refused damaged = g ∙ ap opened_or_refused e in cc

  pub check_damaged : Err r ≡ check_told (meaning s)
  unfolding check_told
  check_damaged = ap Err w ∙ sym (ap check_told e)

  pub locate_damaged : (code : ℕ) → Err r ≡ located_in (meaning s) code
  unfolding located_in
  locate_damaged code = ap Err w ∙ sym (ap (λ (p : Pack). located_in p code) e)

  pub remove_damaged : (code : ℕ) → Changes (removal (meaning s) code) s (Err r) s
  unfolding removal
  remove_damaged code = rw (e, w) (record { answer = refl; bytes = refl })

  pub put_damaged : (code width : ℕ) (rows : List ℕ) → Changes (insertion (meaning s) (length s) code width rows) s (Err r) s
  unfolding insertion
  put_damaged code width rows = rw (e, w) (record { answer = refl; bytes = refl })

  pub compact_damaged : Changes (compaction (meaning s)) s (Err r) s
  unfolding compaction
  compact_damaged = rw (e, w) (record { answer = refl; bytes = refl })

-- A pack that says a head and records.
module _ (s : List ℕ) (f : Head) (rs : List (List ℕ)) (m : meaning s ≡ says f rs) where
  o : Opens s f rs
  o = opens_of s f rs m

  -- Find.
  pub locate_bad : (code : ℕ) → code ≡ minus_one → (r : Refusal) → r ≡ refusal bad_shape 0 → Err r ≡ located_in (meaning s) code
  unfolding located_in
  locate_bad code e r w = ap Err w ∙ sym (ap (λ (p : Pack). located_in p code) m ∙ rw (eq-eqb code minus_one e))

  pub locate_place : (code : ℕ) → (code ≡ minus_one → ⊥) → (x : Option Place) → x ≡ place_in f code (head_length f.version) rs → located_at f x ≡ located_in (meaning s) code
  unfolding located_in
  locate_place code n x e = sym (ap (λ (p : Pack). located_in p code) m ∙ rw (ne_eqb code minus_one n) (ap (located_at f) (sym e)))

  -- Remove.
  pub remove_bad : (code : ℕ) → code ≡ minus_one → (r : Refusal) → r ≡ refusal bad_shape 0 → Changes (removal (meaning s) code) s (Err r) s
  unfolding removal
  remove_bad code e r w = rw (w, m, eq-eqb code minus_one e) (record { answer = refl; bytes = refl })

  pub remove_absent : (code : ℕ) → (code ≡ minus_one → ⊥) → None ≡ place_in f code (head_length f.version) rs → (r : Refusal) → r ≡ refusal code_absent 0 → Changes (removal (meaning s) code) s (Err r) s
  unfolding removal
  remove_absent code n e r w =
      let h : has_live code rs ≡ false = sym (place-has f code (head_length f.version) rs) ∙ ap is_some (sym e) in
      rw (w, m, ne_eqb code minus_one n, h) (record { answer = refl; bytes = refl })

  -- "Remove changes only the 1 to 2": one byte, at the record's place.
  pub removed-bytes : (code : ℕ) (p : Place) → Some p ≡ place_in f code (head_length f.version) rs → set s p.at 2 ≡ remade s (removed code rs)
  removed-bytes code p e =
      let h = head_length f.version in
      let k = length s - h - length (joined rs) in
      remade-is s f rs o (set s p.at 2) (removed code rs) k (length-set s p.at 2)
      (ap (λ (l : List ℕ). set l p.at 2) (pack_bytes s f rs o) ∙ place-removed f code p (take h s) (zeros k) (pack_wholes s f rs o) h (sym (head-size s f rs o)) (sym e))

  pub removed_was : (code : ℕ) (p : Place) → Some p ≡ place_in f code (head_length f.version) rs → get_or s p.at 0 ≡ 1
  removed_was code p e =
      let h = head_length f.version in
      let k = length s - h - length (joined rs) in
      ap (λ (l : List ℕ). get_or l p.at 0) (pack_bytes s f rs o) ∙ place-live f code p (take h s) (zeros k) (pack_wholes s f rs o) h (sym (head-size s f rs o)) (sym e)

  pub remove_done : (code : ℕ) (p : Place) → (code ≡ minus_one → ⊥) → Some p ≡ place_in f code (head_length f.version) rs → Changes (removal (meaning s) code) s (Ok tt) (set s p.at 2)
  unfolding removal
  remove_done code p n e =
      let h : has_live code rs ≡ true = sym (place-has f code (head_length f.version) rs) ∙ ap is_some (sym e) in
      rw (m, ne_eqb code minus_one n, h) (record { answer = refl; bytes = removed-bytes code p e })

  -- Put.
  module _ (code width : ℕ) (rows : List ℕ) where
    pub put_bad : good_letter f code width rows ≡ false → (r : Refusal) → r ≡ refusal bad_shape 0 → Changes (insertion (meaning s) (length s) code width rows) s (Err r) s
    unfolding insertion
    put_bad e r w = rw (w, m, e) (record { answer = refl; bytes = refl })

    module _ (g : good_letter f code width rows ≡ true) where
      new : List ℕ
      new = new_record f.version code width rows

      rows_long : length rows ≡ f.height * width
      unfolding good_letter
      rows_long =
          eqb-true (length rows) (f.height * width)
          (and_left (eqb (length rows) (f.height * width)) (all (legal_byte f.hardblank.0) rows)
          (and_right (leb width (max_width f.version)) (eqb (length rows) (f.height * width) && all (legal_byte f.hardblank.0) rows)
          (and_right (not (eqb code minus_one)) (leb width (max_width f.version) && (eqb (length rows) (f.height * width) && all (legal_byte f.hardblank.0) rows)) g)))

      new_long : length new ≡ record_head_length f.version + f.height * width
      unfolding new
      new_long = length_new f.version code width rows ∙ ap (λ (j : ℕ). record_head_length f.version + j) rows_long

      pub put_present : has_live code rs ≡ true → (r : Refusal) → r ≡ refusal code_present 0 → Changes (insertion (meaning s) (length s) code width rows) s (Err r) s
      unfolding insertion
      put_present e r w = rw (w, m, g, e) (record { answer = refl; bytes = refl })

      module _ (a : has_live code rs ≡ false) where
        put_done : has_room f (length s) width rs ≡ true → (s' : List ℕ) → s' ≡ remade s (placed f width (new_record f.version code width rows) rs) → Changes (insertion (meaning s) (length s) code width rows) s (Ok tt) s'
        unfolding insertion
        put_done r s' b = rw (m, g, a, r) (record { answer = refl; bytes = b })

        pub free-room : (p : ℕ) → Free p ≡ spot_in f width (head_length f.version) rs → p + (record_head_length f.version + length rows) ≤ length s
        free-room p e = omega (arith, free-inside f width new new_long p (head_length f.version) (pack_wholes s f rs o) (sym e), pack_fits s f rs o, new_long, rows_long)

        pub put_free : (p : ℕ) → Free p ≡ spot_in f width (head_length f.version) rs → Changes (insertion (meaning s) (length s) code width rows) s (Ok tt) (laid p (new_record f.version code width rows) s)
        unfolding has_room new
        put_free p e =
            let h = head_length f.version in
            let k = length s - h - length (joined rs) in
            let l = length-laid p (new_record f.version code width rows) s (omega (arith, free-room p e, length_new f.version code width rows)) in
            put_done (rw (spot_free f width p h rs (sym e))) (laid p (new_record f.version code width rows) s)
            (remade-is s f rs o (laid p (new_record f.version code width rows) s) (placed f width (new_record f.version code width rows) rs) k l
            (ap (laid p (new_record f.version code width rows)) (pack_bytes s f rs o) ∙
            spot_placed f width (new_record f.version code width rows) new_long p (take h s) (zeros k) (pack_wholes s f rs o) h (sym (head-size s f rs o)) (sym e)))

        module _ (p : ℕ) (e : Tail p ≡ spot_in f width (head_length f.version) rs) where
          at_tail : AtTail f width p (head_length f.version) (new_record f.version code width rows) rs
          at_tail = spot_tail f width p (head_length f.version) (new_record f.version code width rows) rs (sym e)

          pub tail-inside : p ≤ length s
          tail-inside = omega (arith, at_tail.place, pack_fits s f rs o)

          pub tail-room : has_room f (length s) width rs ≡ true → p + (record_head_length f.version + length rows) ≤ length s
          unfolding has_room
          tail-room r =
              let n = head_length f.version + length (joined rs) + (record_head_length f.version + f.height * width) in
              let q : leb n (length s) ≡ true = sym (ap (λ (b : Bool). b || leb n (length s)) at_tail.none_free) ∙ r in
              omega (arith, leb-true n (length s) q, at_tail.place, rows_long)

          pub put_full : length s - p < record_head_length f.version + length rows → (b : Refusal) → b ≡ refusal no_room 0 → Changes (insertion (meaning s) (length s) code width rows) s (Err b) s
          unfolding insertion has_room
          put_full l b w =
              let r : leb (head_length f.version + length (joined rs) + (record_head_length f.version + f.height * width)) (length s) ≡ false = lt-leb (head_length f.version + length (joined rs) + (record_head_length f.version + f.height * width)) (length s) (omega (arith, at_tail.place, rows_long, tail-inside)) in
              rw (w, m, g, a, at_tail.none_free, r) (record { answer = refl; bytes = refl })

          pub put_tail : p + (record_head_length f.version + length rows) ≤ length s → Changes (insertion (meaning s) (length s) code width rows) s (Ok tt) (laid p (new_record f.version code width rows) s)
          unfolding has_room new
          put_tail l =
              let h = head_length f.version in
              let x = new_record f.version code width rows in
              let n = length_new f.version code width rows in
              let k = length s - h - length (joined rs) in
              let r : leb (h + length (joined rs) + (record_head_length f.version + f.height * width)) (length s) ≡ true = le-leb (h + length (joined rs) + (record_head_length f.version + f.height * width)) (length s) (omega (arith, at_tail.place, rows_long)) in
              let z : zeros k ≡ zeros (length x) ++ zeros (k - length x) = ap (λ (j : ℕ). zeros j) (omega_split (length x) k (omega (arith, at_tail.place))) ∙ sym (replicate-append-replicate (length x) (k - length x) 0) in
              let parts : s ≡ (take h s ++ joined rs) ++ (zeros (length x) ++ zeros (k - length x)) = pack_bytes s f rs o ∙ ap (λ (y : List ℕ). take h s ++ (joined rs ++ y)) z ∙ sym (append_assoc (take h s) (joined rs) (zeros (length x) ++ zeros (k - length x))) in
              let w : laid p x s ≡ take h s ++ (joined (placed f width x rs) ++ zeros (k - length x)) =
              ap (laid p x) parts ∙
              laid_parts (take h s ++ joined rs) (zeros (length x)) (zeros (k - length x)) x p (omega (arith, at_tail.place, length-append (take h s) (joined rs), head-size s f rs o)) (length-replicate {A = ℕ} (length x) 0) ∙
              append_assoc (take h s) (joined rs) (x ++ zeros (k - length x)) ∙
              ap (λ (y : List ℕ). take h s ++ y) (sym (append_assoc (joined rs) x (zeros (k - length x))) ∙ ap (λ (y : List ℕ). y ++ zeros (k - length x)) (sym at_tail.bytes)) in
              put_done (rw at_tail.none_free r) (laid p x s) (remade-is s f rs o (laid p x s) (placed f width x rs) (k - length x) (length-laid p x s (omega arith)) w)
            where
              omega_split : (a k : ℕ) → a ≤ k → k ≡ a + (k - a)
              omega_split a k h = omega arith

  -- Compact.
  pub compact_done : (h : ℕ) → h ≡ head_length f.version → (s' : List ℕ) → s' ≡ padded (take h s ++ joined (kept (records_at f s h))) (length s) → Changes (compaction (meaning s)) s (Ok tt) s'
  unfolding compaction remade
  compact_done h e s' b =
      rw m (record {
        answer = refl;
        bytes =
            b ∙ ap₂ (λ (j : ℕ) (x : List (List ℕ)). padded (take j s ++ joined (kept x)) (length s)) e (records_are s f rs m h e) ∙
            sym (ap (λ (g : Head). padded (take (head_length g.version) s ++ joined (kept rs)) (length s)) o.headed.head);
      })

-- The tests of a letter.
module _ (f : Head) (code width : ℕ) (rows : List ℕ) where
  pub letter-code : code ≡ minus_one → false ≡ good_letter f code width rows
  unfolding good_letter
  letter-code e = sym (rw (eq-eqb code minus_one e))

  module _ (n : code ≡ minus_one → ⊥) where
    pub letter-wide : max_width f.version < width → false ≡ good_letter f code width rows
    unfolding good_letter
    letter-wide l = sym (rw (ne_eqb code minus_one n, lt-leb width (max_width f.version) l))

    module _ (l : width ≤ max_width f.version) where
      pub letter_short : (length rows ≡ f.height * width → ⊥) → false ≡ good_letter f code width rows
      unfolding good_letter
      letter_short h = sym (rw (ne_eqb code minus_one n, le-leb width (max_width f.version) l, ne_eqb (length rows) (f.height * width) h))

      pub letter-rows : length rows ≡ f.height * width → all (legal_byte f.hardblank.0) rows ≡ good_letter f code width rows
      unfolding good_letter
      letter-rows h = sym (rw (ne_eqb code minus_one n, le-leb width (max_width f.version) l, eq-eqb (length rows) (f.height * width) h))

  pub letter-small : f.height ≤ 32 → width ≤ max_width f.version → f.height * width ≤ 32736
  letter-small h l = omega (arith, mul-le-mul_right width h, max_width_high f.version)

-- What `find_rows` hands back.
pub rows_of : (s : List ℕ) (code : ℕ) (l : Located) → Ok l ≡ located_in (meaning s) code → take (l.place + l.size - l.place) (drop l.place s) ≡ rows_told s code
unfolding rows_told
rows_of s code l e =
    let k : l.place + l.size - l.place ≡ l.size = omega arith in
    ap (λ (j : ℕ). take j (drop l.place s)) k ∙ ap (rows_part s) e

pub rows_none : (s : List ℕ) (code : ℕ) (r : Refusal) → Err r ≡ located_in (meaning s) code → [] ≡ rows_told s code
unfolding rows_told
rows_none s code r e = ap (rows_part s) e

-- The part lies where find tells, and a refusal tells nothing.
module _ (pack part : Bor (List ℕ)) (x : Result Located Refusal) where
  pub lies_there : (l : Located) → Ok l ≡ x → part.ref_ptr.0 ≡ pack.ref_ptr.0 → part.ref_ptr.1 ≡ l.place + pack.ref_ptr.1 → LiesIn pack x part
  lies_there l e m o = record { there = λ v f. let g : Ok l ≡ Ok v = e ∙ f in let k : l ≡ v = cc in (m, o ∙ ap (λ (j : Located). j.place + pack.ref_ptr.1) k) }

  pub lies_nowhere : (r : Refusal) → Err r ≡ x → LiesIn pack x part
  lies_nowhere r e = record { there = λ v f. let g : Err r ≡ Ok v = e ∙ f in clash (cc) }

-- What `find` answers.
pub find_rows_at : (s : List ℕ) (code : ℕ) (l : Located) → Ok l ≡ located_in (meaning s) code → Ok (record { place = l.place; width = l.width }) ≡ find_told (meaning s) code
unfolding find_told
find_rows_at s code l e = ap found_at e

pub find_refused : (s : List ℕ) (code : ℕ) (r : Refusal) → Err r ≡ located_in (meaning s) code → Err r ≡ find_told (meaning s) code
unfolding find_told
find_refused s code r e = ap found_at e

-- The part that a place names.
pub rows_inside : (s : List ℕ) (code : ℕ) (l : Located) → Ok l ≡ located_in (meaning s) code → l.place + l.size ≤ length s
unfolding located_in
rows_inside s code l e = go (meaning s) refl e
  where
    at_place : (f : Head) (rs : List (List ℕ)) → meaning s ≡ says f rs → (x : Option Place) → place_in f code (head_length f.version) rs ≡ x → Ok l ≡ located_at f x → l.place + l.size ≤ length s
    at_place f rs m (Some p) q e =
        let k : l ≡ (record { place = p.at + record_head_length f.version; width = p.width; size = f.height * p.width }) = cc in
        let a : l.place ≡ p.at + record_head_length f.version = ap (λ (x : Located). x.place) k in
        let b : l.size ≡ f.height * p.width = ap (λ (x : Located). x.size) k in
        omega (arith, place_in_lem s f rs m code p (sym q))
    at_place f rs m None q e = clash (cc)

    tested : (f : Head) (rs : List (List ℕ)) → meaning s ≡ says f rs → (b : Bool) → Ok l ≡ cond b (Err (refusal bad_shape 0)) (located_at f (place_in f code (head_length f.version) rs)) → l.place + l.size ≤ length s
    tested f rs m true e = clash (cc)
    tested f rs m false e = at_place f rs m (place_in f code (head_length f.version) rs) refl e

    go : (p : Pack) → meaning s ≡ p → Ok l ≡ located_in p code → l.place + l.size ≤ length s
    go (says f rs) m e = tested f rs m (eqb code minus_one) e
    go damaged m e = clash (cc)

pub check_accepted : (s : List ℕ) (o : Opened) → Ok o ≡ opened_or_refused (meaning s) → Ok (record { height = o.head.height; live = o.live }) ≡ check_told (meaning s)
unfolding check_told
check_accepted s o e = let t = opened_told s o e in ap (λ (j : ℕ). Ok (record { height = o.head.height; live = j })) t.count ∙ sym (ap check_told t.says_so)

-- The rows of a good letter are few.
pub rows_few : (f : Head) (code width : ℕ) (rows : List ℕ) → f.height ≤ 32 → good_letter f code width rows ≡ true → length rows ≤ 32736
unfolding good_letter
rows_few f code width rows h g =
    let a = and_right (not (eqb code minus_one)) (leb width (max_width f.version) && (eqb (length rows) (f.height * width) && all (legal_byte f.hardblank.0) rows)) g in
    let b = and_right (leb width (max_width f.version)) (eqb (length rows) (f.height * width) && all (legal_byte f.hardblank.0) rows) a in
    let e = eqb-true (length rows) (f.height * width) (and_left (eqb (length rows) (f.height * width)) (all (legal_byte f.hardblank.0) rows) b) in
    omega (arith, letter-small f code width rows h (leb-true width (max_width f.version) (and_left (leb width (max_width f.version)) _ a)))
