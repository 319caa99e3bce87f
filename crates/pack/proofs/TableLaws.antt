-- The rows of the refusal table for the calls on a pack: each answer is given exactly when document 02, Q-6, says so.
-- Assumes nothing.
use mathlib.Core.Path.{◌≡◌, refl, sym, ap, ap₂, ◌∙◌, subst}
use mathlib.Core.Bool.{Bool, true, false, cond, not, ◌&&◌, ◌||◌}
use mathlib.Core.List.{List}
use mathlib.Core.Logic.{◌↔◌, ◌⊎◌, inl, inr}
use Prim.Native.Nat.{ℕ, ◌+◌, ◌*◌, ◌≤◌, ◌<◌}
use native.Mathlib.Omega.{arith}
use lib.Dec.{eqb, leb}
use lib.ListN.{length}
use borrow.Author.Tests.{eqb-true, eqb-false, eq-eqb, ne_eqb, leb-true, leb-false, le-leb, lt-leb, not-false}
use Rattle.ground.specs.Refusals.{refusal, bad_shape, damaged_pack, code_present, code_absent, no_room}
use Rattle.ground.specs.declared.refusals.Reason.{Reason}
use Rattle.ground.specs.declared.refusals.Refusal.{Refusal}
use Rattle.ground.specs.Runs.{all, joined}
use Rattle.ground.proofs.Tests.{and_left, and_right, and_none, or_right, never_both, not_true_false, clash}
use Rattle.rows.specs.Rows.{legal_byte}
use Rattle.records.specs.declared.Head.{Head}
use Rattle.records.specs.declared.Place.{Place}
use Rattle.records.specs.Versions.{head_length, record_head_length, max_width}
use Rattle.records.specs.Records.{minus_one, has_live, live_count}
use Rattle.records.specs.Places.{place_in}
use Rattle.records.proofs.WalkLaws.{place-has}
use Rattle.edits.specs.Changes.{has_free, removed, placed, new_record}
use Rattle.heads.specs.Pack.{Pack, says, damaged, meaning}
use Rattle.std.specs.Prelude.{Option, Some, None, is_some, Result, Ok, Err}
use Rattle.pack.specs.declared.Accepted.{Accepted}
use Rattle.pack.specs.declared.Found.{Found}
use Rattle.pack.specs.Calls.{check_told, located_at, located_in, found_at, find_told, changed, refused, tells, removal, good_letter, has_room, insertion, compaction}

-- Check: "20"; otherwise the height and how many records are live.
module _ (s : List ℕ) where
  pub data ChecksTo : Result Accepted Refusal → Type 0 where
    check_damaged : meaning s ≡ damaged → ChecksTo (Err (refusal damaged_pack 0))
    accepts : (f : Head) (rs : List (List ℕ)) → meaning s ≡ says f rs → ChecksTo (Ok (record { height = f.height; live = live_count rs }))

  check_gives : (a : Result Accepted Refusal) → ChecksTo a → check_told (meaning s) ≡ a
  unfolding check_told
  check_gives _ (check_damaged e) = ap check_told e
  check_gives _ (accepts f rs m) = ap check_told m

  check_one_of : ChecksTo (check_told (meaning s))
  check_one_of = go (meaning s) refl
    where
      as_told : (a : Result Accepted Refusal) → ChecksTo a → ChecksTo (check_told (meaning s))
      as_told a d = subst ChecksTo (sym (check_gives a d)) d

      go : (p : Pack) → meaning s ≡ p → ChecksTo (check_told (meaning s))
      go damaged e = as_told _ (check_damaged e)
      go (says f rs) e = as_told _ (accepts f rs e)

  abbrev CheckTold : Result Accepted Refusal → Type 0
  CheckTold (Ok a) = (f : Head) × (rs : List (List ℕ)) × (meaning s ≡ says f rs) × (a.height ≡ f.height) × (a.live ≡ live_count rs)
  CheckTold (Err r) = (r.reason ≡ damaged_pack) × (r.place ≡ 0) × (meaning s ≡ damaged)

  check_told_lem : (a : Result Accepted Refusal) → ChecksTo a → CheckTold a
  check_told_lem _ (check_damaged e) = (refl, refl, e)
  check_told_lem _ (accepts f rs m) = (f, rs, m, refl, refl)

  check_tells : (a : Result Accepted Refusal) → check_told (meaning s) ≡ a → CheckTold a
  check_tells a e = check_told_lem a (subst ChecksTo e check_one_of)

  pub check_row : (r : Refusal) → check_told (meaning s) ≡ Err r ↔ ((r.reason ≡ damaged_pack) × (r.place ≡ 0) × (meaning s ≡ damaged))
  check_row r = (check_tells (Err r), λ w. check_gives _ (check_damaged w.2) ∙ ap₂ (λ (n : Reason) (p : ℕ). Err (refusal n p)) (sym w.0) (sym w.1))

  pub check_accepted : (h n : ℕ) → check_told (meaning s) ≡ Ok (record { height = h; live = n }) ↔ ((f : Head) × (rs : List (List ℕ)) × (meaning s ≡ says f rs) × (h ≡ f.height) × (n ≡ live_count rs))
  check_accepted h n = (check_tells (Ok (record { height = h; live = n })), λ w. check_gives _ (accepts w.0 w.1 w.2) ∙ ap₂ (λ (a b : ℕ). Ok (record { height = a; live = b })) (sym w.3) (sym w.4))

  -- Find and remove refuse alike: "20, 17 (code -1), 22".
  module _ (code : ℕ) where
    pub data Refuses : Reason → Type 0 where
      is-damaged : meaning s ≡ damaged → Refuses damaged_pack
      is_minus_one : (f : Head) (rs : List (List ℕ)) → meaning s ≡ says f rs → code ≡ minus_one → Refuses bad_shape
      is_absent : (f : Head) (rs : List (List ℕ)) → meaning s ≡ says f rs → (code ≡ minus_one → ⊥) → has_live code rs ≡ false → Refuses code_absent

    -- What each number is given for.
    abbrev MinusOne : Type 0
    MinusOne = (f : Head) × (rs : List (List ℕ)) × (meaning s ≡ says f rs) × (code ≡ minus_one)

    abbrev Absent : Type 0
    Absent = (f : Head) × (rs : List (List ℕ)) × (meaning s ≡ says f rs) × (code ≡ minus_one → ⊥) × (has_live code rs ≡ false)

    abbrev Present : Head → List (List ℕ) → Type 0
    Present f rs = (meaning s ≡ says f rs) × (code ≡ minus_one → ⊥) × (has_live code rs ≡ true)

    refuses_for : (n : Reason) → Refuses n → (n ≡ damaged_pack → meaning s ≡ damaged) × (n ≡ bad_shape → MinusOne) × (n ≡ code_absent → Absent)
    refuses_for _ (is-damaged e) = (λ q. e, λ q. clash (cc), λ q. clash (cc))
    refuses_for _ (is_minus_one f rs m e) = (λ q. clash (cc), λ q. (f, rs, m, e), λ q. clash (cc))
    refuses_for _ (is_absent f rs m e h) = (λ q. clash (cc), λ q. clash (cc), λ q. (f, rs, m, e, h))

    -- Find.
    pub data FindsTo : Result Found Refusal → Type 0 where
      find_refuses : (n : Reason) → Refuses n → FindsTo (Err (refusal n 0))
      finds : (f : Head) (rs : List (List ℕ)) → Present f rs → (p : Place) → place_in f code (head_length f.version) rs ≡ Some p → FindsTo (Ok (record { place = p.at + record_head_length f.version; width = p.width }))

    told_of : (f : Head) (rs : List (List ℕ)) → meaning s ≡ says f rs → (b : Bool) → eqb code minus_one ≡ b → (x : Option Place) → place_in f code (head_length f.version) rs ≡ x →
        find_told (meaning s) code ≡ found_at (cond b (Err (refusal bad_shape 0)) (located_at f x))
    unfolding find_told located_in
    told_of f rs m b p x q = ap (λ (k : Pack). found_at (located_in k code)) m ∙ ap₂ (λ (a : Bool) (y : Option Place). found_at (cond a (Err (refusal bad_shape 0)) (located_at f y))) p q

    nowhere : (f : Head) (rs : List (List ℕ)) → has_live code rs ≡ false → place_in f code (head_length f.version) rs ≡ None
    nowhere f rs h = go (place_in f code (head_length f.version) rs) (place-has f code (head_length f.version) rs ∙ h)
      where
        go : (x : Option Place) → is_some x ≡ false → x ≡ None
        go (Some p) e = clash (cc)
        go None e = refl

    find_gives : (a : Result Found Refusal) → FindsTo a → find_told (meaning s) code ≡ a
    unfolding find_told located_in
    find_gives _ (find_refuses _ (is-damaged e)) = ap (λ (k : Pack). found_at (located_in k code)) e
    find_gives _ (find_refuses _ (is_minus_one f rs m e)) = told_of f rs m true (eq-eqb code minus_one e) _ refl
    find_gives _ (find_refuses _ (is_absent f rs m e h)) = told_of f rs m false (ne_eqb code minus_one e) None (nowhere f rs h)
    find_gives _ (finds f rs h p q) = told_of f rs h.0 false (ne_eqb code minus_one h.1) (Some p) q

    find_one_of : FindsTo (find_told (meaning s) code)
    find_one_of = go (meaning s) refl
      where
        as_told : (a : Result Found Refusal) → FindsTo a → FindsTo (find_told (meaning s) code)
        as_told a d = subst FindsTo (sym (find_gives a d)) d

        by_place : (f : Head) (rs : List (List ℕ)) → meaning s ≡ says f rs → (code ≡ minus_one → ⊥) → (x : Option Place) → place_in f code (head_length f.version) rs ≡ x → FindsTo (find_told (meaning s) code)
        by_place f rs m e (Some p) q = as_told _ (finds f rs (m, e, sym (place-has f code (head_length f.version) rs) ∙ ap is_some q) p q)
        by_place f rs m e None q = as_told _ (find_refuses _ (is_absent f rs m e (sym (place-has f code (head_length f.version) rs) ∙ ap is_some q)))

        by_code : (f : Head) (rs : List (List ℕ)) → meaning s ≡ says f rs → (b : Bool) → eqb code minus_one ≡ b → FindsTo (find_told (meaning s) code)
        by_code f rs m true q = as_told _ (find_refuses _ (is_minus_one f rs m (eqb-true code minus_one q)))
        by_code f rs m false q = by_place f rs m (eqb-false code minus_one q) (place_in f code (head_length f.version) rs) refl

        go : (p : Pack) → meaning s ≡ p → FindsTo (find_told (meaning s) code)
        go damaged e = as_told _ (find_refuses _ (is-damaged e))
        go (says f rs) e = by_code f rs e (eqb code minus_one) refl

    abbrev FindTold : Result Found Refusal → Type 0
    FindTold (Ok a) = (f : Head) × (rs : List (List ℕ)) × (Present f rs) × (at : ℕ) × (place_in f code (head_length f.version) rs ≡ Some (record { at = at; width = a.width })) × (a.place ≡ at + record_head_length f.version)
    FindTold (Err r) = (r.place ≡ 0) × Refuses r.reason

    find_told_lem : (a : Result Found Refusal) → FindsTo a → FindTold a
    find_told_lem _ (find_refuses n d) = (refl, d)
    find_told_lem _ (finds f rs h p q) = (f, rs, h, p.at, q, refl)

    find_tells : (a : Result Found Refusal) → find_told (meaning s) code ≡ a → FindTold a
    find_tells a e = find_told_lem a (subst FindsTo e find_one_of)

    find_at : (n : Reason) (p : ℕ) → p ≡ 0 → Refuses n → find_told (meaning s) code ≡ Err (refusal n p)
    find_at n p z d = find_gives _ (find_refuses n d) ∙ ap (λ (q : ℕ). Err (refusal n q)) (sym z)

    pub find_20 : (p : ℕ) → find_told (meaning s) code ≡ Err (refusal damaged_pack p) ↔ ((p ≡ 0) × (meaning s ≡ damaged))
    find_20 p = (λ e. let t = find_tells _ e in (t.0, (refuses_for _ t.1).0 refl), λ w. find_at damaged_pack p w.0 (is-damaged w.1))

    pub find_17 : (p : ℕ) → find_told (meaning s) code ≡ Err (refusal bad_shape p) ↔ ((p ≡ 0) × MinusOne)
    find_17 p = (λ e. let t = find_tells _ e in (t.0, (refuses_for _ t.1).1 refl), λ w. find_at bad_shape p w.0 (is_minus_one w.1.0 w.1.1 w.1.2 w.1.3))

    pub find_22 : (p : ℕ) → find_told (meaning s) code ≡ Err (refusal code_absent p) ↔ ((p ≡ 0) × Absent)
    find_22 p = (λ e. let t = find_tells _ e in (t.0, (refuses_for _ t.1).2 refl), λ w. find_at code_absent p w.0 (is_absent w.1.0 w.1.1 w.1.2 w.1.3 w.1.4))

    pub find_found : (p w : ℕ) →
        find_told (meaning s) code ≡ Ok (record { place = p; width = w }) ↔
        ((f : Head) × (rs : List (List ℕ)) × (Present f rs) × (at : ℕ) × (place_in f code (head_length f.version) rs ≡ Some (record { at = at; width = w })) × (p ≡ at + record_head_length f.version))
    find_found p w = (find_tells _, λ v. find_gives _ (finds v.0 v.1 v.2 (record { at = v.3; width = w }) v.4) ∙ ap (λ (q : ℕ). Ok (record { place = q; width = w })) (sym v.5))

    -- Remove.
    pub data RemovesTo : Result Unit Refusal → Type 0 where
      remove_refuses : (n : Reason) → Refuses n → RemovesTo (Err (refusal n 0))
      removes : (f : Head) (rs : List (List ℕ)) → Present f rs → RemovesTo (Ok tt)

    removal_of : (f : Head) (rs : List (List ℕ)) → meaning s ≡ says f rs → (b : Bool) → eqb code minus_one ≡ b → (h : Bool) → has_live code rs ≡ h →
        tells (removal (meaning s) code) ≡ tells (cond b (refused bad_shape) (cond h (changed (removed code rs)) (refused code_absent)))
    unfolding removal
    removal_of f rs m b p h q = ap (λ (k : Pack). tells (removal k code)) m ∙ ap₂ (λ (x y : Bool). tells (cond x (refused bad_shape) (cond y (changed (removed code rs)) (refused code_absent)))) p q

    remove_gives : (a : Result Unit Refusal) → RemovesTo a → tells (removal (meaning s) code) ≡ a
    unfolding removal
    remove_gives _ (remove_refuses _ (is-damaged e)) = ap (λ (k : Pack). tells (removal k code)) e
    remove_gives _ (remove_refuses _ (is_minus_one f rs m e)) = removal_of f rs m true (eq-eqb code minus_one e) _ refl
    remove_gives _ (remove_refuses _ (is_absent f rs m e h)) = removal_of f rs m false (ne_eqb code minus_one e) false h
    remove_gives _ (removes f rs h) = removal_of f rs h.0 false (ne_eqb code minus_one h.1) true h.2

    remove_one_of : RemovesTo (tells (removal (meaning s) code))
    remove_one_of = go (meaning s) refl
      where
        as_told : (a : Result Unit Refusal) → RemovesTo a → RemovesTo (tells (removal (meaning s) code))
        as_told a d = subst RemovesTo (sym (remove_gives a d)) d

        by-live : (f : Head) (rs : List (List ℕ)) → meaning s ≡ says f rs → (code ≡ minus_one → ⊥) → (h : Bool) → has_live code rs ≡ h → RemovesTo (tells (removal (meaning s) code))
        by-live f rs m e true q = as_told _ (removes f rs (m, e, q))
        by-live f rs m e false q = as_told _ (remove_refuses _ (is_absent f rs m e q))

        by_code : (f : Head) (rs : List (List ℕ)) → meaning s ≡ says f rs → (b : Bool) → eqb code minus_one ≡ b → RemovesTo (tells (removal (meaning s) code))
        by_code f rs m true q = as_told _ (remove_refuses _ (is_minus_one f rs m (eqb-true code minus_one q)))
        by_code f rs m false q = by-live f rs m (eqb-false code minus_one q) (has_live code rs) refl

        go : (p : Pack) → meaning s ≡ p → RemovesTo (tells (removal (meaning s) code))
        go damaged e = as_told _ (remove_refuses _ (is-damaged e))
        go (says f rs) e = by_code f rs e (eqb code minus_one) refl

    abbrev RemoveTold : Result Unit Refusal → Type 0
    RemoveTold (Ok u) = (f : Head) × (rs : List (List ℕ)) × Present f rs
    RemoveTold (Err r) = (r.place ≡ 0) × Refuses r.reason

    remove_told : (a : Result Unit Refusal) → RemovesTo a → RemoveTold a
    remove_told _ (remove_refuses n d) = (refl, d)
    remove_told _ (removes f rs h) = (f, rs, h)

    remove_tells : (a : Result Unit Refusal) → tells (removal (meaning s) code) ≡ a → RemoveTold a
    remove_tells a e = remove_told a (subst RemovesTo e remove_one_of)

    remove_at : (n : Reason) (p : ℕ) → p ≡ 0 → Refuses n → tells (removal (meaning s) code) ≡ Err (refusal n p)
    remove_at n p z d = remove_gives _ (remove_refuses n d) ∙ ap (λ (q : ℕ). Err (refusal n q)) (sym z)

    pub remove_20 : (p : ℕ) → tells (removal (meaning s) code) ≡ Err (refusal damaged_pack p) ↔ ((p ≡ 0) × (meaning s ≡ damaged))
    remove_20 p = (λ e. let t = remove_tells _ e in (t.0, (refuses_for _ t.1).0 refl), λ w. remove_at damaged_pack p w.0 (is-damaged w.1))

    pub remove_17 : (p : ℕ) → tells (removal (meaning s) code) ≡ Err (refusal bad_shape p) ↔ ((p ≡ 0) × MinusOne)
    remove_17 p = (λ e. let t = remove_tells _ e in (t.0, (refuses_for _ t.1).1 refl), λ w. remove_at bad_shape p w.0 (is_minus_one w.1.0 w.1.1 w.1.2 w.1.3))

    pub remove_22 : (p : ℕ) → tells (removal (meaning s) code) ≡ Err (refusal code_absent p) ↔ ((p ≡ 0) × Absent)
    remove_22 p = (λ e. let t = remove_tells _ e in (t.0, (refuses_for _ t.1).2 refl), λ w. remove_at code_absent p w.0 (is_absent w.1.0 w.1.1 w.1.2 w.1.3 w.1.4))

    pub remove_done : tells (removal (meaning s) code) ≡ (Ok tt) ↔ ((f : Head) × (rs : List (List ℕ)) × Present f rs)
    remove_done = (remove_tells (Ok tt), λ v. remove_gives _ (removes v.0 v.1 v.2))

  -- Compact: "20".
  pub data CompactsTo : Result Unit Refusal → Type 0 where
    compact_damaged : meaning s ≡ damaged → CompactsTo (Err (refusal damaged_pack 0))
    compacts : (f : Head) (rs : List (List ℕ)) → meaning s ≡ says f rs → CompactsTo (Ok tt)

  compact_gives : (a : Result Unit Refusal) → CompactsTo a → tells (compaction (meaning s)) ≡ a
  unfolding compaction
  compact_gives _ (compact_damaged e) = ap (λ (k : Pack). tells (compaction k)) e
  compact_gives _ (compacts f rs m) = ap (λ (k : Pack). tells (compaction k)) m

  compact_one_of : CompactsTo (tells (compaction (meaning s)))
  compact_one_of = go (meaning s) refl
    where
      as_told : (a : Result Unit Refusal) → CompactsTo a → CompactsTo (tells (compaction (meaning s)))
      as_told a d = subst CompactsTo (sym (compact_gives a d)) d

      go : (p : Pack) → meaning s ≡ p → CompactsTo (tells (compaction (meaning s)))
      go damaged e = as_told _ (compact_damaged e)
      go (says f rs) e = as_told _ (compacts f rs e)

  abbrev CompactTold : Result Unit Refusal → Type 0
  CompactTold (Ok u) = (f : Head) × (rs : List (List ℕ)) × (meaning s ≡ says f rs)
  CompactTold (Err r) = (r.reason ≡ damaged_pack) × (r.place ≡ 0) × (meaning s ≡ damaged)

  compact_told : (a : Result Unit Refusal) → CompactsTo a → CompactTold a
  compact_told _ (compact_damaged e) = (refl, refl, e)
  compact_told _ (compacts f rs m) = (f, rs, m)

  compact_tells : (a : Result Unit Refusal) → tells (compaction (meaning s)) ≡ a → CompactTold a
  compact_tells a e = compact_told a (subst CompactsTo e compact_one_of)

  pub compact_row : (r : Refusal) → tells (compaction (meaning s)) ≡ Err r ↔ ((r.reason ≡ damaged_pack) × (r.place ≡ 0) × (meaning s ≡ damaged))
  compact_row r = (compact_tells (Err r), λ w. compact_gives _ (compact_damaged w.2) ∙ ap₂ (λ (n : Reason) (p : ℕ). Err (refusal n p)) (sym w.0) (sym w.1))

  pub compact_done : tells (compaction (meaning s)) ≡ (Ok tt) ↔ ((f : Head) × (rs : List (List ℕ)) × (meaning s ≡ says f rs))
  compact_done = (compact_tells (Ok tt), λ v. compact_gives _ (compacts v.0 v.1 v.2))

  -- Put: "20; 17 (code -1, width over 199, a row byte that is refused, rows not Height times width long); 21; 23".
  module _ (code width : ℕ) (rows : List ℕ) where
    abbrev pub BadLetter : Head → Type 0
    BadLetter f = (code ≡ minus_one) ⊎ (max_width f.version < width) ⊎ (all (legal_byte f.hardblank.0) rows ≡ false) ⊎ (length rows ≡ f.height * width → ⊥)

    letter_bad : (f : Head) → good_letter f code width rows ≡ false → BadLetter f
    unfolding good_letter
    letter_bad f e = by_code (and_none (not (eqb code minus_one)) (leb width (max_width f.version) && (eqb (length rows) (f.height * width) && all (legal_byte f.hardblank.0) rows)) e)
      where
        by-long : (eqb (length rows) (f.height * width) ≡ false) ⊎ (all (legal_byte f.hardblank.0) rows ≡ false) → BadLetter f
        by-long (inl p) = inr (inr (inr (eqb-false (length rows) (f.height * width) p)))
        by-long (inr p) = inr (inr (inl p))

        by_width : (leb width (max_width f.version) ≡ false) ⊎ ((eqb (length rows) (f.height * width) && all (legal_byte f.hardblank.0) rows) ≡ false) → BadLetter f
        by_width (inl p) = inr (inl (leb-false width (max_width f.version) p))
        by_width (inr p) = by-long (and_none (eqb (length rows) (f.height * width)) (all (legal_byte f.hardblank.0) rows) p)

        by_code : (not (eqb code minus_one) ≡ false) ⊎ ((leb width (max_width f.version) && (eqb (length rows) (f.height * width) && all (legal_byte f.hardblank.0) rows)) ≡ false) → BadLetter f
        by_code (inl p) = inl (eqb-true code minus_one (not-false (eqb code minus_one) p))
        by_code (inr p) = by_width (and_none (leb width (max_width f.version)) (eqb (length rows) (f.height * width) && all (legal_byte f.hardblank.0) rows) p)

    bad_letter : (f : Head) → BadLetter f → good_letter f code width rows ≡ true → ⊥
    unfolding good_letter
    bad_letter f x e = go x
      where
        r1 : (leb width (max_width f.version) && (eqb (length rows) (f.height * width) && all (legal_byte f.hardblank.0) rows)) ≡ true
        r1 = and_right (not (eqb code minus_one)) (leb width (max_width f.version) && (eqb (length rows) (f.height * width) && all (legal_byte f.hardblank.0) rows)) e

        r2 : (eqb (length rows) (f.height * width) && all (legal_byte f.hardblank.0) rows) ≡ true
        r2 = and_right (leb width (max_width f.version)) (eqb (length rows) (f.height * width) && all (legal_byte f.hardblank.0) rows) r1

        go : BadLetter f → ⊥
        go (inl p) = never_both (not (eqb code minus_one)) (and_left (not (eqb code minus_one)) _ e) (rw (eq-eqb code minus_one p))
        go (inr (inl l)) = omega (arith, leb-true width (max_width f.version) (and_left (leb width (max_width f.version)) _ r1))
        go (inr (inr (inl p))) = never_both (all (legal_byte f.hardblank.0) rows) (and_right (eqb (length rows) (f.height * width)) _ r2) p
        go (inr (inr (inr n))) = n (eqb-true (length rows) (f.height * width) (and_left (eqb (length rows) (f.height * width)) _ r2))

    -- "It has no room exactly when neither exists": a free record of the width, or a tail that the record fits.
    abbrev end : Head → List (List ℕ) → ℕ
    end f rs = head_length f.version + length (joined rs) + (record_head_length f.version + f.height * width)

    abbrev pub Full : Head → List (List ℕ) → Type 0
    Full f rs = (has_free f width rs ≡ false) × (length s < end f rs)

    abbrev pub Room : Head → List (List ℕ) → Type 0
    Room f rs = (has_free f width rs ≡ true) ⊎ (end f rs ≤ length s)

    room-none : (f : Head) (rs : List (List ℕ)) → has_room f (length s) width rs ≡ false → Full f rs
    unfolding has_room
    room-none f rs e = go (has_free f width rs) refl e
      where
        go : (b : Bool) → has_free f width rs ≡ b → (b || leb (end f rs) (length s)) ≡ false → Full f rs
        go true p e = clash (cc)
        go false p e = (p, leb-false (end f rs) (length s) e)

    full_none : (f : Head) (rs : List (List ℕ)) → Full f rs → has_room f (length s) width rs ≡ false
    unfolding has_room
    full_none f rs x = rw (x.0, lt-leb (end f rs) (length s) x.1)

    room-some : (f : Head) (rs : List (List ℕ)) → has_room f (length s) width rs ≡ true → Room f rs
    unfolding has_room
    room-some f rs e = go (has_free f width rs) refl e
      where
        go : (b : Bool) → has_free f width rs ≡ b → (b || leb (end f rs) (length s)) ≡ true → Room f rs
        go true p e = inl p
        go false p e = inr (leb-true (end f rs) (length s) e)

    some-room : (f : Head) (rs : List (List ℕ)) → Room f rs → has_room f (length s) width rs ≡ true
    unfolding has_room
    some-room f rs (inl p) = rw p
    some-room f rs (inr l) = or_right (has_free f width rs) (leb (end f rs) (length s)) (le-leb (end f rs) (length s) l)

    pub data PutRefuses : Reason → Type 0 where
      put_damaged : meaning s ≡ damaged → PutRefuses damaged_pack
      put_bad : (f : Head) (rs : List (List ℕ)) → meaning s ≡ says f rs → BadLetter f → PutRefuses bad_shape
      put_present : (f : Head) (rs : List (List ℕ)) → meaning s ≡ says f rs → (BadLetter f → ⊥) → has_live code rs ≡ true → PutRefuses code_present
      put_full : (f : Head) (rs : List (List ℕ)) → meaning s ≡ says f rs → (BadLetter f → ⊥) → has_live code rs ≡ false → Full f rs → PutRefuses no_room

    pub data PutsTo : Result Unit Refusal → Type 0 where
      put_refuses : (n : Reason) → PutRefuses n → PutsTo (Err (refusal n 0))
      puts : (f : Head) (rs : List (List ℕ)) → meaning s ≡ says f rs → (BadLetter f → ⊥) → has_live code rs ≡ false → Room f rs → PutsTo (Ok tt)

    abbrev answer : Result Unit Refusal
    answer = tells (insertion (meaning s) (length s) code width rows)

    insertion_of : (f : Head) (rs : List (List ℕ)) → meaning s ≡ says f rs → (g h r : Bool) → good_letter f code width rows ≡ g → has_live code rs ≡ h → has_room f (length s) width rs ≡ r →
        answer ≡ tells (cond g (cond h (refused code_present) (cond r (changed (placed f width (new_record f.version code width rows) rs)) (refused no_room))) (refused bad_shape))
    unfolding insertion
    insertion_of f rs m g h r p q e = ap (λ (k : Pack). tells (insertion k (length s) code width rows)) m ∙ rw (p, q, e) refl

    letter_good : (f : Head) → (BadLetter f → ⊥) → good_letter f code width rows ≡ true
    letter_good f n = go (good_letter f code width rows) refl
      where
        go : (b : Bool) → good_letter f code width rows ≡ b → b ≡ true
        go true p = refl
        go false p = absurd (n (letter_bad f p))

    put_gives : (a : Result Unit Refusal) → PutsTo a → answer ≡ a
    unfolding insertion
    put_gives _ (put_refuses _ (put_damaged e)) = ap (λ (k : Pack). tells (insertion k (length s) code width rows)) e
    put_gives _ (put_refuses _ (put_bad f rs m x)) = insertion_of f rs m false _ _ (not_true_false (good_letter f code width rows) (bad_letter f x)) refl refl
    put_gives _ (put_refuses _ (put_present f rs m n h)) = insertion_of f rs m true true _ (letter_good f n) h refl
    put_gives _ (put_refuses _ (put_full f rs m n h x)) = insertion_of f rs m true false false (letter_good f n) h (full_none f rs x)
    put_gives _ (puts f rs m n h x) = insertion_of f rs m true false true (letter_good f n) h (some-room f rs x)

    put_one_of : PutsTo answer
    put_one_of = go (meaning s) refl
      where
        as_told : (a : Result Unit Refusal) → PutsTo a → PutsTo answer
        as_told a d = subst PutsTo (sym (put_gives a d)) d

        by-room : (f : Head) (rs : List (List ℕ)) → meaning s ≡ says f rs → (BadLetter f → ⊥) → has_live code rs ≡ false → (r : Bool) → has_room f (length s) width rs ≡ r → PutsTo answer
        by-room f rs m n h true q = as_told _ (puts f rs m n h (room-some f rs q))
        by-room f rs m n h false q = as_told _ (put_refuses _ (put_full f rs m n h (room-none f rs q)))

        by-live : (f : Head) (rs : List (List ℕ)) → meaning s ≡ says f rs → (BadLetter f → ⊥) → (h : Bool) → has_live code rs ≡ h → PutsTo answer
        by-live f rs m n true q = as_told _ (put_refuses _ (put_present f rs m n q))
        by-live f rs m n false q = by-room f rs m n q (has_room f (length s) width rs) refl

        by-letter : (f : Head) (rs : List (List ℕ)) → meaning s ≡ says f rs → (g : Bool) → good_letter f code width rows ≡ g → PutsTo answer
        by-letter f rs m true q = by-live f rs m (λ x. bad_letter f x q) (has_live code rs) refl
        by-letter f rs m false q = as_told _ (put_refuses _ (put_bad f rs m (letter_bad f q)))

        go : (p : Pack) → meaning s ≡ p → PutsTo answer
        go damaged e = as_told _ (put_refuses _ (put_damaged e))
        go (says f rs) e = by-letter f rs e (good_letter f code width rows) refl

    -- What each number is given for.
    abbrev ShapeFor : Type 0
    ShapeFor = (f : Head) × (rs : List (List ℕ)) × (meaning s ≡ says f rs) × BadLetter f

    abbrev PresentFor : Type 0
    PresentFor = (f : Head) × (rs : List (List ℕ)) × (meaning s ≡ says f rs) × (BadLetter f → ⊥) × (has_live code rs ≡ true)

    abbrev FullFor : Type 0
    FullFor = (f : Head) × (rs : List (List ℕ)) × (meaning s ≡ says f rs) × (BadLetter f → ⊥) × (has_live code rs ≡ false) × Full f rs

    abbrev DoneFor : Type 0
    DoneFor = (f : Head) × (rs : List (List ℕ)) × (meaning s ≡ says f rs) × (BadLetter f → ⊥) × (has_live code rs ≡ false) × Room f rs

    abbrev PutTold : Result Unit Refusal → Type 0
    PutTold (Ok u) = DoneFor
    PutTold (Err r) = (r.place ≡ 0) × (r.reason ≡ damaged_pack → meaning s ≡ damaged) × (r.reason ≡ bad_shape → ShapeFor) × (r.reason ≡ code_present → PresentFor) × (r.reason ≡ no_room → FullFor)

    put_told : (a : Result Unit Refusal) → PutsTo a → PutTold a
    put_told _ (put_refuses _ (put_damaged e)) = (refl, λ q. e, λ q. clash (cc), λ q. clash (cc), λ q. clash (cc))
    put_told _ (put_refuses _ (put_bad f rs m x)) = (refl, λ q. clash (cc), λ q. (f, rs, m, x), λ q. clash (cc), λ q. clash (cc))
    put_told _ (put_refuses _ (put_present f rs m n h)) = (refl, λ q. clash (cc), λ q. clash (cc), λ q. (f, rs, m, n, h), λ q. clash (cc))
    put_told _ (put_refuses _ (put_full f rs m n h x)) = (refl, λ q. clash (cc), λ q. clash (cc), λ q. clash (cc), λ q. (f, rs, m, n, h, x))
    put_told _ (puts f rs m n h x) = (f, rs, m, n, h, x)

    put_tells : (a : Result Unit Refusal) → answer ≡ a → PutTold a
    put_tells a e = put_told a (subst PutsTo e put_one_of)

    put_at : (n : Reason) (p : ℕ) → p ≡ 0 → PutRefuses n → answer ≡ Err (refusal n p)
    put_at n p z d = put_gives _ (put_refuses n d) ∙ ap (λ (q : ℕ). Err (refusal n q)) (sym z)

    pub put_20 : (p : ℕ) → answer ≡ Err (refusal damaged_pack p) ↔ ((p ≡ 0) × (meaning s ≡ damaged))
    put_20 p = (λ e. let t = put_tells _ e in (t.0, t.1 refl), λ w. put_at damaged_pack p w.0 (put_damaged w.1))

    pub put_17 : (p : ℕ) → answer ≡ Err (refusal bad_shape p) ↔ ((p ≡ 0) × ShapeFor)
    put_17 p = (λ e. let t = put_tells _ e in (t.0, t.2 refl), λ w. put_at bad_shape p w.0 (put_bad w.1.0 w.1.1 w.1.2 w.1.3))

    pub put_21 : (p : ℕ) → answer ≡ Err (refusal code_present p) ↔ ((p ≡ 0) × PresentFor)
    put_21 p = (λ e. let t = put_tells _ e in (t.0, t.3 refl), λ w. put_at code_present p w.0 (put_present w.1.0 w.1.1 w.1.2 w.1.3 w.1.4))

    pub put_23 : (p : ℕ) → answer ≡ Err (refusal no_room p) ↔ ((p ≡ 0) × FullFor)
    put_23 p = (λ e. let t = put_tells _ e in (t.0, t.4 refl), λ w. put_at no_room p w.0 (put_full w.1.0 w.1.1 w.1.2 w.1.3 w.1.4 w.1.5))

    pub put_done : answer ≡ (Ok tt) ↔ DoneFor
    put_done = (put_tells (Ok tt), λ v. put_gives _ (puts v.0 v.1 v.2 v.3 v.4 v.5))
