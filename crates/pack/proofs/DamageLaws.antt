-- When a pack is damaged, in the words of document 02, Q-6.
-- Assumes nothing.
use mathlib.Core.Path.{◌≡◌, refl, sym, ap, ◌∙◌}
use mathlib.Core.Bool.{Bool, true, false, cond, not, ◌&&◌, ◌||◌}
use mathlib.Core.List.{List}
use mathlib.Core.Logic.{◌↔◌, ◌⊎◌, inl, inr}
use Prim.Native.Nat.{ℕ, zero, suc, ◌≤◌, ◌<◌}
use native.Mathlib.Omega.{arith}
use lib.Dec.{eqb, leb}
use lib.ListN.{length, take, drop, get_or, length-drop}
use borrow.Author.Tests.{eqb-true, eqb-false, ne_eqb, eq-eqb, leb-true, leb-false, not-false}
use Rattle.ground.specs.Limits.{max_height, max_pack_length, min_pack_length}
use Rattle.ground.specs.Runs.{all}
use Rattle.ground.proofs.Tests.{and_left, and_right, and_none, never_both, not_true_false, clash}
use Rattle.subchars.specs.Hardblank.{legal_hardblank}
use Rattle.rows.specs.Rows.{legal_byte}
use Rattle.records.specs.declared.Head.{Head}
use Rattle.records.specs.Versions.{head_length, record_head_length, max_width}
use Rattle.records.specs.Records.{is_zero, live, free_status, code_in, width_in, rows_in, size_in, minus_one, good_fields, good_record, RecordList, list_ends, with_record, record_list, none_twice}
use Rattle.records.proofs.FieldLaws.{fields_status, not_zeros}
use Rattle.records.proofs.ListingLaws.{listing_step, Fine, fine}
use Rattle.heads.specs.Pack.{is_mark, is_version, legal_head, is_head, head_in, says, damaged, meant, meaning}

-- Two tests of which one holds.
or_none : (a b : Bool) → (a || b) ≡ false → (a ≡ false) × (b ≡ false)
or_none true b e = clash (cc)
or_none false b e = (refl, e)

-- "One byte 1 for live or 2 for free, .. code -1, a width over 199."
module _ (version status code width : ℕ) where
  abbrev pub BadFields : Type 0
  BadFields = ((status ≡ live → ⊥) × (status ≡ free_status → ⊥)) ⊎ (code ≡ minus_one) ⊎ (max_width version < width)

  fields_bad : good_fields version status code width ≡ false → BadFields
  unfolding good_fields
  fields_bad e = by_code (and_none (not (eqb code minus_one)) (leb width (max_width version) && (eqb status live || eqb status free_status)) e)
    where
      by_width : (leb width (max_width version) ≡ false) ⊎ ((eqb status live || eqb status free_status) ≡ false) → BadFields
      by_width (inl w) = inr (inr (leb-false width (max_width version) w))
      by_width (inr s) = let n = or_none (eqb status live) (eqb status free_status) s in inl (eqb-false status live n.0, eqb-false status free_status n.1)

      by_code : (not (eqb code minus_one) ≡ false) ⊎ ((leb width (max_width version) && (eqb status live || eqb status free_status)) ≡ false) → BadFields
      by_code (inl c) = inr (inl (eqb-true code minus_one (not-false (eqb code minus_one) c)))
      by_code (inr r) = by_width (and_none (leb width (max_width version)) (eqb status live || eqb status free_status) r)

  bad_fields : BadFields → good_fields version status code width ≡ true → ⊥
  unfolding good_fields
  bad_fields (inl s) e =
      let r = and_right (not (eqb code minus_one)) (leb width (max_width version) && (eqb status live || eqb status free_status)) e in
      never_both _ (and_right (leb width (max_width version)) (eqb status live || eqb status free_status) r) (rw (ne_eqb status live s.0, ne_eqb status free_status s.1))
  bad_fields (inr (inl c)) e = never_both _ (and_left (not (eqb code minus_one)) _ e) (rw (eq-eqb code minus_one c))
  bad_fields (inr (inr w)) e =
      let r = and_right (not (eqb code minus_one)) (leb width (max_width version) && (eqb status live || eqb status free_status)) e in
      omega (arith, leb-true width (max_width version) (and_left (leb width (max_width version)) _ r))

module _ (f : Head) where
  -- No good record stands at the start of a list: it is cut off, in its head or in its rows, or has a bad field or "a .. row byte that 01 refuses".
  abbrev pub BadRecord : List ℕ → Type 0
  BadRecord t =
      (length t < record_head_length f.version) ⊎
      BadFields f.version (get_or t 0 0) (code_in t) (width_in f t) ⊎
      (length t < size_in f t) ⊎
      (all (legal_byte f.hardblank.0) (rows_in f t) ≡ false)

  record_bad : (t : List ℕ) → good_record f t ≡ false → BadRecord t
  unfolding good_record
  record_bad t e = by-head (and_none a (b && (c && d)) e)
    where
      a : Bool
      a = leb (record_head_length f.version) (length t)

      b : Bool
      b = good_fields f.version (get_or t 0 0) (code_in t) (width_in f t)

      c : Bool
      c = leb (size_in f t) (length t)

      d : Bool
      d = all (legal_byte f.hardblank.0) (rows_in f t)

      by_size : (c ≡ false) ⊎ (d ≡ false) → BadRecord t
      by_size (inl p) = inr (inr (inl (leb-false (size_in f t) (length t) p)))
      by_size (inr p) = inr (inr (inr p))

      by_fields : (b ≡ false) ⊎ ((c && d) ≡ false) → BadRecord t
      by_fields (inl p) = inr (inl (fields_bad f.version (get_or t 0 0) (code_in t) (width_in f t) p))
      by_fields (inr p) = by_size (and_none c d p)

      by-head : (a ≡ false) ⊎ ((b && (c && d)) ≡ false) → BadRecord t
      by-head (inl p) = inl (leb-false (record_head_length f.version) (length t) p)
      by-head (inr p) = by_fields (and_none b (c && d) p)

  bad_record : (t : List ℕ) → BadRecord t → good_record f t ≡ false
  bad_record t x = not_true_false (good_record f t) λ e. go (fine f t e) x
    where
      go : Fine f t → BadRecord t → ⊥
      go h (inl l) = omega (arith, h.head)
      go h (inr (inl b)) = bad_fields f.version (get_or t 0 0) (code_in t) (width_in f t) b h.fields
      go h (inr (inr (inl l))) = omega (arith, h.size)
      go h (inr (inr (inr r))) = never_both _ h.rows r

  -- The bytes behind some good records at the start of a list.
  pub data Behind : List ℕ → List ℕ → Type 0 where
    start : (t : List ℕ) → Behind t t
    next : (t u : List ℕ) → good_record f t ≡ true → Behind (drop (size_in f t) t) u → Behind t u

  -- Behind some good records stands neither a good one nor zeros to the end.
  abbrev pub Breaks : List ℕ → Type 0
  Breaks t = (u : List ℕ) × Behind t u × (all is_zero u ≡ false) × BadRecord u

  good_some : (t : List ℕ) → good_record f t ≡ true → all is_zero t ≡ false
  good_some t g =
      let h = fine f t g in
      not_zeros t (omega (arith, h.head)) (fields_status f.version (get_or t 0 0) (code_in t) (width_in f t) h.fields)

  size-some : (t : List ℕ) → record_head_length f.version ≤ size_in f t
  unfolding size_in
  size-some t = omega arith

  breaks_whole : (t u : List ℕ) → Behind t u → all is_zero u ≡ false → BadRecord u → (record_list f t).whole ≡ false
  breaks_whole _ _ (start t) z x =
      let e : record_list f t ≡ list_ends false = listing_step f t ∙ rw (z, bad_record t x) in
      ap (λ (l : RecordList). l.whole) e
  breaks_whole _ _ (next t u g b) z x =
      let e : record_list f t ≡ with_record (take (size_in f t) t) (record_list f (drop (size_in f t) t)) = listing_step f t ∙ rw (good_some t g, g) in
      ap (λ (l : RecordList). l.whole) e ∙ breaks_whole (drop (size_in f t) t) u b z x

  breaks_next : (t : List ℕ) → (length (drop (size_in f t) t) < length t → (record_list f (drop (size_in f t) t)).whole ≡ false → Breaks (drop (size_in f t) t)) → (record_list f t).whole ≡ false → Breaks t
  breaks_next t rest e = go (all is_zero t) refl (good_record f t) refl (sym (ap (λ (x : RecordList). x.whole) (listing_step f t)) ∙ e)
    where
      go : (z : Bool) → all is_zero t ≡ z → (g : Bool) → good_record f t ≡ g → (cond z (list_ends true) (cond g (with_record (take (size_in f t) t) (record_list f (drop (size_in f t) t))) (list_ends false))).whole ≡ false → Breaks t
      go true p g q e = clash (cc)
      go false p false q e = (t, start t, p, record_bad t q)
      go false p true q e =
          let x = rest (omega (arith, length-drop (size_in f t) t, (fine f t q).head, size-some t)) e in
          (x.0, next t x.0 q x.1, x.2, x.3)

  whole_breaks : (n : ℕ) (t : List ℕ) → length t ≤ n → (record_list f t).whole ≡ false → Breaks t
  whole_breaks zero t l e = breaks_next t (λ k w. absurd (omega arith)) e
  whole_breaks (suc n) t l e = breaks_next t (λ k w. whole_breaks n (drop (size_in f t) t) (omega arith) w) e

-- "Longer than 65,536 or shorter than 7 bytes; mark or version wrong; Height or hardblank that 01 refuses", a head that is cut off, what breaks the records, or "two live records of one code".
module _ (s : List ℕ) where
  abbrev record_bytes : List ℕ
  record_bytes = drop (head_length (head_in s).version) s

  abbrev BadHead : Type 0
  BadHead =
      (is_version (head_in s).version ≡ false) ⊎
      ((head_in s).height < 1) ⊎
      (max_height < (head_in s).height) ⊎
      (legal_hardblank (head_in s).hardblank.0 ≡ false)

  abbrev pub Damage : Type 0
  Damage =
      (max_pack_length < length s) ⊎
      (length s < min_pack_length) ⊎
      (is_mark (take min_pack_length s) ≡ false) ⊎
      BadHead ⊎
      (length s < head_length (head_in s).version) ⊎
      Breaks (head_in s) record_bytes ⊎
      (none_twice (record_list (head_in s) record_bytes).records ≡ false)

  -- The tests of a head,
  abbrev version : Bool
  version = is_version (head_in s).version

  abbrev some : Bool
  some = leb 1 (head_in s).height

  abbrev low : Bool
  low = leb (head_in s).height max_height

  abbrev hardblank : Bool
  hardblank = legal_hardblank (head_in s).hardblank.0

  head_bad : legal_head (head_in s) ≡ false → BadHead
  unfolding legal_head
  head_bad e = by_version (and_none version (some && (low && hardblank)) e)
    where
      by_high : (low ≡ false) ⊎ (hardblank ≡ false) → BadHead
      by_high (inl p) = inr (inr (inl (leb-false (head_in s).height max_height p)))
      by_high (inr p) = inr (inr (inr p))

      by-low : (some ≡ false) ⊎ ((low && hardblank) ≡ false) → BadHead
      by-low (inl p) = inr (inl (leb-false 1 (head_in s).height p))
      by-low (inr p) = by_high (and_none low hardblank p)

      by_version : (version ≡ false) ⊎ ((some && (low && hardblank)) ≡ false) → BadHead
      by_version (inl p) = inl p
      by_version (inr p) = by-low (and_none some (low && hardblank) p)

  bad_head : BadHead → legal_head (head_in s) ≡ true → ⊥
  unfolding legal_head
  bad_head x e = go x
    where
      r1 : (some && (low && hardblank)) ≡ true
      r1 = and_right version (some && (low && hardblank)) e

      r2 : (low && hardblank) ≡ true
      r2 = and_right some (low && hardblank) r1

      go : BadHead → ⊥
      go (inl p) = never_both version (and_left version (some && (low && hardblank)) e) p
      go (inr (inl l)) = omega (arith, leb-true 1 (head_in s).height (and_left some (low && hardblank) r1))
      go (inr (inr (inl l))) = omega (arith, leb-true (head_in s).height max_height (and_left low hardblank r2))
      go (inr (inr (inr p))) = never_both hardblank (and_right low hardblank r2) p

  -- and those of a buffer that it stands in.
  abbrev fits : Bool
  fits = leb (length s) max_pack_length

  abbrev long : Bool
  long = leb min_pack_length (length s)

  abbrev mark : Bool
  mark = is_mark (take min_pack_length s)

  abbrev legal : Bool
  legal = legal_head (head_in s)

  abbrev inside : Bool
  inside = leb (head_length (head_in s).version) (length s)

  -- What breaks the head of a buffer.
  abbrev NoHead : Type 0
  NoHead = (max_pack_length < length s) ⊎ (length s < min_pack_length) ⊎ (is_mark (take min_pack_length s) ≡ false) ⊎ BadHead ⊎ (length s < head_length (head_in s).version)

  no_head : is_head (length s) (take min_pack_length s) ≡ false → NoHead
  unfolding is_head
  no_head e = by-long (and_none fits (long && (mark && (legal && inside))) e)
    where
      by-head : (legal ≡ false) ⊎ (inside ≡ false) → NoHead
      by-head (inl p) = inr (inr (inr (inl (head_bad p))))
      by-head (inr p) = inr (inr (inr (inr (leb-false (head_length (head_in s).version) (length s) p))))

      by_mark : (mark ≡ false) ⊎ ((legal && inside) ≡ false) → NoHead
      by_mark (inl p) = inr (inr (inl p))
      by_mark (inr p) = by-head (and_none legal inside p)

      by_short : (long ≡ false) ⊎ ((mark && (legal && inside)) ≡ false) → NoHead
      by_short (inl p) = inr (inl (leb-false min_pack_length (length s) p))
      by_short (inr p) = by_mark (and_none mark (legal && inside) p)

      by-long : (fits ≡ false) ⊎ ((long && (mark && (legal && inside))) ≡ false) → NoHead
      by-long (inl p) = inl (leb-false (length s) max_pack_length p)
      by-long (inr p) = by_short (and_none long (mark && (legal && inside)) p)

  head-none : NoHead → is_head (length s) (take min_pack_length s) ≡ true → ⊥
  unfolding is_head
  head-none x e = go x
    where
      r1 : (long && (mark && (legal && inside))) ≡ true
      r1 = and_right fits (long && (mark && (legal && inside))) e

      r2 : (mark && (legal && inside)) ≡ true
      r2 = and_right long (mark && (legal && inside)) r1

      r3 : (legal && inside) ≡ true
      r3 = and_right mark (legal && inside) r2

      go : NoHead → ⊥
      go (inl l) = omega (arith, leb-true (length s) max_pack_length (and_left fits (long && (mark && (legal && inside))) e))
      go (inr (inl l)) = omega (arith, leb-true min_pack_length (length s) (and_left long (mark && (legal && inside)) r1))
      go (inr (inr (inl p))) = never_both mark (and_left mark (legal && inside) r2) p
      go (inr (inr (inr (inl h)))) = bad_head h (and_left legal inside r3)
      go (inr (inr (inr (inr l)))) = omega (arith, leb-true (head_length (head_in s).version) (length s) (and_right legal inside r3))

  told : NoHead → Damage
  told (inl l) = inl l
  told (inr (inl l)) = inr (inl l)
  told (inr (inr (inl p))) = inr (inr (inl p))
  told (inr (inr (inr (inl h)))) = inr (inr (inr (inl h)))
  told (inr (inr (inr (inr l)))) = inr (inr (inr (inr (inl l))))

  abbrev x : RecordList
  x = record_list (head_in s) record_bytes

  pub damaged-by : meaning s ≡ damaged → Damage
  unfolding meaning
  damaged-by e = go (is_head (length s) (take min_pack_length s)) refl (x.whole && none_twice x.records) refl e
    where
      by-records : (x.whole ≡ false) ⊎ (none_twice x.records ≡ false) → Damage
      by-records (inl p) = inr (inr (inr (inr (inr (inl (whole_breaks (head_in s) (length record_bytes) record_bytes (omega arith) p))))))
      by-records (inr p) = inr (inr (inr (inr (inr (inr p)))))

      go : (b : Bool) → is_head (length s) (take min_pack_length s) ≡ b → (c : Bool) → (x.whole && none_twice x.records) ≡ c → cond b (cond c (says (head_in s) x.records) damaged) damaged ≡ damaged → Damage
      go false p c q e = told (no_head p)
      go true p true q e = clash (cc)
      go true p false q e = by-records (and_none x.whole (none_twice x.records) q)

  pub by_damage : Damage → meaning s ≡ damaged
  unfolding meaning
  by_damage y = go (is_head (length s) (take min_pack_length s)) refl
    where
      not_whole : x.whole ≡ false → meant (head_in s) x ≡ damaged
      not_whole p = rw p

      not_once : (w : Bool) → none_twice x.records ≡ false → cond (w && none_twice x.records) (says (head_in s) x.records) damaged ≡ damaged
      not_once true p = rw p
      not_once false p = refl

      by : is_head (length s) (take min_pack_length s) ≡ true → Damage → meant (head_in s) x ≡ damaged
      by p (inl l) = absurd (head-none (inl l) p)
      by p (inr (inl l)) = absurd (head-none (inr (inl l)) p)
      by p (inr (inr (inl m))) = absurd (head-none (inr (inr (inl m))) p)
      by p (inr (inr (inr (inl h)))) = absurd (head-none (inr (inr (inr (inl h)))) p)
      by p (inr (inr (inr (inr (inl l))))) = absurd (head-none (inr (inr (inr (inr l)))) p)
      by p (inr (inr (inr (inr (inr (inl b)))))) = not_whole (breaks_whole (head_in s) record_bytes b.0 b.1 b.2 b.3)
      by p (inr (inr (inr (inr (inr (inr n)))))) = not_once x.whole n

      go : (b : Bool) → is_head (length s) (take min_pack_length s) ≡ b → cond b (meant (head_in s) x) damaged ≡ damaged
      go true p = by p y
      go false p = refl

  pub damaged_when : meaning s ≡ damaged ↔ Damage
  damaged_when = (damaged-by, by_damage)
