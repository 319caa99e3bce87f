-- The theorems of Q-6: each change leaves a pack that check accepts; find after each change; when there is no room.
-- Assumes nothing.
use mathlib.Core.Path.{◌≡◌, refl, sym, ap, ap₂, ◌∙◌, subst}
use mathlib.Core.Bool.{Bool, true, false, cond, not, ◌&&◌, ◌||◌}
use mathlib.Core.List.{List, ◌++◌, append_assoc}
use Prim.Native.Nat.{ℕ, ◌+◌, ◌-◌, ◌*◌, ◌≤◌, ◌<◌}
use native.Mathlib.Omega.{arith}
use lib.Dec.{eqb, leb}
use lib.ListN.{length, take, drop, length-append, length-replicate}
use lib.Seq.{take-append-le, take-take, drop_at}
use borrow.Author.Tests.{ne_eqb, eqb-true, eqb-false, eq-eqb, leb-true}
use Rattle.ground.specs.Area.{zeros, padded}
use Rattle.ground.specs.Runs.{all, joined}
use Rattle.ground.proofs.Tests.{and_left, and_right}
use Rattle.records.specs.declared.Head.{Head}
use Rattle.records.specs.declared.Place.{Place}
use Rattle.std.specs.Prelude.{Option, Some, None, Result, Err}
use Rattle.ground.specs.declared.refusals.Refusal.{Refusal}
use Rattle.records.specs.Versions.{head_length, record_head_length, max_width}
use Rattle.records.proofs.VersionLaws.{head_length_low}
use Rattle.rows.specs.Rows.{legal_byte}
use Rattle.records.specs.Records.{minus_one, is_live_of, has_live, none_twice, record_list}
use Rattle.records.specs.Places.{place_in}
use Rattle.edits.specs.Changes.{new_record, removed, placed, has_free, kept}
use Rattle.records.specs.Letters.{Letter, letter, no_letter, letter_in}
use Rattle.edits.proofs.WriteLaws.{length_new}
use Rattle.edits.proofs.ReadBack.{Wholes, reads_back}
use Rattle.edits.proofs.RecordLaws.{new_live, new_code_lem, new_width, new_rows, whole_new}
use Rattle.edits.proofs.ChangeLaws.{wholes_removed, wholes_placed, wholes_kept, once_removed, once_placed, once_kept, has_not, letter-none, letter-removed, letter-kept, letter-placed, letter_new}
use Rattle.edits.proofs.PlaceLaws.{read_at, removed-long, kept-long, placed-long, kept_none_free}
use Rattle.ground.specs.Refusals.{refusal, bad_shape}
use Rattle.pack.specs.declared.Located.{Located}
use Rattle.heads.specs.Pack.{is_head, head_of, Pack, says, meaning, remade}
use Rattle.pack.specs.Calls.{located_at, located_in, found_at, find_told, rows_part, rows_told, letter_of, letter_found, good_letter, has_room}
use Rattle.heads.proofs.FindLaws.{letter-there}
use Rattle.heads.proofs.HeadLaws.{Headed, headed_of}
use Rattle.heads.proofs.OpenLaws.{Opens, opens_of, said, pack_wholes, head-size, pack_fits}

-- Whole records, no code twice, that fit: with the same head they are a pack that says them.
module _ (s : List ℕ) (f : Head) (rs : List (List ℕ)) (m : meaning s ≡ says f rs) where
  o : Opens s f rs
  o = opens_of s f rs m

  module _ (qs : List (List ℕ)) (fits : head_length f.version + length (joined qs) ≤ length s) where
    h : List ℕ
    h = take (head_length f.version) s

    k : ℕ
    k = length s - length (h ++ joined qs)

    remade-bytes : remade s qs ≡ h ++ (joined qs ++ zeros k)
    unfolding remade h k
    remade-bytes = ap (λ (g : Head). padded (take (head_length g.version) s ++ joined qs) (length s)) o.headed.head ∙ append_assoc (take (head_length f.version) s) (joined qs) (zeros (length s - length (take (head_length f.version) s ++ joined qs)))

    pub remade-long : length (remade s qs) ≡ length s
    unfolding h k
    remade-long =
        let x = take (head_length f.version) s in
        let j = length s - length (x ++ joined qs) in
        omega (arith, ap length remade-bytes, length-append x (joined qs ++ zeros j), length-append (joined qs) (zeros j), length-replicate {A = ℕ} j 0, length-append x (joined qs), head-size s f rs o)

    front : take 7 (remade s qs) ≡ take 7 s
    unfolding h
    front =
        ap (take 7) remade-bytes ∙ take-append-le 7 (take (head_length f.version) s) (joined qs ++ zeros k) (omega (arith, head-size s f rs o, head_length_low f.version)) ∙
        take-take 7 (head_length f.version) s (head_length_low f.version)

    headed : Headed (remade s qs) f
    headed =
        let g : is_head (length (remade s qs)) (take 7 (remade s qs)) ≡ true = ap₂ is_head remade-long front ∙ o.headed.good in
        subst (Headed (remade s qs)) (ap head_of front ∙ o.headed.head) (headed_of (remade s qs) g)

    pub accepted : Wholes f qs → none_twice qs ≡ true → meaning (remade s qs) ≡ says f qs
    unfolding h
    accepted w n =
        said (remade s qs) f qs (record {
          headed = headed;
          read =
              ap (record_list f) (ap (drop (head_length f.version)) remade-bytes ∙ drop_at (take (head_length f.version) s) (joined qs ++ zeros k) (head_length f.version) (head-size s f rs o)) ∙
              reads_back f qs k w;
          once = n;
        })

  wholes : Wholes f rs
  wholes = pack_wholes s f rs o

  -- "Each change leaves a pack that check accepts", and it says the changed records.
  pub remove_accepted : (code : ℕ) → meaning (remade s (removed code rs)) ≡ says f (removed code rs)
  remove_accepted code = accepted (removed code rs) (omega (arith, removed-long f code wholes, pack_fits s f rs o)) (wholes_removed f code wholes) (once_removed code rs o.once)

  pub compact_accepted : meaning (remade s (kept rs)) ≡ says f (kept rs)
  compact_accepted = accepted (kept rs) (omega (arith, kept-long f rs, pack_fits s f rs o)) (wholes_kept f wholes) (once_kept rs o.once)

  pub compact_long : length (remade s (kept rs)) ≡ length s
  compact_long = remade-long (kept rs) (omega (arith, kept-long f rs, pack_fits s f rs o))

  module _ (code width : ℕ) (rows : List ℕ) (g : good_letter f code width rows ≡ true) (c : code < 4294967296) (a : has_live code rs ≡ false) (r : has_room f (length s) width rs ≡ true) where
    new : List ℕ
    new = new_record f.version code width rows

    no_none : not (eqb code minus_one) ≡ true
    unfolding good_letter
    no_none = and_left (not (eqb code minus_one)) _ g

    rest : (leb width (max_width f.version) && (eqb (length rows) (f.height * width) && all (legal_byte f.hardblank.0) rows)) ≡ true
    unfolding good_letter
    rest = and_right (not (eqb code minus_one)) (leb width (max_width f.version) && (eqb (length rows) (f.height * width) && all (legal_byte f.hardblank.0) rows)) g

    narrow : width ≤ max_width f.version
    narrow = leb-true width (max_width f.version) (and_left (leb width (max_width f.version)) (eqb (length rows) (f.height * width) && all (legal_byte f.hardblank.0) rows) rest)

    both : (eqb (length rows) (f.height * width) && all (legal_byte f.hardblank.0) rows) ≡ true
    both = and_right (leb width (max_width f.version)) (eqb (length rows) (f.height * width) && all (legal_byte f.hardblank.0) rows) rest

    long : length rows ≡ f.height * width
    long = eqb-true (length rows) (f.height * width) (and_left (eqb (length rows) (f.height * width)) (all (legal_byte f.hardblank.0) rows) both)

    new_long : length (new_record f.version code width rows) ≡ record_head_length f.version + f.height * width
    new_long = length_new f.version code width rows ∙ ap (λ (j : ℕ). record_head_length f.version + j) long

    placed-fits : head_length f.version + length (joined (placed f width (new_record f.version code width rows) rs)) ≤ length s
    unfolding has_room
    placed-fits = go (has_free f width rs) r (placed-long f width (new_record f.version code width rows) new_long wholes)
      where
        go : (b : Bool) → (b || leb (head_length f.version + length (joined rs) + (record_head_length f.version + f.height * width)) (length s)) ≡ true →
            length (joined (placed f width (new_record f.version code width rows) rs)) ≡ length (joined rs) + cond b 0 (length (new_record f.version code width rows)) →
            head_length f.version + length (joined (placed f width (new_record f.version code width rows) rs)) ≤ length s
        go true e l = omega (arith, pack_fits s f rs o)
        go false e l = omega (arith, leb-true (head_length f.version + length (joined rs) + (record_head_length f.version + f.height * width)) (length s) e, new_long)

    pub put_accepted : meaning (remade s (placed f width (new_record f.version code width rows) rs)) ≡ says f (placed f width (new_record f.version code width rows) rs)
    put_accepted =
        accepted (placed f width (new_record f.version code width rows) rs) placed-fits
        (wholes_placed f width (new_record f.version code width rows) (whole_new f code width rows c narrow long no_none (and_right (eqb (length rows) (f.height * width)) (all (legal_byte f.hardblank.0) rows) both)) wholes)
        (once_placed f width (new_record f.version code width rows) (new_live f code width rows) rs (ap (λ (j : ℕ). has_live j rs) (new_code_lem f code width rows c) ∙ a) o.once)

    new_of_lem : (d : ℕ) → is_live_of d (new_record f.version code width rows) ≡ eqb code d
    unfolding is_live_of
    new_of_lem d = ap₂ (λ (x : Bool) (y : ℕ). x && eqb y d) (new_live f code width rows) (new_code_lem f code width rows c)

    -- The letter that was put, and every other one.
    pub put_itself : letter_in f code (placed f width (new_record f.version code width rows) rs) ≡ letter width rows
    put_itself =
        letter_new f code width (new_record f.version code width rows) rs a (new_of_lem code ∙ eq-eqb code code refl) ∙
        ap₂ letter (new_width f code width rows narrow) (new_rows f code width rows c narrow long)

    pub put_others : (d : ℕ) → (d ≡ code → ⊥) → letter_in f d (placed f width (new_record f.version code width rows) rs) ≡ letter_in f d rs
    put_others d n = letter-placed f d width (new_record f.version code width rows) rs (new_of_lem d ∙ ne_eqb code d λ e. n (sym e))

-- What find tells is the letter of the records that the pack says.
pub find_letter : (s : List ℕ) (f : Head) (rs : List (List ℕ)) → meaning s ≡ says f rs → (code : ℕ) → (code ≡ minus_one → ⊥) → letter_found s code ≡ letter_in f code rs
unfolding letter_found find_told rows_told located_in
find_letter s f rs m code n =
    let h = head_length f.version in
    ap (λ (p : Pack). told (located_in p code)) m ∙ ap (λ (b : Bool). told (cond b (Err (refusal bad_shape 0)) (located_at f (place_in f code h rs)))) (ne_eqb code minus_one n) ∙
    same (place_in f code h rs) ∙ letter-there s f rs m code
  where
    told : Result Located Refusal → Letter
    told x = letter_of (rows_part s x) (found_at x)

    same : (x : Option Place) → letter_of (rows_part s (located_at f x)) (found_at (located_at f x)) ≡ read_at f s x
    same (Some p) = refl
    same None = refl

-- Code -1 has no letter.
find_none : (s : List ℕ) (f : Head) (rs : List (List ℕ)) → meaning s ≡ says f rs → (code : ℕ) → code ≡ minus_one → letter_found s code ≡ no_letter
unfolding letter_found find_told rows_told located_in
find_none s f rs m code e =
    ap (λ (p : Pack). letter_of (rows_part s (located_in p code)) (found_at (located_in p code))) m ∙
    ap (λ (b : Bool). letter_of (rows_part s (cond b (Err (refusal bad_shape 0)) (located_at f (place_in f code (head_length f.version) rs)))) (found_at (cond b (Err (refusal bad_shape 0)) (located_at f (place_in f code (head_length f.version) rs))))) (eq-eqb code minus_one e)

-- Two packs with one head tell the same letter of a code where their records have the same.
same-found : (s t : List ℕ) (f : Head) (rs qs : List (List ℕ)) → meaning s ≡ says f rs → meaning t ≡ says f qs → (d : ℕ) → letter_in f d qs ≡ letter_in f d rs → letter_found t d ≡ letter_found s d
same-found s t f rs qs m n d e = go (eqb d minus_one) refl
  where
    go : (b : Bool) → eqb d minus_one ≡ b → letter_found t d ≡ letter_found s d
    go true q = let z = eqb-true d minus_one q in find_none t f qs n d z ∙ sym (find_none s f rs m d z)
    go false q = let z = eqb-false d minus_one q in find_letter t f qs n d z ∙ e ∙ sym (find_letter s f rs m d z)

module _ (s : List ℕ) (f : Head) (rs : List (List ℕ)) (m : meaning s ≡ says f rs) where
  -- Find after remove.
  pub removed_gone : (code : ℕ) → (code ≡ minus_one → ⊥) → letter_found (remade s (removed code rs)) code ≡ no_letter
  removed_gone code n = find_letter (remade s (removed code rs)) f (removed code rs) (remove_accepted s f rs m code) code n ∙ letter-none f code (removed code rs) (has_not code rs (opens_of s f rs m).once)

  pub removed_others : (code d : ℕ) → (d ≡ code → ⊥) → letter_found (remade s (removed code rs)) d ≡ letter_found s d
  removed_others code d e = same-found s (remade s (removed code rs)) f rs (removed code rs) m (remove_accepted s f rs m code) d (letter-removed f d code e rs)

  -- Find after compact.
  pub compact_all : (d : ℕ) → letter_found (remade s (kept rs)) d ≡ letter_found s d
  compact_all d = same-found s (remade s (kept rs)) f rs (kept rs) m (compact_accepted s f rs m) d (letter-kept f d rs)

  -- Find after put.
  module _ (code width : ℕ) (rows : List ℕ) (g : good_letter f code width rows ≡ true) (c : code < 4294967296) (a : has_live code rs ≡ false) (r : has_room f (length s) width rs ≡ true) where
    pub put_found : letter_found (remade s (placed f width (new_record f.version code width rows) rs)) code ≡ letter width rows
    put_found =
        find_letter (remade s (placed f width (new_record f.version code width rows) rs)) f (placed f width (new_record f.version code width rows) rs) (put_accepted s f rs m code width rows g c a r) code
        (eqb-false code minus_one (not_true (eqb code minus_one) (no_none s f rs m code width rows g c a r))) ∙
        put_itself s f rs m code width rows g c a r
      where
        not_true : (b : Bool) → not b ≡ true → b ≡ false
        not_true true e = sym e
        not_true false e = refl

    pub put_found_others : (d : ℕ) → (d ≡ code → ⊥) → letter_found (remade s (placed f width (new_record f.version code width rows) rs)) d ≡ letter_found s d
    put_found_others d e =
        same-found s (remade s (placed f width (new_record f.version code width rows) rs)) f rs (placed f width (new_record f.version code width rows) rs) m (put_accepted s f rs m code width rows g c a r) d
        (put_others s f rs m code width rows g c a r d e)

-- "After it put has room whenever the record fits behind them", and only then.
pub compact_room : (f : Head) (size width : ℕ) (rs : List (List ℕ)) → has_room f size width (kept rs) ≡ leb (head_length f.version + length (joined (kept rs)) + (record_head_length f.version + f.height * width)) size
unfolding has_room
compact_room f size width rs = rw (kept_none_free f width rs)
