-- The theorems of Q-6 in the words of the contracts: what a call that is not refused has done.
-- Assumes nothing.
use mathlib.Core.Path.{◌≡◌, refl, sym, ap, ◌∙◌}
use mathlib.Core.Bool.{Bool, true, false, cond}
use mathlib.Core.List.{List}
use Prim.Native.Nat.{ℕ, ◌+◌, ◌≤◌, ◌<◌}
use native.Mathlib.Omega.{arith}
use lib.Dec.{eqb}
use lib.ListN.{length, get_or, set, length-set}
use borrow.Author.Tests.{eqb-false}
use Rattle.ground.specs.Refusals.{bad_shape, code_present, code_absent, no_room}
use Rattle.ground.proofs.Tests.{clash}
use Rattle.areas.specs.Laid.{laid}
use Rattle.areas.proofs.LaidLaws.{length-laid}
use Rattle.records.specs.declared.Head.{Head}
use Rattle.records.specs.declared.Place.{Place}
use Rattle.std.specs.Prelude.{Option, Some, None, is_some, Ok, Err}
use Rattle.records.specs.declared.Spot.{Spot}
use Rattle.records.specs.declared.Spot.TheVariants.{Free, Tail}
use Rattle.records.specs.Versions.{head_length}
use Rattle.records.specs.Records.{minus_one, has_live, live_count}
use Rattle.records.specs.Places.{place_in, spot_in}
use Rattle.records.proofs.WalkLaws.{place-has}
use Rattle.edits.specs.Changes.{new_record, removed, placed, kept}
use Rattle.records.specs.Letters.{letter, no_letter}
use Rattle.edits.proofs.WriteLaws.{length_new}
use Rattle.heads.specs.Pack.{Pack, says, meaning, remade}
use Rattle.ground.specs.declared.refusals.Refusal.{Refusal}
use Rattle.pack.specs.Calls.{check_told, letter_found, Change, changed, refused, tells, bytes_after, Changes, removal, good_letter, has_room, insertion, compaction}
use Rattle.pack.proofs.CallLaws.{removed-bytes, removed_was, free-room, put_free, put_tail, tail-room}
use Rattle.pack.proofs.Theorems.{remove_accepted, put_accepted, compact_accepted, compact_long, removed_gone, removed_others, put_found, put_found_others, compact_all}

-- "Check" accepts what says a head and records.
pub check_accepts : (s : List ℕ) (f : Head) (rs : List (List ℕ)) → meaning s ≡ says f rs → check_told (meaning s) ≡ Ok (record { height = f.height; live = live_count rs })
unfolding check_told
check_accepts s f rs m = ap check_told m

module _ (s new : List ℕ) (f : Head) (rs : List (List ℕ)) (m : meaning s ≡ says f rs) where
  -- Remove has done: the code is not -1, it was there, and these are the bytes.
  pub record Removes (code : ℕ) : Type 0 where
    pub legal : code ≡ minus_one → ⊥
    pub present : has_live code rs ≡ true
    pub bytes : new ≡ remade s (removed code rs)

  pub removes : (code : ℕ) → Changes (removal (meaning s) code) s (Ok tt) new → Removes code
  unfolding removal
  removes code x = go (eqb code minus_one) refl (has_live code rs) refl (x.answer ∙ ap (λ (p : Pack). tells (removal p code)) m) (x.bytes ∙ ap (λ (p : Pack). bytes_after s (removal p code)) m)
    where
      go : (a : Bool) → eqb code minus_one ≡ a → (b : Bool) → has_live code rs ≡ b →
          Ok tt ≡ tells (cond a (refused bad_shape) (cond b (changed (removed code rs)) (refused code_absent))) →
          new ≡ bytes_after s (cond a (refused bad_shape) (cond b (changed (removed code rs)) (refused code_absent))) → Removes code
      go true p b q e z = clash (cc)
      go false p false q e z = clash (cc)
      go false p true q e z = record { legal = eqb-false code minus_one p; present = q; bytes = z }

  -- Put has done: the letter is good, its code was not there, there was room, and these are the bytes.
  pub record Puts (code width : ℕ) (rows : List ℕ) : Type 0 where
    pub letter : good_letter f code width rows ≡ true
    pub absent : has_live code rs ≡ false
    pub room : has_room f (length s) width rs ≡ true
    pub bytes : new ≡ remade s (placed f width (new_record f.version code width rows) rs)

  pub puts : (code width : ℕ) (rows : List ℕ) → Changes (insertion (meaning s) (length s) code width rows) s (Ok tt) new → Puts code width rows
  unfolding insertion
  puts code width rows x = go (good_letter f code width rows) refl (has_live code rs) refl (has_room f (length s) width rs) refl (x.answer ∙ ap (λ (p : Pack). tells (insertion p (length s) code width rows)) m) (x.bytes ∙ ap (λ (p : Pack). bytes_after s (insertion p (length s) code width rows)) m)
    where
      go : (a : Bool) → good_letter f code width rows ≡ a → (b : Bool) → has_live code rs ≡ b → (d : Bool) → has_room f (length s) width rs ≡ d →
          Ok tt ≡ tells (cond a (cond b (refused code_present) (cond d (changed (placed f width (new_record f.version code width rows) rs)) (refused no_room))) (refused bad_shape)) →
          new ≡ bytes_after s (cond a (cond b (refused code_present) (cond d (changed (placed f width (new_record f.version code width rows) rs)) (refused no_room))) (refused bad_shape)) →
          Puts code width rows
      go false p b q d r e z = clash (cc)
      go true p true q d r e z = clash (cc)
      go true p false q false r e z = clash (cc)
      go true p false q true r e z = record { letter = p; absent = q; room = r; bytes = z }

  -- Compact has done: these are the bytes.
  pub compacts : Changes (compaction (meaning s)) s (Ok tt) new → new ≡ remade s (kept rs)
  unfolding compaction
  compacts x = x.bytes ∙ ap (λ (p : Pack). bytes_after s (compaction p)) m

  -- "Each change leaves a pack that check accepts."
  pub remove_outcome : (code : ℕ) → Changes (removal (meaning s) code) s (Ok tt) new → meaning new ≡ says f (removed code rs)
  remove_outcome code x = ap meaning (removes code x).bytes ∙ remove_accepted s f rs m code

  pub put_outcome : (code width : ℕ) (rows : List ℕ) → code < 4294967296 → Changes (insertion (meaning s) (length s) code width rows) s (Ok tt) new → meaning new ≡ says f (placed f width (new_record f.version code width rows) rs)
  put_outcome code width rows c x = let y = puts code width rows x in ap meaning y.bytes ∙ put_accepted s f rs m code width rows y.letter c y.absent y.room

  -- "Compact drops free records, keeps the live ones in order."
  pub compact_outcome : Changes (compaction (meaning s)) s (Ok tt) new → meaning new ≡ says f (kept rs)
  compact_outcome x = ap meaning (compacts x) ∙ compact_accepted s f rs m

  -- Find after remove: the code itself is gone, every other one has the same width and rows.
  pub remove_itself : (code : ℕ) → Changes (removal (meaning s) code) s (Ok tt) new → letter_found new code ≡ no_letter
  remove_itself code x = let y = removes code x in ap (λ (l : List ℕ). letter_found l code) y.bytes ∙ removed_gone s f rs m code y.legal

  pub remove_others : (code d : ℕ) → (d ≡ code → ⊥) → Changes (removal (meaning s) code) s (Ok tt) new → letter_found new d ≡ letter_found s d
  remove_others code d e x = ap (λ (l : List ℕ). letter_found l d) (removes code x).bytes ∙ removed_others s f rs m code d e

  -- Find after put: what was put, and every other code as before.
  module _ (code width : ℕ) (rows : List ℕ) (c : code < 4294967296) (x : Changes (insertion (meaning s) (length s) code width rows) s (Ok tt) new) where
    pub put_itself : letter_found new code ≡ letter width rows
    put_itself = let y = puts code width rows x in ap (λ (t : List ℕ). letter_found t code) y.bytes ∙ put_found s f rs m code width rows y.letter c y.absent y.room

    pub put_others : (d : ℕ) → (d ≡ code → ⊥) → letter_found new d ≡ letter_found s d
    put_others d e = let y = puts code width rows x in ap (λ (t : List ℕ). letter_found t d) y.bytes ∙ put_found_others s f rs m code width rows y.letter c y.absent y.room d e

  -- Find after compact: every code as before.
  pub compact_every : (d : ℕ) → Changes (compaction (meaning s)) s (Ok tt) new → letter_found new d ≡ letter_found s d
  compact_every d x = ap (λ (t : List ℕ). letter_found t d) (compacts x) ∙ compact_all s f rs m d

  -- "Remove changes only the 1 to 2": one byte.
  pub record OneByte : Type 0 where
    pub place : ℕ
    pub was : get_or s place 0 ≡ 1
    pub is : new ≡ set s place 2

  pub remove_one_byte : (code : ℕ) → Changes (removal (meaning s) code) s (Ok tt) new → OneByte
  remove_one_byte code x = let y = removes code x in go (place_in f code (head_length f.version) rs) refl y.present y.bytes
    where
      go : (p : Option Place) → p ≡ place_in f code (head_length f.version) rs → has_live code rs ≡ true → new ≡ remade s (removed code rs) → OneByte
      go (Some p) e h b = record { place = p.at; was = removed_was s f rs m code p e; is = b ∙ sym (removed-bytes s f rs m code p e) }
      go None e h b =
          let n : has_live code rs ≡ false = sym (place-has f code (head_length f.version) rs) ∙ ap is_some (sym e) in
          clash (cc)

  -- Put changes only the record that it writes.
  pub record Written (record-bytes : List ℕ) : Type 0 where
    pub place : ℕ
    pub inside : place + length record-bytes ≤ length s
    pub is : new ≡ laid place record-bytes s

  pub put_written : (code width : ℕ) (rows : List ℕ) → Changes (insertion (meaning s) (length s) code width rows) s (Ok tt) new → Written (new_record f.version code width rows)
  put_written code width rows x = let y = puts code width rows x in go (spot_in f width (head_length f.version) rs) refl y
    where
      same : (l : List ℕ) → Changes (insertion (meaning s) (length s) code width rows) s (Ok tt) l → Puts code width rows → new ≡ l
      same l z y = x.bytes ∙ sym z.bytes

      go : (p : Spot) → p ≡ spot_in f width (head_length f.version) rs → Puts code width rows → Written (new_record f.version code width rows)
      go (Free p) e y =
          let n = length_new f.version code width rows in
          record {
            place = p;
            inside = omega (arith, free-room s f rs m code width rows y.letter y.absent p e);
            is = same (laid p (new_record f.version code width rows) s) (put_free s f rs m code width rows y.letter y.absent p e) y;
          }
      go (Tail p) e y =
          let n = length_new f.version code width rows in
          let r = tail-room s f rs m code width rows y.letter y.absent p e y.room in
          record {
            place = p;
            inside = omega (arith, r);
            is = same (laid p (new_record f.version code width rows) s) (put_tail s f rs m code width rows y.letter y.absent p e r) y;
          }

  -- No call changes the pack's length.
  pub remove_length : (code : ℕ) → Changes (removal (meaning s) code) s (Ok tt) new → length new ≡ length s
  remove_length code x = let y = remove_one_byte code x in ap length y.is ∙ length-set s y.place 2

  pub put_length : (code width : ℕ) (rows : List ℕ) → Changes (insertion (meaning s) (length s) code width rows) s (Ok tt) new → length new ≡ length s
  put_length code width rows x = let y = put_written code width rows x in ap length y.is ∙ length-laid y.place (new_record f.version code width rows) s y.inside

  pub compact_length : Changes (compaction (meaning s)) s (Ok tt) new → length new ≡ length s
  compact_length x = ap length (compacts x) ∙ compact_long s f rs m

-- "23 no room": given exactly when the letter is good, its code is absent, and "neither exists".
module _ (s : List ℕ) (f : Head) (rs : List (List ℕ)) (m : meaning s ≡ says f rs) (code width : ℕ) (rows : List ℕ) (g : good_letter f code width rows ≡ true) (a : has_live code rs ≡ false) where
  pub no_room_lem : has_room f (length s) width rs ≡ false → insertion (meaning s) (length s) code width rows ≡ refused no_room
  unfolding insertion
  no_room_lem e = ap (λ (p : Pack). insertion p (length s) code width rows) m ∙ rw (g, a, e)

  pub room : has_room f (length s) width rs ≡ true → insertion (meaning s) (length s) code width rows ≡ changed (placed f width (new_record f.version code width rows) rs)
  unfolding insertion
  room e = ap (λ (p : Pack). insertion p (length s) code width rows) m ∙ rw (g, a, e)

-- "A refusal leaves a pack's bytes as they were lent", whatever was asked.
pub refusal_keeps : (x : Change) (s new : List ℕ) (r : Refusal) → Changes x s (Err r) new → new ≡ s
refusal_keeps (changed rs) s new r c = let e = c.answer in clash (cc)
refusal_keeps (refused n) s new r c = c.bytes
