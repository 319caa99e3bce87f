-- What the calls on a pack answer, and what they leave in it: document 02, Q-6. The refusals come "in that order".
-- Assumes nothing.
use Rattle.std.specs.Prelude.{◌≡◌, ℕ, ◌+◌, ◌*◌, ◌<◌, Bool, true, cond, not, ◌&&◌, ◌||◌, List, [], eqb, leb, length, take, drop, Option, Some, None, Result, Ok, Err}
use Rattle.std.specs.Borrow.{Bor}
use Rattle.ground.specs.declared.refusals.Reason.{Reason}
use Rattle.ground.specs.declared.refusals.Refusal.{Refusal}
use Rattle.ground.specs.Refusals.{refusal, bad_shape, damaged_pack, code_present, code_absent, no_room}
use Rattle.ground.specs.Runs.{all, joined}
use Rattle.records.specs.declared.Head.{Head}
use Rattle.records.specs.declared.Place.{Place}
use Rattle.records.specs.Versions.{head_length, record_head_length, max_width}
use Rattle.rows.specs.Rows.{legal_byte}
use Rattle.records.specs.Records.{minus_one, has_live, live_count}
use Rattle.records.specs.Places.{place_in}
use Rattle.edits.specs.Changes.{new_record, removed, placed, has_free, kept}
use Rattle.records.specs.Letters.{Letter, letter, no_letter}
use Rattle.heads.specs.Pack.{Pack, says, damaged, meaning, remade}
use Rattle.heads.specs.declared.Opened.{Opened}
use Rattle.pack.specs.declared.Accepted.{Accepted}
use Rattle.pack.specs.declared.Located.{Located}
use Rattle.pack.specs.declared.Found.{Found}

-- A pack that is open, or "20 damaged pack".
abbrev pub opened_or_refused : Pack → Result Opened Refusal
opened_or_refused (says f rs) = Ok (record { head = f; live = live_count rs })
opened_or_refused damaged = Err (refusal damaged_pack 0)

-- "Calls: check": "20 damaged pack"; of any other its height and how many live records it has.
unfoldable pub check_told : Pack → Result Accepted Refusal
check_told (says f rs) = Ok (record { height = f.height; live = live_count rs })
check_told damaged = Err (refusal damaged_pack 0)

-- "Find (width and rows, a part of the pack)": place, width and size of the rows.
abbrev pub located_at : Head → Option Place → Result Located Refusal
located_at f (Some p) = Ok (record { place = p.at + record_head_length f.version; width = p.width; size = f.height * p.width })
located_at f None = Err (refusal code_absent 0)

unfoldable pub located_in : Pack → ℕ → Result Located Refusal
located_in (says f rs) code = cond (eqb code minus_one) (Err (refusal bad_shape 0)) (located_at f (place_in f code (head_length f.version) rs))
located_in damaged code = Err (refusal damaged_pack 0)

abbrev pub found_at : Result Located Refusal → Result Found Refusal
found_at (Ok l) = Ok (record { place = l.place; width = l.width })
found_at (Err r) = Err r

unfoldable pub find_told : Pack → ℕ → Result Found Refusal
find_told p code = found_at (located_in p code)

abbrev pub rows_part : List ℕ → Result Located Refusal → List ℕ
rows_part s (Ok l) = take l.size (drop l.place s)
rows_part s (Err r) = []

unfoldable pub rows_told : List ℕ → ℕ → List ℕ
rows_told s code = rows_part s (located_in (meaning s) code)

-- The part itself, and not a place with equal bytes: it lies in the same memory as the pack, as far behind its start as find tells.
pub record LiesIn (pack : Bor (List ℕ)) (x : Result Located Refusal) (part : Bor (List ℕ)) : Type 0 where
  pub there : (l : Located) → x ≡ Ok l → (part.ref_ptr.0 ≡ pack.ref_ptr.0) × (part.ref_ptr.1 ≡ l.place + pack.ref_ptr.1)

-- The letter that find tells of a code: its width and its rows; none where it refuses.
abbrev pub letter_of : List ℕ → Result Found Refusal → Letter
letter_of rows (Ok f) = letter f.width rows
letter_of rows (Err r) = no_letter

unfoldable pub letter_found : List ℕ → ℕ → Letter
letter_found s code = letter_of (rows_told s code) (find_told (meaning s) code)

-- A change: the records afterwards, or why it is refused.
pub data Change : Type 0 where
  changed : List (List ℕ) → Change
  refused : Reason → Change

abbrev pub tells : Change → Result Unit Refusal
tells (changed rs) = Ok tt
tells (refused why) = Err (refusal why 0)

-- "A refusal leaves a pack's bytes as they were lent."
abbrev pub bytes_after : List ℕ → Change → List ℕ
bytes_after s (changed rs) = remade s rs
bytes_after s (refused why) = s

pub record Changes (x : Change) (old : List ℕ) (r : Result Unit Refusal) (new : List ℕ) : Type 0 where
  pub answer : r ≡ tells x
  pub bytes : new ≡ bytes_after old x

-- "Remove changes only the 1 to 2." "20 damaged pack, 17 for .. code -1, .. 22 code absent, .. in that order."
unfoldable pub removal : Pack → ℕ → Change
removal (says f rs) code = cond (eqb code minus_one) (refused bad_shape) (cond (has_live code rs) (changed (removed code rs)) (refused code_absent))
removal damaged code = refused damaged_pack

-- "17 for .. code -1 or a letter of such a width or row byte or not Height times width long": any other letter is good.
unfoldable pub good_letter : Head → ℕ → ℕ → List ℕ → Bool
good_letter f code width rows = not (eqb code minus_one) && (leb width (max_width f.version) && (eqb (length rows) (f.height * width) && all (legal_byte f.hardblank.0) rows))

-- "It has no room exactly when neither exists": a free record of the width, or a tail that the record fits.
unfoldable pub has_room : Head → ℕ → ℕ → List (List ℕ) → Bool
has_room f size width rs = has_free f width rs || leb (head_length f.version + length (joined rs) + (record_head_length f.version + f.height * width)) size

unfoldable pub insertion : Pack → ℕ → ℕ → ℕ → List ℕ → Change
insertion (says f rs) size code width rows =
    cond (good_letter f code width rows)
    (cond (has_live code rs) (refused code_present)
    (cond (has_room f size width rs) (changed (placed f width (new_record f.version code width rows) rs)) (refused no_room)))
    (refused bad_shape)
insertion damaged size code width rows = refused damaged_pack

-- What `put_letter` asks: the pack says the head, and the letter is good.
pub record Puttable (f : Head) (s : List ℕ) (code width : ℕ) (rows : List ℕ) : Type 0 where
  pub records : List (List ℕ)
  pub said : meaning s ≡ says f records
  pub letter : good_letter f code width rows ≡ true
  pub small : code < 4294967296

-- "Compact drops free records, keeps the live ones in order."
unfoldable pub compaction : Pack → Change
compaction (says f rs) = changed (kept rs)
compaction damaged = refused damaged_pack
