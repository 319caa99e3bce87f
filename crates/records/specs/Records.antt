-- The records of a pack: document 02, Q-6. A record is the list of its bytes.
-- Assumes nothing.
use Rattle.std.specs.Prelude.{ℕ, zero, suc, ◌+◌, ◌-◌, ◌*◌, Bool, true, false, cond, not, ◌&&◌, ◌||◌, List, [], ◌∷◌, eqb, leb, length, take, drop, get_or}
use Rattle.ground.specs.Runs.{all}
use Rattle.rows.specs.Rows.{legal_byte}
use Rattle.areas.specs.Numbers.{number_of}
use Rattle.records.specs.declared.Head.{Head}
use Rattle.records.specs.Versions.{width_length, record_head_length, max_width}

abbrev pub is_zero : ℕ → Bool
is_zero b = eqb b 0

-- "One byte 1 for live or 2 for free".
abbrev pub live : ℕ
live = 1

abbrev pub free_status : ℕ
free_status = 2

unfoldable pub is_live : List ℕ → Bool
is_live r = eqb (get_or r 0 0) live

-- "The code in four bytes high first"; -1 is four bytes 255.
unfoldable pub code_in : List ℕ → ℕ
code_in r = number_of (take 4 (drop 1 r))

abbrev pub minus_one : ℕ
minus_one = 4294967295

-- "One byte width".
unfoldable pub width_in : Head → List ℕ → ℕ
width_in f r = number_of (take (width_length f.version) (drop 5 r))

-- "Then the rows": Height times width bytes.
unfoldable pub rows_in : Head → List ℕ → List ℕ
rows_in f r = take (f.height * width_in f r) (drop (record_head_length f.version) r)

-- How many bytes the record at the start of a list has.
unfoldable pub size_in : Head → List ℕ → ℕ
size_in f r = record_head_length f.version + f.height * width_in f r

-- "Damaged is whatever breaks this layout, .. code -1, a width over 199".
unfoldable pub good_fields : ℕ → ℕ → ℕ → ℕ → Bool
good_fields version status code width = not (eqb code minus_one) && (leb width (max_width version) && (eqb status live || eqb status free_status))

-- A record stands at the start of a list: its head and its rows are all there and good, with no "row byte that 01 refuses".
unfoldable pub good_record : Head → List ℕ → Bool
good_record f t =
    leb (record_head_length f.version) (length t) &&
    (good_fields f.version (get_or t 0 0) (code_in t) (width_in f t) && (leb (size_in f t) (length t) && all (legal_byte f.hardblank.0) (rows_in f t)))

-- The records at the start of a list, and whether all behind them is zero.
pub record RecordList : Type 0 where
  pub records : List (List ℕ)
  pub whole : Bool

abbrev pub list_ends : Bool → RecordList
list_ends b = record { records = []; whole = b }

abbrev pub with_record : List ℕ → RecordList → RecordList
with_record r more = record { records = r ∷ more.records; whole = more.whole }

-- "Then records .. Behind the last record all is zero." The first k bytes belong to the record before.
unfoldable pub records_from : Head → ℕ → List ℕ → RecordList
records_from f k [] = list_ends true
records_from f (suc k) (b ∷ bs) = records_from f k bs
records_from f zero (b ∷ bs) =
    cond (all is_zero (b ∷ bs)) (list_ends true)
    (cond (good_record f (b ∷ bs)) (with_record (take (size_in f (b ∷ bs)) (b ∷ bs)) (records_from f (size_in f (b ∷ bs) - 1) bs))
    (list_ends false))

abbrev pub record_list : Head → List ℕ → RecordList
record_list f t = records_from f 0 t

-- A live record of a code.
unfoldable pub is_live_of : ℕ → List ℕ → Bool
is_live_of code r = is_live r && eqb (code_in r) code

-- One of the records is live and of the code.
unfoldable pub has_live : ℕ → List (List ℕ) → Bool
has_live code [] = false
has_live code (r ∷ rs) = is_live_of code r || has_live code rs

-- "A repeated live code" is damage.
unfoldable pub none_twice : List (List ℕ) → Bool
none_twice [] = true
none_twice (r ∷ rs) = not (is_live r && has_live (code_in r) rs) && none_twice rs

-- How many records are live.
unfoldable pub live_count : List (List ℕ) → ℕ
live_count [] = 0
live_count (r ∷ rs) = cond (is_live r) 1 0 + live_count rs

-- A free record of a width.
unfoldable pub is_free_of : Head → ℕ → List ℕ → Bool
is_free_of f width r = not (is_live r) && eqb (width_in f r) width
