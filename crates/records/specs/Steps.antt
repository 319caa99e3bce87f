-- What one call of the walkers answers.
-- Assumes nothing.
use Rattle.std.specs.Prelude.{◌≡◌, ℕ, ◌+◌, ◌≤◌, Bool, true, cond, ◌&&◌, List, [], ◌∷◌, length, drop, Option, Some, None, Result, Ok, Err}
use Rattle.ground.specs.Limits.{max_height}
use Rattle.ground.specs.Runs.{all}
use Rattle.records.specs.declared.Head.{Head}
use Rattle.records.specs.declared.Record.{Record}
use Rattle.records.specs.declared.Scan.{Scan}
use Rattle.records.specs.declared.Scan.TheVariants as scanned
use Rattle.records.specs.declared.Place.{Place}
use Rattle.records.specs.Records.{is_zero, is_live, code_in, width_in, size_in, good_record, RecordList, record_list, none_twice, live_count}

-- The record at the start of a list.
abbrev pub record_at : Head → List ℕ → Record
record_at f t = record { live = is_live t; code = code_in t; width = width_in f t; size = size_in f t }

-- What stands at the start of a list.
unfoldable pub scan_of : Head → List ℕ → Scan
scan_of f t = cond (all is_zero t) scanned.End (cond (good_record f t) (scanned.Record (record_at f t)) scanned.Damaged)

-- The same of a list that is known to be whole: there is no third case.
unfoldable pub skim_of : Head → List ℕ → Option Record
skim_of f t = cond (all is_zero t) None (Some (record_at f t))

-- From a place on, a pack has whole records and zeros behind them: what a walk over the heads alone asks.
pub record Walkable (f : Head) (s : List ℕ) (from : ℕ) : Type 0 where
  pub low : f.height ≤ max_height
  pub inside : from ≤ length s
  pub whole : (record_list f (drop from s)).whole ≡ true

-- A closure answers what a test says.
abbrev pub Tests : (Record → Bool → Type 0) → (Record → Bool) → Type 0
Tests post p = (r : Record) (b : Bool) → post r b → b ≡ p r

-- The first record that passes a test, where the first record starts at a place; or else where the records end.
unfoldable pub first_in : Head → (Record → Bool) → ℕ → List (List ℕ) → Result Place ℕ
first_in f p at [] = Err at
first_in f p at (r ∷ rs) = cond (p (record_at f r)) (Ok (record { at = at; width = width_in f r })) (first_in f p (at + length r) rs)

-- The number of live records, after n of them, if each record is good and all is zero behind the last.
unfoldable pub counted_from : ℕ → RecordList → Option ℕ
counted_from n x = cond x.whole (Some (n + live_count x.records)) None

-- The test of all records.
unfoldable pub soundness : RecordList → Option ℕ
soundness x = cond (x.whole && none_twice x.records) (Some (live_count x.records)) None
