-- The call `read_control`: what it answers and what its four lists hold, for every input.
-- Assumes nothing.
use Rattle.std.specs.Prelude.{◌≡◌, ℕ, min, Bool, true, false, cond, List, ltb, length, Result, Ok, Err}
use Rattle.ground.specs.Limits.{max_commands}
use Rattle.ground.specs.Refusals.{refusal, number_of, area_too_small}
use Rattle.ground.specs.declared.refusals.Refusal.{Refusal}
use Rattle.flc.specs.declared.ControlRead as counts
use Rattle.flc.specs.Control.{ControlReading, refuses, control}
use Rattle.flc.specs.Lists.{control_answer, CommandLists, lists_of}

-- The room for commands that lent lists have: that of the shortest.
abbrev pub room_of : CommandLists → ℕ
room_of lent = min (min (length lent.stages) (length lent.firsts)) (min (length lent.lasts) (length lent.news))

-- "Reading a control file: 9 (room for under 256 commands), 10, then 11 to 14 as met": a control file, read into lent lists.
unfoldable pub control_reading : CommandLists → List ℕ → ControlReading
control_reading lent s = cond (ltb (room_of lent) max_commands) (refuses (refusal area_too_small 0)) (control s)

-- What an answer tells. "A refusal answers its number and place (0 where none is named); other numbers are 0."
pub record ControlTold : Type 0 where
  pub refused : Bool
  pub number : ℕ
  pub place : ℕ
  pub commands : ℕ
  pub stages : ℕ

abbrev pub control_tells : Result counts.ControlRead Refusal → ControlTold
control_tells (Ok r) = record { refused = false; number = 0; place = 0; commands = r.commands; stages = r.stages }
control_tells (Err r) = record { refused = true; number = number_of r.reason; place = r.place; commands = 0; stages = 0 }

abbrev pub control_told : ControlReading → ControlTold
control_told x = control_tells (control_answer x)

-- What the call answers, and all that its four lists hold.
pub record ControlRead (s : List ℕ) (lent : CommandLists) (r : Result counts.ControlRead Refusal) (left : CommandLists) : Type 0 where
  pub answer : control_tells r ≡ control_told (control_reading lent s)
  pub lists : left ≡ lists_of (control_reading lent s) lent
