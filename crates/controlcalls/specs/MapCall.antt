-- The call `map_code`: what it answers, for every input.
-- Assumes nothing.
use Rattle.std.specs.Prelude.{ℕ, Bool, true, false, List, ℤ, pos, Result, Ok, Err}
use Rattle.ground.specs.Refusals.{number_of}
use Rattle.ground.specs.declared.refusals.Refusal.{Refusal}
use Rattle.subchars.specs.declared.Code.{Code}
use Rattle.flc.specs.Control.{ControlReading, reads, refuses, control}
use Rattle.mapping.specs.Mapping.{map_stages}

-- What an answer tells. "A refusal answers its number and place (..); other numbers are 0."
pub record MapTold : Type 0 where
  pub refused : Bool
  pub number : ℕ
  pub place : ℕ
  pub code : ℤ

abbrev pub map_tells : Result Code Refusal → MapTold
map_tells (Ok z) = record { refused = false; number = 0; place = 0; code = z.0 }
map_tells (Err r) = record { refused = true; number = number_of r.reason; place = r.place; code = pos 0 }

-- "Mapping a code: those of their file": by all stages of the file, the first one first, or the file's refusal.
abbrev pub mapped_by : ControlReading → Code → Result Code Refusal
mapped_by (reads cs stages) z = Ok (map_stages cs 0 stages z)
mapped_by (refuses r) z = Err r

unfoldable pub map_told : List ℕ → Code → MapTold
map_told s z = map_tells (mapped_by (control s) z)
