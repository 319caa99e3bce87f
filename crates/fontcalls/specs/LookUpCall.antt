-- The call `look_up`: what it answers, for every input.
-- Assumes nothing.
use Rattle.std.specs.Prelude.{ℕ, Bool, true, false, List, Result, Ok, Err}
use Rattle.ground.specs.Refusals.{number_of}
use Rattle.ground.specs.declared.refusals.Refusal.{Refusal}
use Rattle.subchars.specs.declared.Code.{Code}
use Rattle.font.specs.Font.{FontReading, says, refuses, reading}
use Rattle.reader.specs.declared.LookedUp.{LookedUp}
use Rattle.reader.specs.declared.LookedUp.TheVariants.{Nothing}
use Rattle.reader.specs.Reader.{looked_up}
use Rattle.finding.specs.Finding.{EntryTold, entry_tells}

-- What an answer tells. "A refusal answers its number and place (0 where none is named); other numbers are 0."
pub record LookUpTold : Type 0 where
  pub refused : Bool
  pub number : ℕ
  pub place : ℕ
  pub entry : EntryTold

abbrev pub look_up_tells : Result LookedUp Refusal → LookUpTold
look_up_tells (Ok u) = record { refused = false; number = 0; place = 0; entry = entry_tells u }
look_up_tells (Err r) = record { refused = true; number = number_of r.reason; place = r.place; entry = entry_tells Nothing }

-- "Look-up ..: those of" the font; otherwise "which of three it was".
abbrev pub told_by : Code → FontReading → LookUpTold
told_by c (says h es) = look_up_tells (Ok (looked_up c es))
told_by c (refuses r) = look_up_tells (Err r)

unfoldable pub look_up_told : List ℕ → Code → LookUpTold
look_up_told s c = told_by c (reading s)
