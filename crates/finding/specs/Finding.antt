-- The call `find_in`: what it answers, for every list. Document 02, Q-2: "The look-up must say which of three it was: found as itself, stood in by code 0,
-- or nothing."
-- Assumes nothing.
use Rattle.std.specs.Prelude.{ℕ, Bool, true, false, List, ℤ, pos, take}
use Rattle.subchars.specs.declared.Code.{Code}
use Rattle.chars.specs.declared.Entry.{Entry}
use Rattle.reader.specs.declared.LookedUp.{LookedUp}
use Rattle.reader.specs.declared.LookedUp.TheVariants.{Found, StoodIn, Nothing}
use Rattle.reader.specs.Reader.{looked_up}

-- What an answer tells: which of three it was, and the entry with its own code, start and width.
pub record EntryTold : Type 0 where
  pub found : Bool
  pub stood_in : Bool
  pub code : ℤ
  pub start : ℕ
  pub width : ℕ

abbrev pub entry_tells : LookedUp → EntryTold
entry_tells (Found e) = record { found = true; stood_in = false; code = e.code.0; start = e.start; width = e.width }
entry_tells (StoodIn e) = record { found = false; stood_in = true; code = e.code.0; start = e.start; width = e.width }
entry_tells Nothing = record { found = false; stood_in = false; code = pos 0; start = 0; width = 0 }

-- Of the first entries of a list, as many as the count says; a count beyond the list's end is its length.
unfoldable pub found_told : List Entry → ℕ → Code → EntryTold
found_told es count c = entry_tells (looked_up c (take count es))
