-- The array that the filling moves entries from.
-- Assumes nothing.
use Rattle.std.specs.Prelude.{ℕ, ◌+◌}
use Rattle.ground.specs.Limits.{max_characters}
use Rattle.font.specs.Font.{FontReading}
use Rattle.reader.specs.Reader.{font_answer}
use Rattle.entries.specs.declared.listing.Listed.{Listed}
use Rattle.entries.specs.Filling.{index_of}

-- The array that entries are moved from has one more than a font can have characters.
abbrev pub array_length : ℕ
array_length = max_characters + 1

abbrev pub listed_of : FontReading → Listed
listed_of m = record { answer = font_answer m; entries = index_of m array_length }
