-- The characters of a font on its lines: document 01, "The font, line by line".
-- Assumes nothing.
use Rattle.std.specs.Prelude.{ℕ, zero, suc, Bool, true, cond, ◌&&◌, Option, Some, None, Result, Ok, Err, List, [], ◌∷◌, ltb, pos, drop}
use Rattle.ground.specs.Runs.{all}
use Rattle.ground.specs.Refusals.{refusal, missing_line, bad_code_tag, too_many_characters}
use Rattle.ground.specs.declared.refusals.Refusal.{Refusal}
use Rattle.ground.specs.Limits.{max_characters}
use Rattle.subchars.specs.declared.Code.{Code}
use Rattle.lines.specs.Lines.{TextLine}
use Rattle.lines.specs.Words.{is_blank}
use Rattle.rows.specs.declared.Format.{Format}
use Rattle.rows.specs.Rows.{character_rows, line_count}
use Rattle.chars.specs.declared.Entry.{Entry}
use Rattle.chars.specs.Codes.{code, tag_of}

-- How the characters end: with the file, or with a refusal.
pub data Ending : Type 0 where
  finished : Ending
  stopped : Refusal → Ending

-- The characters that are listed, "in file order", and how they end.
pub record Listing : Type 0 where
  pub entries : List Entry
  pub ending : Ending

abbrev pub ends : Ending → Listing
ends e = record { entries = []; ending = e }

abbrev pub with_entry : Entry → Listing → Listing
with_entry e more = record { entries = e ∷ more.entries; ending = more.ending }

-- "Code, start of the first row line, width."
abbrev pub entry : Code → ℕ → ℕ → Entry
entry c start width = record { code = c; start = start; width = width }

-- A character whose first row line is the first of the lines, and then those that follow it.
abbrev pub listed : Result ℕ Refusal → Code → ℕ → Listing → Listing
listed (Ok w) c start more = with_entry (entry c start w) more
listed (Err r) c start more = ends (stopped r)

abbrev pub character_then : Format → ℕ → Code → List TextLine → Listing → Listing
character_then f size c [] more = ends (stopped (refusal missing_line size))
character_then f size c (l ∷ ls) more = listed (character_rows f size (l ∷ ls)) c l.start more

-- "All that remains is blanks, tabs and line ends."
unfoldable pub blank_lines : List TextLine → Bool
blank_lines [] = true
blank_lines (l ∷ ls) = all is_blank l.text && blank_lines ls

-- A tag line that starts at a place, after n characters: "on one tag line 7 before 8".
abbrev pub tagged : Option Code → Format → ℕ → ℕ → ℕ → List TextLine → Listing → Listing
tagged None f size start n ls more = ends (stopped (refusal bad_code_tag start))
tagged (Some c) f size start n ls more = cond (ltb n max_characters) (character_then f size c ls more) (ends (stopped (refusal too_many_characters start)))

-- "Then tagged characters to the end", after n others; the first k lines are rows of the character before.
-- "If, where a tag line is due, all that remains is blanks, tabs and line ends, the file has ended."
unfoldable pub tagged_from : Format → ℕ → ℕ → ℕ → List TextLine → Listing
tagged_from f size k n [] = ends finished
tagged_from f size (suc k) n (l ∷ ls) = tagged_from f size k n ls
tagged_from f size zero n (l ∷ ls) =
    cond (blank_lines (l ∷ ls)) (ends finished)
    (tagged (tag_of l.text) f size l.start n ls (tagged_from f size (line_count f) (suc n) ls))

-- "After the comment lines come" the characters of the required codes, and then the tagged ones.
unfoldable pub listing : Format → ℕ → List ℕ → ℕ → List TextLine → Listing
listing f size [] n ls = tagged_from f size 0 n ls
listing f size (c ∷ cs) n ls = character_then f size (code (pos c)) ls (listing f size cs (suc n) (drop (line_count f) ls))
