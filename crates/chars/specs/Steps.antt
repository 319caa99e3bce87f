-- One character by places in a font: what one call of the reader answers.
-- Assumes nothing.
use Rattle.std.specs.Prelude.{ℕ, Bool, cond, ◌||◌, Option, Some, None, Result, Ok, Err, List, [], ◌∷◌, ltb, pos, length, drop}
use Rattle.ground.specs.Runs.{all}
use Rattle.ground.specs.Refusals.{refusal, bad_code_tag, too_many_characters}
use Rattle.ground.specs.declared.refusals.Refusal.{Refusal}
use Rattle.ground.specs.Limits.{max_characters}
use Rattle.subchars.specs.declared.Code.{Code}
use Rattle.lines.specs.declared.Cursor.{Cursor}
use Rattle.lines.specs.Lines.{is_end, text_at, next_start, cursor}
use Rattle.lines.specs.Words.{is_blank}
use Rattle.rows.specs.declared.Format.{Format}
use Rattle.rows.specs.declared.Rows.{Rows}
use Rattle.rows.specs.Steps.{char_at}
use Rattle.chars.specs.declared.TagLine.{TagLine}
use Rattle.chars.specs.declared.Listed.{Listed}
use Rattle.chars.specs.declared.Entry.{Entry}
use Rattle.chars.specs.Codes.{code, required_codes, tag_of}
use Rattle.chars.specs.Chars.{entry}

-- A character and the cursor behind it; none where the font has ended; or a refusal.
abbrev pub Next : Type 0
Next = Result (Option Listed) Refusal

abbrev pub listed_with : Entry → Cursor → Listed
listed_with e next = record { entry = e; next = next }

-- The character of a code, whose first row line is at a place.
abbrev pub listed_then : Result Rows Refusal → Code → ℕ → Next
listed_then (Ok x) c at = Ok (Some (listed_with (entry c at x.width) x.next))
listed_then (Err r) c at = Err r

unfoldable pub listed_at : Format → List ℕ → ℕ → Code → Next
listed_at f s at c = listed_then (char_at f s at) c at

-- The tag line at a place.
abbrev pub tag_with : Code → Cursor → TagLine
tag_with c next = record { code = c; next = next }

abbrev pub tag_then : Option Code → Cursor → Option TagLine
tag_then (Some c) next = Some (tag_with c next)
tag_then None next = None

unfoldable pub tag_at : List ℕ → ℕ → Option TagLine
tag_at s at = cond (ltb at (length s)) (tag_then (tag_of (text_at s at)) (cursor (next_start s at))) None

-- Only blanks, tabs and line ends remain.
abbrev pub is_space : ℕ → Bool
is_space x = is_blank x || is_end x

unfoldable pub blank_from : List ℕ → ℕ → Bool
blank_from s at = all is_space (drop at s)

-- The tagged character whose tag line is at a place, after n others.
abbrev pub tagged_then : Option TagLine → Format → List ℕ → ℕ → ℕ → Next
tagged_then (Some x) f s at n = cond (ltb n max_characters) (listed_at f s x.next.at x.code) (Err (refusal too_many_characters at))
tagged_then None f s at n = Err (refusal bad_code_tag at)

unfoldable pub tagged_at : Format → List ℕ → ℕ → ℕ → Next
tagged_at f s at n = cond (blank_from s at) (Ok None) (tagged_then (tag_at s at) f s at n)

-- The character at a place, after n others: the codes are those that are still required.
abbrev pub next_of : List ℕ → Format → List ℕ → ℕ → ℕ → Next
next_of [] f s at n = tagged_at f s at n
next_of (c ∷ cs) f s at n = listed_at f s at (code (pos c))

unfoldable pub next_at : Format → List ℕ → ℕ → ℕ → Next
next_at f s at n = next_of (drop n required_codes) f s at n
