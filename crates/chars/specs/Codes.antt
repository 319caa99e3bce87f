-- Character codes: the required ones, and those of code tags. Document 01, "The font, line by line".
-- Assumes nothing.
use Rattle.std.specs.Prelude.{ℕ, zero, suc, Bool, false, cond, Option, Some, None, List, [], ◌∷◌, ◌++◌, eqb, ℤ, pos, negsuc}
use Rattle.subchars.specs.declared.Code.{Code}
use Rattle.lines.specs.Words.{first_word}
use Rattle.lines.specs.Numbers.{code_number}

-- n numbers from k on.
unfoldable pub count : ℕ → ℕ → List ℕ
count k zero = []
count k (suc n) = k ∷ count (suc k) n

-- "Codes 32 to 126, then 196, 214, 220, 228, 246, 252, 223."
abbrev pub ascii_count : ℕ
ascii_count = 95

abbrev pub ascii : List ℕ
ascii = count 32 ascii_count

abbrev pub deutsch : List ℕ
deutsch = 196 ∷ 214 ∷ 220 ∷ 228 ∷ 246 ∷ 252 ∷ 223 ∷ []

unfoldable pub required_codes : List ℕ
required_codes = ascii ++ deutsch

-- How many they are.
abbrev pub required_count : ℕ
required_count = 102

abbrev pub code : ℤ → Code
code z = record { 0 = z }

-- Whether two codes are the same.
abbrev pub same_number : ℤ → ℤ → Bool
same_number (pos a) (pos b) = eqb a b
same_number (pos a) (negsuc b) = false
same_number (negsuc a) (pos b) = false
same_number (negsuc a) (negsuc b) = eqb a b

abbrev pub same_code : Code → Code → Bool
same_code a b = same_number a.0 b.0

-- "And not -1."
abbrev pub no_code : Code
no_code = code (negsuc 0)

abbrev pub tag_code : Option Code → Option Code
tag_code (Some c) = cond (same_code c no_code) None (Some c)
tag_code None = None

-- "A tag line's first word (blanks or tabs before it may stand) is" the code; "the rest is comment."
unfoldable pub tag_of : List ℕ → Option Code
tag_of t = tag_code (code_number (first_word t))
