-- Look-up in the codes of an index: document 01, "The font, line by line".
-- Assumes nothing.
use Rattle.std.specs.Prelude.{Bool, cond, Option, Some, None, List, [], ◌∷◌, ℕ, suc, ℤ, pos}
use Rattle.subchars.specs.declared.Code.{Code}
use Rattle.chars.specs.Codes.{same_number}

-- "When codes repeat, the last is used": the last place of a code.
abbrev pub or_here : Option ℕ → Bool → Option ℕ
or_here (Some k) b = Some (suc k)
or_here None b = cond b (Some 0) None

unfoldable pub last_at : ℤ → List ℤ → Option ℕ
last_at z [] = None
last_at z (x ∷ xs) = or_here (last_at z xs) (same_number x z)

-- "Otherwise the character with code 0 stands in; if there is none, nothing is drawn."
abbrev pub or_stand_in : Option ℕ → Option ℕ → Option ℕ
or_stand_in (Some k) r = Some k
or_stand_in None r = r

unfoldable pub look_up : Code → List ℤ → Option ℕ
look_up c codes = or_stand_in (last_at c.0 codes) (last_at (pos 0) codes)
