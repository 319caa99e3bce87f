-- What a look-up comes to after one more entry is seen.
-- Assumes nothing.
use Rattle.std.specs.Prelude.{Bool, true, false, cond, pos}
use Rattle.subchars.specs.declared.Code.{Code}
use Rattle.chars.specs.declared.Entry.{Entry}
use Rattle.chars.specs.Codes.{code, same_code}
use Rattle.reader.specs.declared.LookedUp.{LookedUp}
use Rattle.reader.specs.declared.LookedUp.TheVariants.{Found, StoodIn, Nothing}

-- The code itself was found.
abbrev pub is_found : LookedUp → Bool
is_found (Found e) = true
is_found (StoodIn e) = false
is_found Nothing = false

-- What a look-up comes to after one more entry is seen.
unfoldable pub better : Code → LookedUp → Entry → LookedUp
better c u e = cond (same_code e.code c) (Found e) (cond (is_found u) u (cond (same_code e.code (code (pos 0))) (StoodIn e) u))
