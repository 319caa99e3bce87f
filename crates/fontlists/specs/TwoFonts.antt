-- Look-up in two fonts: document 02, Q-7. "A code missing from the first is sought in the second before any stand-in, then code 0 in the first, then in the
-- second."
-- Assumes nothing.
use Rattle.std.specs.Prelude.{ℕ, List, pos, Option, Some, None}
use Rattle.subchars.specs.declared.Code.{Code}
use Rattle.chars.specs.declared.Entry.{Entry}
use Rattle.reader.specs.Reader.{last_of}
use Rattle.fontlists.specs.declared.two.Which.{Which}
use Rattle.fontlists.specs.declared.two.Which.TheVariants.{First, Second}
use Rattle.fontlists.specs.declared.two.LookedUpInTwo.{LookedUpInTwo}
use Rattle.fontlists.specs.declared.two.LookedUpInTwo.TheVariants.{Found, StoodIn, Nothing}

-- The first of the four tries that has an entry: the code in the first font and in the second, code 0 in the first and in the second.
abbrev pub first_try : Option Entry → Option Entry → Option Entry → Option Entry → LookedUpInTwo
first_try (Some e) its zeroth other = Found First e
first_try None (Some e) zeroth other = Found Second e
first_try None None (Some e) other = StoodIn First e
first_try None None None (Some e) = StoodIn Second e
first_try None None None None = Nothing

-- The characters of the first font are es, those of the second fs. As in one font, the last entry of a code is the code's own.
unfoldable pub looked_up_in_two : Code → List Entry → List Entry → LookedUpInTwo
looked_up_in_two c es fs = first_try (last_of c.0 es) (last_of c.0 fs) (last_of (pos 0) es) (last_of (pos 0) fs)

-- "Whichever font had it": the bytes of the first font are s, those of the second t.
abbrev pub bytes_in : Which → List ℕ → List ℕ → List ℕ
bytes_in First s t = s
bytes_in Second s t = t
