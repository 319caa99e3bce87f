-- Look-up in two fonts: the four tries by each font's own look-up.
-- Assumes nothing.
use mathlib.Core.Path.{◌≡◌, refl}
use mathlib.Core.List.{List}
use Rattle.std.specs.Prelude.{Option, Some, None}
use Prim.Native.Nat.{ℕ}
use lib.IntN.{ℤ, pos}
use lib.ListN.{take}
use Rattle.ground.specs.Limits.{max_characters}
use Rattle.ground.proofs.Halves.{part_behind, part-behind}
use Rattle.subchars.specs.declared.Code.{Code}
use Rattle.header.specs.declared.Header.{Header}
use Rattle.chars.specs.declared.Entry.{Entry}
use Rattle.index.specs.Index.{CharacterRoom, Lists}
use Rattle.index.specs.Latest.{small_codes, Latest}
use Rattle.reader.specs.Reader.{last_of, which_of, looked_up}
use Rattle.fontlists.specs.TwoFonts.{first_try, looked_up_in_two}
use Rattle.fontlists.specs.Held.{TwoHeld}
use Rattle.fontlists.specs.Steps.{either_of}

-- What the second half of each list holds, as a part of the list.
pub second-held : (s t : List ℕ) (h k : Header) (n m : ℕ) (codes : List ℤ) (starts widths places : List ℕ) (held : TwoHeld s t h k n m codes starts widths places) →
    CharacterRoom m (part_behind max_characters codes) (part_behind max_characters starts) (part_behind max_characters widths)
    × Lists held.second.characters (part_behind max_characters codes) (part_behind max_characters starts) (part_behind max_characters widths)
    × Latest (take m (part_behind max_characters codes)) (part_behind small_codes places)
second-held s t h k n m codes starts widths places held =
    rw (part-behind max_characters codes, part-behind max_characters starts, part-behind max_characters widths, part-behind small_codes places) (held.second.long, held.second.lists, held.second.latest)

-- The four tries are what both look-ups come to.
either_try : (a b z w : Option Entry) → either_of (which_of a z) (which_of b w) ≡ first_try a b z w
either_try (Some e) b z w = refl
either_try None (Some f) (Some d) w = refl
either_try None (Some f) None w = refl
either_try None None (Some d) (Some g) = refl
either_try None None (Some d) None = refl
either_try None None None (Some g) = refl
either_try None None None None = refl

pub either_looked_up : (c : Code) (es fs : List Entry) → either_of (looked_up c es) (looked_up c fs) ≡ looked_up_in_two c es fs
unfolding looked_up looked_up_in_two
either_looked_up c es fs = either_try (last_of c.0 es) (last_of c.0 fs) (last_of (pos 0) es) (last_of (pos 0) fs)
