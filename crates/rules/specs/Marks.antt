-- What the rules make of a pair as it is computed: by a table of the eleven sub-characters.
-- Assumes nothing.
use Rattle.std.specs.Prelude.{ℕ, ◌<◌, ◌≡◌, eqb}
use Rattle.rules.specs.declared.Mark.{Mark}
use Rattle.rules.specs.Rules.{class_of, opposite}

-- The entry of the code's table that x has: its class, and with which other member of a class it is an opposite pair.
pub record Marked (x : ℕ) (m : Mark) : Type 0 where
  pub itself : m.sub_character.0 ≡ x
  pub class : m.class ≡ class_of x
  pub partner : 0 < class_of x → (y : ℕ) → 0 < class_of y → eqb m.partner.0 y ≡ opposite x y
