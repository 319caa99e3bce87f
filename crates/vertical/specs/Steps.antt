-- The vertical pair decision as it is computed: by the horizontal one, with blank for the hardblank, and behind it by rules 2048 and 4096.
-- Assumes nothing.
use Rattle.std.specs.Prelude.{ℕ, ◌/◌, ◌%◌, List, [], ◌∷◌}
use Rattle.subchars.specs.declared.Direction.TheVariants.{LeftToRight}
use Rattle.subchars.specs.declared.Smushing.TheVariants as horizontally
use Rattle.subchars.specs.declared.Layout.{Layout}
use Rattle.subchars.specs.declared.Layout.TheVariants as horizontal
use Rattle.subchars.specs.declared.VerticalSmushing.TheVariants.{Universal, Controlled}
use Rattle.subchars.specs.declared.VerticalLayout.{VerticalLayout}
use Rattle.subchars.specs.declared.VerticalLayout.TheVariants.{FullHeight, Fitting, Smushing}
use Rattle.subchars.specs.declared.Mode.{Mode}
use Rattle.subchars.specs.Hardblank.{blank}
use Rattle.vertical.specs.VerticalPair.{VerticalRule, EqualCharacter, Underscore, Hierarchy, HorizontalLine, VerticalLine}

-- The code values 256, 512 and 1024 of a set as the horizontal 1, 2 and 4.
abbrev pub shared_sum : ℕ → ℕ
shared_sum set = set / 256 % 8

-- The horizontal layout that decides on a pair as far as the rules are shared.
abbrev pub sideways_layout : VerticalLayout → Layout
sideways_layout FullHeight = horizontal.FullWidth
sideways_layout Fitting = horizontal.Fitting
sideways_layout (Smushing Universal) = horizontal.Smushing horizontally.Universal
sideways_layout (Smushing (Controlled set)) = horizontal.Smushing (horizontally.Controlled (shared_sum set))

-- The horizontal mode by which a pair is decided, upper for left and lower for right.
abbrev pub sideways : Layout → Mode
sideways layout = record { layout = layout; direction = LeftToRight; hardblank = record { 0 = blank } }

-- The rules of a layout; only controlled smushing has any.
abbrev pub rules_of : VerticalLayout → ℕ
rules_of FullHeight = 0
rules_of Fitting = 0
rules_of (Smushing Universal) = 0
rules_of (Smushing (Controlled set)) = set

-- The rules that have a horizontal one of the same name, and the two that have none.
abbrev pub shared_rules : List VerticalRule
shared_rules = EqualCharacter ∷ Underscore ∷ Hierarchy ∷ []

abbrev pub line_rules : List VerticalRule
line_rules = HorizontalLine ∷ VerticalLine ∷ []
