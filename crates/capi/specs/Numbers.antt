-- A join, a stack and a drawing whose layout is a number.
-- Assumes nothing.
use Rattle.std.specs.Prelude.{ℕ, Bool, cond, ◌&&◌, List, leb, ltb}
use Rattle.ground.specs.Area.{zeros}
use Rattle.ground.specs.Limits.{max_full_layout, max_direction}
use Rattle.ground.specs.Refusals.{bad_shape}
use Rattle.subchars.specs.declared.Layout.{Layout}
use Rattle.subchars.specs.declared.Layout.TheVariants.{Smushing}
use Rattle.subchars.specs.declared.Smushing.TheVariants.{Controlled}
use Rattle.subchars.specs.declared.Mode.{Mode}
use Rattle.subchars.specs.Layouts.{full_layout_of, full_vertical, print_direction_of}
use Rattle.join.specs.JoinCall.{JoinTold, refusing, join_told, join_area}
use Rattle.stack.specs.StackCall.{StackTold, no_stack_if, stack_told, stack_area}

-- "Full_Layout 0 to 32,767, Print_Direction 0 or 1." Other numbers are a join of bad shape.
abbrev pub legal_mode : ℕ → ℕ → Bool
legal_mode layout direction = leb layout max_full_layout && leb direction max_direction

-- "Where Full_Layout stands, it decides alone."
abbrev pub mode_by : ℕ → ℕ → ℕ → Mode
mode_by layout direction hardblank = record { layout = full_layout_of layout; direction = print_direction_of direction; hardblank = record { 0 = hardblank } }

-- "Join: 17, 16, 9."
unfoldable pub join_taken : ℕ → ℕ → ℕ → ℕ → ℕ → List ℕ → ℕ → List ℕ → ℕ → JoinTold
join_taken layout direction hardblank h n line m character room =
    cond (legal_mode layout direction) (join_told (mode_by layout direction hardblank) h n line m character room) (refusing bad_shape)

-- A refusal "fills every lent writable area with zeros".
unfoldable pub join_left : ℕ → ℕ → ℕ → ℕ → ℕ → List ℕ → ℕ → List ℕ → ℕ → List ℕ
join_left layout direction hardblank h n line m character room =
    cond (legal_mode layout direction) (join_area (mode_by layout direction hardblank) h n line m character room) (zeros room)

-- "Full_Layout 0 to 32,767", of which the vertical part is read; another number is a stack of bad shape. "Refusals: 17 ..; 18 ..; 9."
unfoldable pub stack_taken : ℕ → ℕ → ℕ → ℕ → List ℕ → ℕ → ℕ → List ℕ → ℕ → StackTold
stack_taken layout hardblank n upperWidth upper m lowerWidth lower room =
    no_stack_if (ltb max_full_layout layout) bad_shape (stack_told (full_vertical layout) hardblank n upperWidth upper m lowerWidth lower room)

unfoldable pub stack_left : ℕ → ℕ → ℕ → ℕ → List ℕ → ℕ → ℕ → List ℕ → ℕ → List ℕ
stack_left layout hardblank n upperWidth upper m lowerWidth lower room =
    cond (ltb max_full_layout layout) (zeros room) (stack_area (full_vertical layout) hardblank n upperWidth upper m lowerWidth lower room)

-- A layout over 32,767 or a direction other than 0 and 1 is a layout of bad shape, so that 17 keeps its place: controlled smushing without a rule.
abbrev pub shapeless : Layout
shapeless = Smushing (Controlled 0)

unfoldable pub layout_by : ℕ → ℕ → Layout
layout_by layout direction = cond (legal_mode layout direction) (full_layout_of layout) shapeless
