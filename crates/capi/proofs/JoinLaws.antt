-- What a join comes to, by whether its layout and its direction are numbers that a header may have.
-- Assumes nothing.
use mathlib.Core.Path.{◌≡◌, ap₂, ◌∙◌}
use mathlib.Core.Bool.{true, false}
use mathlib.Core.List.{List}
use Prim.Native.Nat.{ℕ}
use Rattle.ground.specs.Area.{zeros}
use Rattle.ground.specs.Refusals.{bad_shape}
use Rattle.subchars.specs.declared.Direction.{Direction}
use Rattle.subchars.specs.declared.Layout.{Layout}
use Rattle.subchars.specs.declared.Mode.{Mode}
use Rattle.subchars.specs.Layouts.{full_layout_of, print_direction_of}
use Rattle.join.specs.JoinCall.{refusing, join_told, join_area}
use Rattle.capi.specs.Numbers.{legal_mode, mode_by, join_taken, join_left}

module _ (layout direction hardblank h n : ℕ) (line : List ℕ) (m : ℕ) (character : List ℕ) (room : ℕ) where
  module _ (e : legal_mode layout direction ≡ false) where
    pub illegal_told : refusing bad_shape ≡ join_taken layout direction hardblank h n line m character room
    unfolding join_taken
    illegal_told = rw e

    pub illegal_area : zeros room ≡ join_left layout direction hardblank h n line m character room
    unfolding join_left
    illegal_area = rw e

  module _ (e : legal_mode layout direction ≡ true) (y : Layout) (d : Direction) (p : y ≡ full_layout_of layout) (q : d ≡ print_direction_of direction) where
    abbrev mode : Layout → Direction → Mode
    mode a b = record { layout = a; direction = b; hardblank = record { 0 = hardblank } }

    told-legal : join_told (mode_by layout direction hardblank) h n line m character room ≡ join_taken layout direction hardblank h n line m character room
    unfolding join_taken
    told-legal = rw e

    area-legal : join_area (mode_by layout direction hardblank) h n line m character room ≡ join_left layout direction hardblank h n line m character room
    unfolding join_left
    area-legal = rw e

    pub legal-told : join_told (mode y d) h n line m character room ≡ join_taken layout direction hardblank h n line m character room
    legal-told = ap₂ (λ (a : Layout) (b : Direction). join_told (mode a b) h n line m character room) p q ∙ told-legal

    pub legal-area : join_area (mode y d) h n line m character room ≡ join_left layout direction hardblank h n line m character room
    legal-area = ap₂ (λ (a : Layout) (b : Direction). join_area (mode a b) h n line m character room) p q ∙ area-legal
