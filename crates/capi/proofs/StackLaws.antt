-- What a stack comes to, by whether its layout is a number that a header may have.
-- Assumes nothing.
use mathlib.Core.Path.{◌≡◌}
use mathlib.Core.List.{List}
use Prim.Native.Nat.{ℕ, ◌<◌, ◌≤◌}
use borrow.Author.Tests.{lt-ltb, le-ltb}
use Rattle.ground.specs.Area.{zeros}
use Rattle.ground.specs.Limits.{max_full_layout}
use Rattle.ground.specs.Refusals.{bad_shape}
use Rattle.subchars.specs.declared.VerticalLayout.{VerticalLayout}
use Rattle.subchars.specs.Layouts.{full_vertical}
use Rattle.stack.specs.StackCall.{no_stack, stack_told, stack_area}
use Rattle.capi.specs.Numbers.{stack_taken, stack_left}

module _ (layout hardblank n upperWidth : ℕ) (upper : List ℕ) (m lowerWidth : ℕ) (lower : List ℕ) (room : ℕ) where
  module _ (over : max_full_layout < layout) where
    pub illegal_told : no_stack bad_shape ≡ stack_taken layout hardblank n upperWidth upper m lowerWidth lower room
    unfolding stack_taken
    illegal_told = rw (lt-ltb max_full_layout layout over)

    pub illegal_area : zeros room ≡ stack_left layout hardblank n upperWidth upper m lowerWidth lower room
    unfolding stack_left
    illegal_area = rw (lt-ltb max_full_layout layout over)

  module _ (within : layout ≤ max_full_layout) (y : VerticalLayout) (p : y ≡ full_vertical layout) where
    pub legal-told : stack_told y hardblank n upperWidth upper m lowerWidth lower room ≡ stack_taken layout hardblank n upperWidth upper m lowerWidth lower room
    unfolding stack_taken
    legal-told = rw (p, le-ltb max_full_layout layout within)

    pub legal-area : stack_area y hardblank n upperWidth upper m lowerWidth lower room ≡ stack_left layout hardblank n upperWidth upper m lowerWidth lower room
    unfolding stack_left
    legal-area = rw (p, le-ltb max_full_layout layout within)
