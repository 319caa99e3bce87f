-- The library's word for "all elements pass a test" is the one of the definitions.
-- Assumes nothing.
use mathlib.Core.Path.{◌≡◌, refl, ap}
use mathlib.Core.Bool.{Bool, ◌&&◌}
use mathlib.Core.List.{List, [], ◌∷◌}
use Prim.Native.Nat.{ℕ}
use Rattle.std.specs.List.{list_all}
use Rattle.ground.specs.Runs.{all}

pub all_is : (p : ℕ → Bool) (t : List ℕ) → list_all p t ≡ all p t
unfolding all
all_is p [] = refl
all_is p (x ∷ t) = ap (λ (b : Bool). p x && b) (all_is p t)
