-- What the call `draw` tells is all of its answer; a refusal tells no counts.
-- Assumes nothing.
use mathlib.Core.Path.{◌≡◌, refl, ap}
use mathlib.Core.Bool.{true, false≢true}
use mathlib.Core.List.{List}
use mathlib.Core.Logic.{◌↔◌}
use Prim.Native.Nat.{ℕ}
use Rattle.drawing.specs.declared.DrawAnswer.{DrawAnswer}
use Rattle.drawing.proofs.Answers.{answer}
use Rattle.drawing.specs.declared.DrawAnswer.TheVariants.{Drawn, Refused}
use Rattle.wattleslate.specs.DrawCall.{draw_tells, draw_told}
use Rattle.wattleslate.proofs.ToldApart.{draw_apart}

pub told_is : (size : ℕ) (s control text : List ℕ) (room : ℕ) (a : DrawAnswer) → draw_told size s control text room ≡ draw_tells a ↔ answer size s control text room ≡ a
unfolding draw_told
told_is size s control text room a = (draw_apart (answer size s control text room) a, λ e. ap draw_tells e)

pub refused_uncounted : (size : ℕ) (s control text : List ℕ) (room : ℕ) → (draw_told size s control text room).refused ≡ true → ((draw_told size s control text room).stood_in ≡ 0) × ((draw_told size s control text room).nothing_drawn ≡ 0)
unfolding draw_told
refused_uncounted size s control text room e = go (answer size s control text room) e
  where
    go : (a : DrawAnswer) → (draw_tells a).refused ≡ true → ((draw_tells a).stood_in ≡ 0) × ((draw_tells a).nothing_drawn ≡ 0)
    go (Drawn w n) q = absurd (false≢true q)
    go (Refused r) q = (refl, refl)
