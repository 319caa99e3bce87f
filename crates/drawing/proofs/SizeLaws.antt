-- What drawing comes to, by the size of the scratch.
-- Assumes nothing.
use mathlib.Core.Path.{◌≡◌, sym, ap, subst}
use mathlib.Core.Bool.{Bool, true, false, cond}
use mathlib.Core.List.{List}
use Prim.Native.Nat.{ℕ, ◌≤◌, ◌<◌}
use lib.Dec.{ltb}
use borrow.Author.Tests.{lt-ltb, le-ltb}
use Rattle.ground.specs.Refusals.{refusal, area_too_small}
use Rattle.ground.specs.Limits.{min_scratch}
use Rattle.drawing.specs.declared.DrawAnswer.{DrawAnswer}
use Rattle.drawing.specs.Drawing.{Lined, unlined, lined_of, draw_lined, PutOut}

module _ (size : ℕ) (s control text : List ℕ) where
  by_size : (b : Bool) → ltb size min_scratch ≡ b → draw_lined size s control text ≡ cond b (unlined (refusal area_too_small 0)) (lined_of s control text)
  unfolding draw_lined
  by_size b e = ap (λ (x : Bool). cond x (unlined (refusal area_too_small 0)) (lined_of s control text)) e

  pub lined-small : size < min_scratch → draw_lined size s control text ≡ unlined (refusal area_too_small 0)
  lined-small u = by_size true (lt-ltb size min_scratch u)

  pub lined_enough : min_scratch ≤ size → draw_lined size s control text ≡ lined_of s control text
  lined_enough u = by_size false (le-ltb size min_scratch u)

  pub put_as : (room : ℕ) (a : DrawAnswer) (out : List ℕ) (l : Lined) → draw_lined size s control text ≡ l → PutOut l room a out → PutOut (draw_lined size s control text) room a out
  put_as room a out l e p = subst (λ (x : Lined). PutOut x room a out) (sym e) p
