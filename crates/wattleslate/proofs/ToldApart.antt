-- What an answer tells is all of it: two answers of a call that tell the same are the same.
-- Assumes nothing.
use mathlib.Core.Path.{◌≡◌, ap}
use mathlib.Core.Bool.{true≢false, false≢true}
use Rattle.std.specs.Prelude.{Result, Ok, Err}
use Rattle.ground.specs.declared.refusals.Refusal.{Refusal}
use Rattle.flc.proofs.ReasonLaws.{same_refusal}
use Rattle.drawing.specs.declared.DrawAnswer.{DrawAnswer}
use Rattle.drawing.specs.declared.DrawAnswer.TheVariants as draw-is
use Rattle.join.specs.declared.Joined.{Joined}
use Rattle.join.specs.JoinCall.{JoinTold, joining, join_tells}
use Rattle.wattleslate.specs.DrawCall.{DrawTold, draw_tells}

pub join_apart : (r s : Result Joined Refusal) → join_tells r ≡ join_tells s → r ≡ s
join_apart (Ok o) (Ok p) e = ap (λ (t : JoinTold). joining t.overlap t.width) e
join_apart (Ok o) (Err r) e = absurd (false≢true (ap (λ (t : JoinTold). t.refused) e))
join_apart (Err r) (Ok o) e = absurd (true≢false (ap (λ (t : JoinTold). t.refused) e))
join_apart (Err r) (Err s) e = ap Err (same_refusal r s (ap (λ (t : JoinTold). t.number) e) (ap (λ (t : JoinTold). t.place) e))

pub draw_apart : (r s : DrawAnswer) → draw_tells r ≡ draw_tells s → r ≡ s
draw_apart (draw-is.Drawn w m) (draw-is.Drawn v n) e = ap (λ (t : DrawTold). draw-is.Drawn t.width (record { stood_in = t.stood_in; nothing_drawn = t.nothing_drawn })) e
draw_apart (draw-is.Drawn w m) (draw-is.Refused r) e = absurd (false≢true (ap (λ (t : DrawTold). t.refused) e))
draw_apart (draw-is.Refused r) (draw-is.Drawn w n) e = absurd (true≢false (ap (λ (t : DrawTold). t.refused) e))
draw_apart (draw-is.Refused r) (draw-is.Refused s) e = ap draw-is.Refused (same_refusal r s (ap (λ (t : DrawTold). t.number) e) (ap (λ (t : DrawTold). t.place) e))
