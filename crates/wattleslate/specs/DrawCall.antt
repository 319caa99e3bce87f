-- The call `draw`: what it answers and what its areas hold, for every input.
-- Assumes nothing.
use Rattle.std.specs.Prelude.{ℕ, Bool, true, false, List}
use Rattle.ground.specs.Area.{padded}
use Rattle.ground.specs.Refusals.{number_of}
use Rattle.drawing.specs.declared.DrawAnswer.{DrawAnswer}
use Rattle.drawing.specs.declared.DrawAnswer.TheVariants.{Drawn, Refused}
use Rattle.drawing.specs.Drawing.{draw_lined, lined_answer, bytes_of}

-- What an answer tells. "A refusal answers its number and place (0 where none is named); other numbers are 0." 02, Q-2:
-- besides the width "how many text bytes are in the second and in the third group".
pub record DrawTold : Type 0 where
  pub refused : Bool
  pub number : ℕ
  pub place : ℕ
  pub width : ℕ
  pub stood_in : ℕ
  pub nothing_drawn : ℕ

abbrev pub draw_tells : DrawAnswer → DrawTold
draw_tells (Drawn w n) = record { refused = false; number = 0; place = 0; width = w; stood_in = n.stood_in; nothing_drawn = n.nothing_drawn }
draw_tells (Refused r) = record { refused = true; number = number_of r.reason; place = r.place; width = 0; stood_in = 0; nothing_drawn = 0 }

-- The answer in an output of the given room, with a scratch of the given size.
unfoldable pub draw_told : ℕ → List ℕ → List ℕ → List ℕ → ℕ → DrawTold
draw_told scratch font control text room = draw_tells (lined_answer (draw_lined scratch font control text) room)

-- A refusal "fills every lent writable area with zeros. A success fills all room behind its answer, .. with zeros."
unfoldable pub draw_output : ℕ → List ℕ → List ℕ → List ℕ → ℕ → List ℕ
draw_output scratch font control text room = padded (bytes_of (draw_lined scratch font control text) room) room
