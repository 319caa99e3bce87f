-- An answer as one number of 64 bits.
-- Assumes nothing.
use Rattle.std.specs.Prelude.{ℕ, ◌+◌, ◌*◌, Bool, cond, Result, Ok, Err}
use Rattle.ground.specs.Refusals.{number_of}
use Rattle.ground.specs.declared.refusals.Refusal.{Refusal}
use Rattle.reader.specs.declared.FontRead.{FontRead}
use Rattle.checking.specs.declared.Verdict.{Verdict}
use Rattle.checking.specs.declared.Verdict.TheVariants as check-is
use Rattle.controlcalls.specs.ControlCall.{ControlTold}
use Rattle.wattleslate.specs.DrawCall.{DrawTold}
use Rattle.join.specs.JoinCall.{JoinTold}
use Rattle.stack.specs.StackCall.{StackTold}
use Rattle.pack.specs.declared.Accepted.{Accepted}
use Rattle.pack.specs.declared.Found.{Found}
use Rattle.wrapping.specs.declared.WrapAnswer.{WrapAnswer}
use Rattle.wrapping.specs.declared.WrapAnswer.TheVariants as wrap-is
use Rattle.wrapping.specs.declared.WrapAnswer.TheVariants.{Wrapped}

-- A value is below this, as is a refusal's number: 16 bits.
abbrev pub value_bound : ℕ
value_bound = 65536

-- A place is below this: 48 bits, those of three values.
abbrev pub place_bound : ℕ
place_bound = value_bound * value_bound * value_bound

-- "A refusal answers its number and place": the number in the upper 16 bits, and the place below it.
abbrev pub refused_at : ℕ → ℕ → ℕ
refused_at number place = number * place_bound + place

-- Not refused: 0 in the upper 16 bits, and three values below it, which is a * 2^32 + b * 2^16 + c. A value that a call does not give is 0.
abbrev pub three_values : ℕ → ℕ → ℕ → ℕ
three_values a b c = (a * value_bound + b) * value_bound + c

-- What an answer tells, as one number.
abbrev pub telling : Bool → ℕ → ℕ → ℕ → ℕ
telling refused number place values = cond refused (refused_at number place) values

-- The check of a font: its Height, and how many characters it has.
abbrev pub font_number : Result FontRead Refusal → ℕ
font_number (Ok f) = three_values 0 f.header.height f.count
font_number (Err r) = refused_at (number_of r.reason) r.place

-- The check of a control file: the counts of stages and of commands.
abbrev pub control_number : ControlTold → ℕ
control_number t = telling t.refused t.number t.place (three_values 0 t.stages t.commands)

-- "The answer gives the width." 02, Q-2: and how many text bytes drew nothing, and how many were stood in.
abbrev pub draw_number : DrawTold → ℕ
draw_number t = telling t.refused t.number t.place (three_values t.nothing_drawn t.stood_in t.width)

-- 02, Q-4: how many lines, and Q-2's two counts of the whole text.
abbrev pub wrap_number : WrapAnswer → ℕ
wrap_number (Wrapped lines counts) = three_values counts.nothing_drawn counts.stood_in lines
wrap_number (wrap-is.Refused r) = refused_at (number_of r.reason) r.place

-- "It answers the overlap and the result width."
abbrev pub join_number : JoinTold → ℕ
join_number t = telling t.refused t.number t.place (three_values 0 t.overlap t.width)

-- Overlap, height and width.
abbrev pub stack_number : StackTold → ℕ
stack_number t = telling t.refused t.number t.place (three_values t.overlap t.height t.width)

-- 02, Q-6. The check of a pack: its Height, and how many records are live.
abbrev pub pack_number : Result Accepted Refusal → ℕ
pack_number (Ok p) = three_values 0 p.height p.live
pack_number (Err r) = refused_at (number_of r.reason) r.place

-- The width of a letter, and in the bits of the other two values where its rows start.
abbrev pub placed_at : ℕ → ℕ → ℕ
placed_at place width = place * value_bound + width

abbrev pub find_number : Result Found Refusal → ℕ
find_number (Ok f) = placed_at f.place f.width
find_number (Err r) = refused_at (number_of r.reason) r.place

-- A change that is done tells nothing.
abbrev pub edit_number : Result Unit Refusal → ℕ
edit_number (Ok u) = 0
edit_number (Err r) = refused_at (number_of r.reason) r.place

-- The check of a drawing, 02, Q-8: 0 accepted, 1 a wrong overlap, 2 a wrong byte, in the bits above 32; below them where it is.
abbrev pub where_wrong : ℕ → ℕ → ℕ
where_wrong what place = what * value_bound * value_bound + place

abbrev pub check_number : Result Verdict Refusal → ℕ
check_number (Ok check-is.Accepted) = 0
check_number (Ok (check-is.WrongOverlap k)) = where_wrong 1 k
check_number (Ok (check-is.WrongByte p)) = where_wrong 2 p
check_number (Err r) = refused_at (number_of r.reason) r.place
