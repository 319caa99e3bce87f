-- When each part of an answer has room in its bits.
-- Assumes nothing.
use Rattle.std.specs.Prelude.{ℕ, ◌*◌, ◌≤◌, ◌<◌, Result, Ok, Err}
use Rattle.ground.specs.Refusals.{number_of}
use Rattle.ground.specs.declared.refusals.Refusal.{Refusal}
use Rattle.reader.specs.declared.FontRead.{FontRead}
use Rattle.flc.specs.declared.ControlRead.{ControlRead}
use Rattle.drawing.specs.declared.DrawAnswer.{DrawAnswer}
use Rattle.drawing.specs.declared.DrawAnswer.TheVariants as draw-is
use Rattle.wrapping.specs.declared.WrapAnswer.{WrapAnswer}
use Rattle.wrapping.specs.declared.WrapAnswer.TheVariants as wrap-is
use Rattle.join.specs.declared.Joined.{Joined}
use Rattle.stack.specs.declared.Stacked.{Stacked}
use Rattle.pack.specs.declared.Accepted.{Accepted}
use Rattle.pack.specs.declared.Found.{Found}
use Rattle.checking.specs.declared.Verdict.{Verdict}
use Rattle.checking.specs.declared.Verdict.TheVariants as check-is
use Rattle.answers.specs.Numbers.{value_bound, place_bound}

-- A refusal's number and place; no refusal's number is 0.
pub record RefusalFits (number place : ℕ) : Type 0 where
  pub not_0 : 1 ≤ number
  pub number_in_16 : number < value_bound
  pub place_in_48 : place < place_bound

-- Three values.
pub record ValuesFit (a b c : ℕ) : Type 0 where
  pub a_in_16 : a < value_bound
  pub b_in_16 : b < value_bound
  pub c_in_16 : c < value_bound

-- A place in a pack and a width.
pub record PlaceFits (place width : ℕ) : Type 0 where
  pub place_in_32 : place < value_bound * value_bound
  pub width_in_16 : width < value_bound

-- The answers, each by what it holds.
abbrev pub FontFits : Result FontRead Refusal → Type 0
FontFits (Ok f) = ValuesFit 0 f.header.height f.count
FontFits (Err r) = RefusalFits (number_of r.reason) r.place

abbrev pub ControlFits : Result ControlRead Refusal → Type 0
ControlFits (Ok c) = ValuesFit 0 c.stages c.commands
ControlFits (Err r) = RefusalFits (number_of r.reason) r.place

abbrev pub DrawFits : DrawAnswer → Type 0
DrawFits (draw-is.Drawn w n) = ValuesFit n.nothing_drawn n.stood_in w
DrawFits (draw-is.Refused r) = RefusalFits (number_of r.reason) r.place

abbrev pub WrapFits : WrapAnswer → Type 0
WrapFits (wrap-is.Wrapped lines n) = ValuesFit n.nothing_drawn n.stood_in lines
WrapFits (wrap-is.Refused r) = RefusalFits (number_of r.reason) r.place

abbrev pub JoinFits : Result Joined Refusal → Type 0
JoinFits (Ok j) = ValuesFit 0 j.overlap j.width
JoinFits (Err r) = RefusalFits (number_of r.reason) r.place

abbrev pub StackFits : Result Stacked Refusal → Type 0
StackFits (Ok s) = ValuesFit s.overlap s.height s.width
StackFits (Err r) = RefusalFits (number_of r.reason) r.place

abbrev pub PackFits : Result Accepted Refusal → Type 0
PackFits (Ok p) = ValuesFit 0 p.height p.live
PackFits (Err r) = RefusalFits (number_of r.reason) r.place

abbrev pub FindFits : Result Found Refusal → Type 0
FindFits (Ok f) = PlaceFits f.place f.width
FindFits (Err r) = RefusalFits (number_of r.reason) r.place

abbrev pub EditFits : Result Unit Refusal → Type 0
EditFits (Ok u) = Unit
EditFits (Err r) = RefusalFits (number_of r.reason) r.place

abbrev pub CheckFits : Result Verdict Refusal → Type 0
CheckFits (Ok check-is.Accepted) = Unit
CheckFits (Ok (check-is.WrongOverlap k)) = k < value_bound * value_bound
CheckFits (Ok (check-is.WrongByte p)) = p < value_bound * value_bound
CheckFits (Err r) = RefusalFits (number_of r.reason) r.place
