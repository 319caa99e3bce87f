-- What an answer tells is all of it: two answers of a call that tell the same are the same.
-- Assumes nothing.
use mathlib.Core.Path.{◌≡◌, ap}
use mathlib.Core.Bool.{true≢false, false≢true}
use Rattle.std.specs.Prelude.{Result, Ok, Err}
use Rattle.ground.specs.declared.refusals.Refusal.{Refusal}
use Rattle.subchars.specs.declared.Code.{Code}
use Rattle.flc.specs.declared.ControlRead.{ControlRead}
use Rattle.flc.proofs.ReasonLaws.{same_refusal}
use Rattle.controlcalls.specs.ControlCall.{ControlTold, control_tells}
use Rattle.controlcalls.specs.MapCall.{MapTold, map_tells}

pub control_apart : (r s : Result ControlRead Refusal) → control_tells r ≡ control_tells s → r ≡ s
control_apart (Ok a) (Ok b) e = ap (λ (t : ControlTold). Ok (record { commands = t.commands; stages = t.stages })) e
control_apart (Ok a) (Err r) e = absurd (false≢true (ap (λ (t : ControlTold). t.refused) e))
control_apart (Err q) (Ok b) e = absurd (true≢false (ap (λ (t : ControlTold). t.refused) e))
control_apart (Err q) (Err r) e = ap Err (same_refusal q r (ap (λ (t : ControlTold). t.number) e) (ap (λ (t : ControlTold). t.place) e))

pub map_apart : (r s : Result Code Refusal) → map_tells r ≡ map_tells s → r ≡ s
map_apart (Ok y) (Ok z) e = ap (λ (t : MapTold). Ok (record { 0 = t.code })) e
map_apart (Ok y) (Err r) e = absurd (false≢true (ap (λ (t : MapTold). t.refused) e))
map_apart (Err q) (Ok z) e = absurd (true≢false (ap (λ (t : MapTold). t.refused) e))
map_apart (Err q) (Err r) e = ap Err (same_refusal q r (ap (λ (t : MapTold). t.number) e) (ap (λ (t : MapTold). t.place) e))
