-- Reading a control file into lent lists answers 9 exactly when a list has no room for 256 commands, and otherwise what the file says.
-- Assumes nothing.
use mathlib.Core.Path.{◌≡◌, sym, ap, ◌∙◌}
use mathlib.Core.List.{List}
use mathlib.Core.Logic.{◌↔◌}
use Prim.Native.Nat.{ℕ, ◌≤◌, ◌<◌}
use native.Mathlib.Omega.{arith}
use lib.IntN.{ℤ}
use Rattle.ground.specs.Limits.{max_commands}
use Rattle.ground.specs.Refusals.{refusal, number_of, area_too_small, control_file_too_long}
use Rattle.ground.specs.declared.refusals.Refusal.{Refusal}
use Rattle.ground.proofs.Lent.{too_small, has_room, lent_9, lent_other}
use Rattle.std.specs.Prelude.{Result}
use Rattle.flc.specs.declared.ControlRead as counts
use Rattle.flc.specs.Control.{ControlReading, refuses, control}
use Rattle.flc.specs.Lists.{control_answer, CommandLists, command_lists, lists_of}
use Rattle.flc.specs.Filling.{CommandsListed, CommandRoom}
use Rattle.flc.proofs.RefusalLaws.{control-refusal}
use Rattle.controlcalls.specs.ControlCall.{room_of, control_reading, control_tells, ControlRead}

-- Each list has the room of the shortest.
pub each_roomy : (ss : List ℕ) (fs ls ns : List ℤ) → max_commands ≤ room_of (command_lists ss fs ls ns) → CommandRoom max_commands ss fs ls ns
each_roomy ss fs ls ns h = record { for_stages = omega arith; for_firsts = omega arith; for_lasts = omega arith; for_news = omega arith }

module _ (lent : CommandLists) (s : List ℕ) where
  pub roomy_is : max_commands ≤ room_of lent → control_reading lent s ≡ control s
  unfolding control_reading
  roomy_is h = has_room refuses (λ q r e. cc) (room_of lent) max_commands (control s) h

  pub small_is : room_of lent < max_commands → control_reading lent s ≡ refuses (refusal area_too_small 0)
  unfolding control_reading
  small_is h = too_small refuses (λ q r e. cc) (room_of lent) max_commands (control s) h

  -- 9, "room for under 256 commands", exactly then
  pub refused_9 : (p : ℕ) → control_reading lent s ≡ refuses (refusal area_too_small p) ↔ ((p ≡ 0) × (room_of lent < max_commands))
  unfolding control_reading
  refused_9 = lent_9 refuses (λ q r e. cc) (room_of lent) max_commands (control s) (λ r e n. omega (arith, (control-refusal s r e).0, ap number_of n))

  -- any other refusal, exactly where there is room and the file has it
  pub refused_file : (r : Refusal) → number_of control_file_too_long ≤ number_of r.reason → control_reading lent s ≡ refuses r ↔ ((max_commands ≤ room_of lent) × (control s ≡ refuses r))
  unfolding control_reading
  refused_file r n = lent_other refuses (λ q r e. cc) (room_of lent) max_commands (control s) r (λ m. omega (arith, n, ap number_of m))

  -- what was listed is what the call promises
  pub listed-read : (x : ControlReading) (r : Result counts.ControlRead Refusal) (left : CommandLists) → control_reading lent s ≡ x → CommandsListed x r lent left → ControlRead s lent r left
  listed-read x r left e l = record { answer = ap control_tells (l.answer ∙ ap control_answer (sym e)); lists = l.lists ∙ ap (λ (y : ControlReading). lists_of y lent) (sym e) }
