-- The mapping in one look at each command, and lists of commands that were read once for many codes.
-- Assumes nothing.
use Rattle.std.specs.Prelude.{◌≡◌, ℕ, ◌+◌, ◌<◌, ◌≤◌, true, cond, ◌&&◌, List, [], ◌∷◌, leb, ℤ, Result, Ok, Err}
use Rattle.std.specs.Int.{w32}
use Rattle.std.proofs.Common.{SFits}
use Rattle.ground.specs.Limits.{max_stages}
use Rattle.subchars.specs.declared.Code.{Code}
use Rattle.flc.specs.declared.Command.{Command}
use Rattle.mapping.specs.declared.Passing.{Passing}
use Rattle.ground.specs.declared.refusals.Refusal.{Refusal}
use Rattle.flc.specs.declared.ControlRead.{ControlRead}
use Rattle.flc.specs.Control.{reads, refuses, control}
use Rattle.flc.specs.Filling.{HoldsCommands}
use Rattle.mapping.specs.Mapping.{fits, new_code}

-- The same in one look at each command: only stages from `lowest` on may still act.
abbrev pub passing : ℕ → Code → Passing
passing lowest z = record { lowest = lowest; code = z }

unfoldable pub pass_command : Command → Passing → Passing
pass_command c p = cond (leb p.lowest c.stage && fits c p.code) (passing (c.stage + 1) (new_code c p.code)) p

unfoldable pub pass_all : List Command → Passing → Passing
pass_all [] p = p
pass_all (c ∷ cs) p = pass_all cs (pass_command c p)

-- A command as a control file has it: its stage is one of the 64, and new codes are within signed 32 bits.
pub record SoundCommand (c : Command) : Type 0 where
  pub staged : c.stage < max_stages
  pub within : (z : Code) → fits c z ≡ true → SFits w32 (new_code c z).0

pub data AllSound : List Command → Type 0 where
  none : AllSound []
  more : {c : Command} {cs : List Command} → SoundCommand c → AllSound cs → AllSound (c ∷ cs)

-- Stages that never fall, from a stage on, and stay below a count.
pub data Rising (stages : ℕ) : ℕ → List Command → Type 0 where
  at-end : {k : ℕ} → k < stages → Rising stages k []
  rises : {k : ℕ} {c : Command} {cs : List Command} → k ≤ c.stage → Rising stages c.stage cs → Rising stages k (c ∷ cs)

-- Lists that begin with n sound commands.
pub record Usable (n : ℕ) (stages : List ℕ) (firsts lasts news : List ℤ) : Type 0 where
  pub commands : List Command
  pub holds : HoldsCommands commands n stages firsts lasts news
  pub sound : AllSound commands

-- A control file was read: the lists begin with its n commands.
pub record ControlHeld (s : List ℕ) (n : ℕ) (stages : List ℕ) (firsts lasts news : List ℤ) : Type 0 where
  pub commands : List Command
  pub count : ℕ
  pub said : control s ≡ reads commands count
  pub holds : HoldsCommands commands n stages firsts lasts news
  pub sound : AllSound commands
  pub rising : Rising count 0 commands

-- What reading it answered, and the lists.
abbrev pub ControlHeldBy : List ℕ → Result ControlRead Refusal → List ℕ → List ℤ → List ℤ → List ℤ → Type 0
ControlHeldBy s (Ok r) stages firsts lasts news = ControlHeld s r.commands stages firsts lasts news
ControlHeldBy s (Err r) stages firsts lasts news = control s ≡ refuses r
