-- A control file that was read into lists is held by them, and a code maps by the lists as by the file.
-- Assumes nothing.
use mathlib.Core.Path.{◌≡◌, sym, ◌∙◌, subst}
use mathlib.Core.List.{List}
use Rattle.std.specs.Prelude.{Result, Ok, Err}
use Prim.Native.Nat.{ℕ}
use native.Mathlib.Nat.{zero-add}
use lib.IntN.{ℤ}
use lib.ListN.{length}
use Rattle.subchars.specs.declared.Code.{Code}
use Rattle.commands.proofs.SoundLaws.{Bytes}
use Rattle.flc.specs.declared.Command.{Command}
use Rattle.ground.specs.declared.refusals.Refusal.{Refusal}
use Rattle.flc.specs.declared.ControlRead.{ControlRead}
use Rattle.flc.specs.Control.{ControlReading, control}
use Rattle.flc.specs.Lists.{commands_of, command_lists}
use Rattle.mapping.specs.Mapping.{map_stages}
use Rattle.flc.proofs.ListLaws.{read_as, refused_as, listed-holds}
use Rattle.mapping.proofs.SoundLaws.{control-sound, control-rising}
use Rattle.mapping.proofs.MappingLaws.{pass_stages}
use Rattle.mapping.specs.Passing.{ControlHeld, ControlHeldBy, Rising, Usable, pass_all, passing}
use Rattle.flc.specs.Filling.{HoldsCommands, CommandsListed}

pub told : (s : List ℕ) → Bytes s → (r : Result ControlRead Refusal) (ss : List ℕ) (fs ls ns : List ℤ) (ss₀ : List ℕ) (fs₀ ls₀ ns₀ : List ℤ) → CommandsListed (control s) r (command_lists ss₀ fs₀ ls₀ ns₀) (command_lists ss fs ls ns) → ControlHeldBy s r ss fs ls ns
told s b (Ok r) ss fs ls ns ss₀ fs₀ ls₀ ns₀ l =
    let x = read_as (control s) r l.answer in
    record {
      commands = x.commands;
      count = r.stages;
      said = x.is;
      holds =
          subst (λ (j : ℕ). HoldsCommands x.commands j ss fs ls ns) (sym x.count)
          (subst (λ (y : ControlReading). HoldsCommands (commands_of y) (length (commands_of y)) ss fs ls ns) x.is (listed-holds (control s) (Ok r) (command_lists ss₀ fs₀ ls₀ ns₀) (command_lists ss fs ls ns) l));
      sound = control-sound s b x.commands r.stages (sym x.is);
      rising = control-rising s b x.commands r.stages (sym x.is);
    }
told s b (Err q) ss fs ls ns ss₀ fs₀ ls₀ ns₀ l = refused_as (control s) q l.answer

module _ (s : List ℕ) (n : ℕ) (ss : List ℕ) (fs ls ns : List ℤ) (held : ControlHeld s n ss fs ls ns) where
  pub usable : Usable n ss fs ls ns
  usable = record { commands = held.commands; holds = held.holds; sound = held.sound }

  -- the code that passes all commands of the lists
  pub mapped : (z x : Code) → ((cs : List Command) → HoldsCommands cs n ss fs ls ns → x ≡ (pass_all cs (passing 0 z)).code) → x ≡ map_stages held.commands 0 held.count z
  mapped z x f =
      f held.commands held.holds ∙
      pass_stages held.commands 0 0 held.count z (subst (λ (j : ℕ). Rising j 0 held.commands) (sym (zero-add held.count)) held.rising)
