-- What mapping a code comes to, by cases.
-- Assumes nothing.
use mathlib.Core.Path.{◌≡◌, refl, sym, ap, ◌∙◌, subst}
use mathlib.Core.List.{List}
use mathlib.Core.Logic.{◌↔◌}
use Rattle.std.specs.Prelude.{Result, Ok, Err}
use Prim.Native.Nat.{ℕ}
use lib.IntN.{ℤ}
use Rattle.ground.specs.declared.refusals.Refusal.{Refusal}
use Rattle.ground.proofs.Tests.{clash}
use Rattle.subchars.specs.declared.Code.{Code}
use Rattle.commands.proofs.SoundLaws.{Bytes}
use Rattle.flc.specs.declared.Command.{Command}
use Rattle.flc.specs.declared.ControlRead.{ControlRead}
use Rattle.flc.specs.Control.{ControlReading, reads, refuses, control}
use Rattle.mapping.specs.Mapping.{map_stages}
use Rattle.flc.specs.Lists.{command_lists}
use Rattle.mapping.proofs.HeldLaws.{told, mapped, usable as held-usable}
use Rattle.mapping.specs.Passing.{ControlHeld, Usable, pass_all, passing, ControlHeldBy}
use Rattle.flc.specs.Filling.{HoldsCommands, CommandsListed}
use Rattle.controlcalls.specs.MapCall.{map_tells, mapped_by, map_told}
use Rattle.controlcalls.proofs.ToldApart.{map_apart}

-- A code, by a file that was read into lists.
module _ (s : List ℕ) (b : Bytes s) (r : Result ControlRead Refusal) (ss : List ℕ) (fs ls ns : List ℤ) (ss₀ : List ℕ) (fs₀ ls₀ ns₀ : List ℤ) (l : CommandsListed (control s) r (command_lists ss₀ fs₀ ls₀ ns₀) (command_lists ss fs ls ns)) where
  told_as : (a : Result ControlRead Refusal) → r ≡ a → ControlHeldBy s a ss fs ls ns
  told_as a e = subst (λ (x : Result ControlRead Refusal). ControlHeldBy s x ss fs ls ns) e (told s b r ss fs ls ns ss₀ fs₀ ls₀ ns₀ l)

  module _ (q : ControlRead) (e : r ≡ Ok q) where
    abbrev n : ℕ
    n = q.commands

    held : ControlHeld s n ss fs ls ns
    held = told_as (Ok q) e

    pub usable : Usable n ss fs ls ns
    usable = held-usable s n ss fs ls ns held

    pub mapped_told : (z y : Code) → ((cs : List Command) → HoldsCommands cs n ss fs ls ns → y ≡ (pass_all cs (passing 0 z)).code) → map_tells (Ok y) ≡ map_told s z
    unfolding map_told
    mapped_told z y f =
        ap (λ (x : Code). map_tells (Ok x)) (mapped s n ss fs ls ns held z y f) ∙ sym (ap (λ (x : ControlReading). map_tells (mapped_by x z)) held.said)

  pub refused-told : (q : Refusal) → r ≡ Err q → (z : Code) → map_tells (Err q) ≡ map_told s z
  unfolding map_told
  refused-told q e z = sym (ap (λ (x : ControlReading). map_tells (mapped_by x z)) (told_as (Err q) e))

-- "Mapping a code: those of" the control file.
pub map-refused : (s : List ℕ) (z : Code) (q : Refusal) → map_told s z ≡ map_tells (Err q) ↔ control s ≡ refuses q
unfolding map_told
map-refused s z q = (λ e. go (control s) refl e, λ m. ap (λ (x : ControlReading). map_tells (mapped_by x z)) m)
  where
    go : (x : ControlReading) → control s ≡ x → map_tells (mapped_by x z) ≡ map_tells (Err q) → control s ≡ refuses q
    go (reads cs k) m p = let y = map_apart (Ok (map_stages cs 0 k z)) (Err q) p in clash (cc)
    go (refuses r) m p = let y = map_apart (Err r) (Err q) p in let d : r ≡ q = cc in m ∙ ap refuses d
