use mathlib.Core.Path.{◌≡◌, ap, ◌∙◌, subst}
use mathlib.Core.List.{List}
use Prim.Native.Nat.{ℕ, ◌+◌}
use mir.Syntax.{w32}
use mir.Val.{to_z, of_z}
use lib.IntN.{ℤ}
use lib.ListN.{set}
use borrow.Author.Rules.{rules}
use Rattle.std.specs.Prelude.{Result, Ok}
use Rattle.ground.specs.declared.refusals.Refusal.{Refusal}
use Rattle.flc.specs.Steps.{Next}
use Rattle.flc.specs.declared.CommandNext.{CommandNext}
use Rattle.flc.proofs.FillLaws.{CommandsHeld, held_more}
use Rattle.flc.proofs.reading.fill.Goals as goal

-- a store of a code leaves it as it was read
stored : (s : List ℕ) (from : ℕ) (ss₀ : List ℕ) (fs₀ ls₀ ns₀ : List ℤ) (ss : List ℕ) (fs ls ns : List ℤ) (at stage n : ℕ) (a b c a' b' c' : ℤ) → a' ≡ a → b' ≡ b → c' ≡ c → CommandsHeld s from ss₀ fs₀ ls₀ ns₀ ss (set fs n a) (set ls n b) (set ns n c) at stage (n + 1) → CommandsHeld s from ss₀ fs₀ ls₀ ns₀ ss (set fs n a') (set ls n b') (set ns n c') at stage (n + 1)
stored s from ss₀ fs₀ ls₀ ns₀ ss fs ls ns at stage n a b c a' b' c' e f g h = rw (e, f, g) h

as_found : (s : List ℕ) (at stage n : ℕ) (r : Result CommandNext Refusal) (x y : CommandNext) → r ≡ Ok x → x ≡ y → Next s at stage n r → Next s at stage n (Ok y)
as_found s at stage n r x y e f h = subst (Next s at stage n) (e ∙ ap Ok f) h

pub loop-command-preserved : goal.loop-command-preserved
loop-command-preserved c =
    let l = c.loop-command in
    let d = c.in-Found.command in
    let next = c.in-Found.next in
    let e : to_z w32 (of_z w32 d.first.0) ≡ d.first.0 = search rules in
    let f : to_z w32 (of_z w32 d.last.0) ≡ d.last.0 = search rules in
    let g : to_z w32 (of_z w32 d.first_new.0) ≡ d.first_new.0 = search rules in
    let x = as_found c.args.s.now l.cursor.at l.stage l.n _ _ _ c.in_ok-command.was c.in-Found.is c.next_command.ensures in
    let h = held_more c.args.s.now c.args.from.at c.args.stages.now c.args.firsts.now c.args.lasts.now c.args.news.now c.requires l.stages l.firsts l.lasts l.news l.cursor.at l.stage l.n l.invariant d next x in
    stored c.args.s.now c.args.from.at c.args.stages.now c.args.firsts.now c.args.lasts.now c.args.news.now _ l.firsts l.lasts l.news next.at d.stage l.n _ _ _ _ _ _ e f g h
