use mathlib.Core.List.{List}
use mathlib.Core.Path.{◌≡◌, refl, sym, ap, ◌∙◌, subst}
use Prim.Native.Nat.{ℕ, ◌+◌}
use native.Mathlib.Omega.{arith}
use borrow.Author.Rules.{rules}
use lib.IntN.{ℤ, pos}
use lib.ListN.{drop, get_or}
use mir.Syntax.{w32}
use mir.Val.{to_z, of_z}
use Rattle.flc.specs.Control.{command_of}
use Rattle.flc.specs.declared.Command.{Command}
use Rattle.mapping.specs.declared.Passing.{Passing}
use Rattle.mapping.proofs.PassLaws.{command_at, command_same, sound-at, pass_more, pass_end}
use Rattle.mapping.specs.Passing.{SoundCommand, pass_all, pass_command}
use Rattle.mapping.proofs.map_by.Goals as goal

-- a code that is copied out of a list is the one that stands there
abbrev out : ℤ → ℤ
out z = to_z w32 (of_z w32 z)

copied : (ss : List ℕ) (fs ls ns : List ℤ) (i : ℕ) → out (get_or fs i (pos 0)) ≡ get_or fs i (pos 0) → out (get_or ls i (pos 0)) ≡ get_or ls i (pos 0) → out (get_or ns i (pos 0)) ≡ get_or ns i (pos 0) →
    command_of (get_or ss i 0) (record { 0 = out (get_or fs i (pos 0)) }) (record { 0 = out (get_or ls i (pos 0)) }) (record { 0 = out (get_or ns i (pos 0)) }) ≡ command_at ss fs ls ns i
copied ss fs ls ns i f l n = command_same _ _ _ _ _ _ _ _ refl f l n

pub pass_command-p-requires : goal.pass_command-p-requires
pass_command-p-requires c = subst SoundCommand (sym (copied c.args.stages.now c.args.firsts.now c.args.lasts.now c.args.news.now c.loop-i.i (search rules) (search rules) (search rules))) (sound-at _ _ _ _ _ _ c.requires.holds _ c.loop-i-test.true c.requires.sound)

pub loop-i-preserved : goal.loop-i-preserved
loop-i-preserved c = (
  omega (arith, c.loop-i-test.true),
  λ cs h.
      pass_more cs _ _ _ _ _ h _ c.loop-i-test.true _ _ (c.loop-i.invariant.1 cs h) ∙
      ap (pass_all (drop (c.loop-i.i + 1) cs)) (sym (c.pass_command-p.ensures ∙ ap (λ (x : Command). pass_command x c.loop-i.p) (copied c.args.stages.now c.args.firsts.now c.args.lasts.now c.args.news.now c.loop-i.i (search rules) (search rules) (search rules)))),
)

pub returns : goal.returns
returns c = λ cs h. sym (ap (λ (x : Passing). x.code) (pass_end cs _ _ _ _ _ h _ _ _ c.loop-i-test.false (c.loop-i.invariant.1 cs h)))
