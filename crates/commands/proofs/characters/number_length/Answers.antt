-- `commands::characters::number_length` meets its contract.
use mathlib.Core.Path.{refl}
use Prim.Native.Nat.{◌-◌}
use native.Mathlib.Omega.{arith}
use borrow.Author.Rules.{rules}
use borrow.Author.Tests.{tests}
use lib.ListN.{length, drop, length-drop, length-take}
use Rattle.lines.specs.Numbers.{is_digit}
use Rattle.lines.proofs.NumberLaws.{minus_le, sound_of}
use Rattle.commands.proofs.CharacterLaws.{number_length_is, number_length_in}
use Rattle.commands.proofs.characters.number_length.Goals as goal

pub slice_bounds-u-count : goal.slice_bounds-u-count
slice_bounds-u-count c = omega (arith, c.minus_length-n.ensures, minus_le c.args.t.now)

pub slice_bounds-u-start : goal.slice_bounds-u-start
slice_bounds-u-start c = omega (arith, c.minus_length-n.ensures, minus_le c.args.t.now)

pub slice_bounds-digits-count : goal.slice_bounds-digits-count
slice_bounds-digits-count c = (sound_of _ _ c.find_radix-radix.ensures).skips

pub slice_bounds-digits-start : goal.slice_bounds-digits-start
slice_bounds-digits-start c = (sound_of _ _ c.find_radix-radix.ensures).skips

pub overflow_add-result : goal.overflow_add-result
overflow_add-result c = record { fits = omega (arith, minus_le c.args.t.now, c.minus_length-n.ensures, (sound_of _ _ c.find_radix-radix.ensures).skips, length-take (length c.args.t.now - c.minus_length-n.result) (drop c.minus_length-n.result c.args.t.now), length-drop c.minus_length-n.result c.args.t.now) }

pub overflow_add-result-2 : goal.overflow_add-result-2
unfolding is_digit
overflow_add-result-2 c =
    record { fits = omega (arith, number_length_in c.args.t.now _ _ _ _ c.minus_length-n.ensures refl c.find_radix-radix.ensures (c.run_length.ensures (is_digit c.find_radix-radix.result.base) λ x r k. search (rules, tests))) }

pub returns : goal.returns
unfolding is_digit
returns c =
    number_length_is c.args.t.now _ _ _ _ c.minus_length-n.ensures refl c.find_radix-radix.ensures (c.run_length.ensures (is_digit c.find_radix-radix.result.base) λ x r k. search (rules, tests))
