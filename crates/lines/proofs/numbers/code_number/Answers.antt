-- `lines::numbers::code_number` meets its contract.
use mathlib.Core.Path.{refl, ◌∙◌}
use native.Mathlib.Omega.{arith}
use borrow.Author.Rules.{rules}
use borrow.Author.Tests.{tests}
use Rattle.lines.proofs.NumberLaws.{minus_le, sound_of, code_is}
use Rattle.lines.proofs.numbers.code_number.Goals as goal

pub slice_bounds-t-count : goal.slice_bounds-t-count
slice_bounds-t-count c = omega (arith, c.minus_length-n.ensures, minus_le c.args.w.now)

pub slice_bounds-t-start : goal.slice_bounds-t-start
slice_bounds-t-start c = omega (arith, c.minus_length-n.ensures, minus_le c.args.w.now)

pub slice_bounds-number_of-count : goal.slice_bounds-number_of-count
slice_bounds-number_of-count c = (sound_of _ _ c.find_radix-radix.ensures).skips

pub slice_bounds-number_of-start : goal.slice_bounds-number_of-start
slice_bounds-number_of-start c = (sound_of _ _ c.find_radix-radix.ensures).skips

pub number_of-requires : goal.number_of-requires
number_of-requires c = let s = sound_of _ _ c.find_radix-radix.ensures in (s.low, s.high)

pub returns : goal.returns
returns c =
    search (rules, tests) ∙
    code_is c.args.w.now _ _ _ _ c.minus_length-n.ensures refl c.find_radix-radix.ensures c.number_of.ensures
