-- `lines::numbers::header_number` meets its contract.
use native.Mathlib.Omega.{arith}
use Rattle.lines.proofs.NumberLaws.{minus_le, header-long, header_short}
use Rattle.lines.proofs.numbers.header_number.Goals as goal

pub slice_bounds-digits-count : goal.slice_bounds-digits-count
slice_bounds-digits-count c = omega (arith, c.minus_length-n.ensures, minus_le c.args.w.now)

pub slice_bounds-digits-start : goal.slice_bounds-digits-start
slice_bounds-digits-start c = omega (arith, c.minus_length-n.ensures, minus_le c.args.w.now)

pub returns-then-digits-gt-MAX_DIGITS : goal.returns-then-digits-gt-MAX_DIGITS
returns-then-digits-gt-MAX_DIGITS c = header-long _ _ c.minus_length-n.ensures c.if-digits-gt-MAX_DIGITS.true

pub returns : goal.returns
returns c = header_short _ _ c.minus_length-n.ensures _ c.if-digits-gt-MAX_DIGITS.false c.number_of.ensures
