-- `breaks::word_from` meets its contract.
use mathlib.Core.Path.{ap}
use Prim.Native.Nat.{ℕ, ◌+◌, ◌≤◌}
use native.Mathlib.Omega.{arith}
use borrow.Author.Rules.{rules}
use lib.ListN.{length}
use Rattle.breaks.specs.Words.{is_break}
use Rattle.breaks.proofs.WordLaws.{run-within, blanks_from}
use Rattle.breaks.proofs.word_from.Goals as goal

pub overflow_add-result : goal.overflow_add-result
overflow_add-result c =
    let n = blanks_from c.args.text.now c.args.p c.leading_blanks.result c.leading_blanks.ensures in
    let l = run-within c.args.text.now is_break c.args.p c.requires in
    let m : c.args.p + c.leading_blanks.result ≤ length c.args.text.now = omega (arith, n, l) in
    search (rules, m)

pub returns : goal.returns
returns c = ap (λ (n : ℕ). c.args.p + n) (blanks_from c.args.text.now c.args.p c.leading_blanks.result c.leading_blanks.ensures)
