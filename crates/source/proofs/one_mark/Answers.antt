-- `source::one_mark` meets its contract.
use native.Mathlib.Omega.{arith}
use borrow.Author.Tests.{eqb-true}
use Rattle.source.proofs.MarkLaws.{byte-within, lf_behind}
use Rattle.source.proofs.one_mark.Goals as goal

pub overflow_add-at : goal.overflow_add-at
overflow_add-at c = omega (arith, byte-within c.args.font.now c.args.at c.requires)

pub returns : goal.returns
returns c = λ e. lf_behind c.args.font.now c.args.at c.requires (omega (arith, c.if-font-at.false)) (eqb-true _ 10 e)
