-- `records::bits_of` meets its contract.
use mathlib.Core.Path.{◌≡◌}
use mir.Syntax.{w32}
use mir.Val.{SFits, to_z, of_z}
use borrow.Author.Rules.{rules}
use Rattle.records.proofs.CodeLaws.{sum_bits, low_bits}
use Rattle.records.proofs.bits_of.Goals as goal

pub returns-then-z-lt0 : goal.returns-then-z-lt0
returns-then-z-lt0 c =
    let z = c.args.code.0 in
    let f : SFits w32 z = search rules in
    let e : to_z w32 (of_z w32 z) ≡ z = search rules in
    sum_bits z f (rw e at c.if-z-lt0.true)

pub returns : goal.returns
returns c =
    let z = c.args.code.0 in
    let f : SFits w32 z = search rules in
    let e : to_z w32 (of_z w32 z) ≡ z = search rules in
    low_bits z f (rw e at c.if-z-lt0.false)
