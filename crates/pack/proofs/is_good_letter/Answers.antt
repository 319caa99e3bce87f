-- `pack::is_good_letter` meets its contract.
use mathlib.Core.Path.{◌∙◌}
use native.Mathlib.Omega.{arith}
use Rattle.pack.proofs.CallLaws.{letter-code, letter-wide, letter_short, letter-rows, letter-small}
use Rattle.pack.proofs.is_good_letter.Goals as goal

pub returns-then-code-eq-MINUS_ONE : goal.returns-then-code-eq-MINUS_ONE
returns-then-code-eq-MINUS_ONE c =
    let a = c.args in
    letter-code a.head a.code a.width a.rows.now c.if-code-eq-MINUS_ONE.true

pub returns-then-max_width-width : goal.returns-then-max_width-width
returns-then-max_width-width c =
    let a = c.args in
    letter-wide a.head a.code a.width a.rows.now c.if-code-eq-MINUS_ONE.false (omega (arith, c.max_width.ensures, c.if-max_width-width.true))

pub overflow_mul-head : goal.overflow_mul-head
overflow_mul-head c =
    let a = c.args in
    omega (arith, letter-small a.head a.code a.width a.rows.now c.requires (omega (arith, c.max_width.ensures, c.if-max_width-width.false)))

pub returns-then-rows-head : goal.returns-then-rows-head
returns-then-rows-head c =
    let a = c.args in
    c.are_legal.ensures ∙ letter-rows a.head a.code a.width a.rows.now c.if-code-eq-MINUS_ONE.false (omega (arith, c.max_width.ensures, c.if-max_width-width.false)) c.if-rows-head.true

pub returns : goal.returns
returns c =
    let a = c.args in
    letter_short a.head a.code a.width a.rows.now c.if-code-eq-MINUS_ONE.false (omega (arith, c.max_width.ensures, c.if-max_width-width.false)) c.if-rows-head.false
