-- `mapping::pass_command` meets its contract.
use mathlib.Core.Path.{sym, ap, ◌∙◌}
use Prim.Native.Nat.{◌+◌}
use Rattle.mapping.proofs.PassLaws.{pass_closed, pass_acts, pass_not, fits_of}
use Rattle.mapping.specs.Passing.{passing}
use Rattle.mapping.proofs.pass_command.Goals as goal

pub returns-then-c-p : goal.returns-then-c-p
returns-then-c-p c = pass_closed c.args.c c.args.p c.if-c-p.true

pub new_code-requires : goal.new_code-requires
new_code-requires c = c.requires.within _ (fits_of c.args.c c.args.p.code (sym c.in_range.ensures ∙ c.if-in_range.true))

pub returns-then-in_range : goal.returns-then-in_range
returns-then-in_range c = ap (passing (c.args.c.stage + 1)) c.new_code.ensures ∙ pass_acts c.args.c c.args.p c.if-c-p.false (sym c.in_range.ensures ∙ c.if-in_range.true)

pub returns : goal.returns
returns c = pass_not c.args.c c.args.p c.if-c-p.false (sym c.in_range.ensures ∙ c.if-in_range.false)
