-- `rules::mark_of` meets its contract: each arm has the entry of its sub-character.
use mathlib.Core.Path.{sym}
use native.Mathlib.Omega.{arith}
use Rattle.rules.proofs.Table.{marked}
use Rattle.rules.proofs.mark_of.Goals as goal

pub returns-in-124 : goal.returns-in-124
returns-in-124 c = marked 0 c.args.x.0 (omega arith) (sym c.in-124.is)

pub returns-in-47 : goal.returns-in-47
returns-in-47 c = marked 1 c.args.x.0 (omega arith) (sym c.in-47.is)

pub returns-in-92 : goal.returns-in-92
returns-in-92 c = marked 2 c.args.x.0 (omega arith) (sym c.in-92.is)

pub returns-in-91 : goal.returns-in-91
returns-in-91 c = marked 3 c.args.x.0 (omega arith) (sym c.in-91.is)

pub returns-in-93 : goal.returns-in-93
returns-in-93 c = marked 4 c.args.x.0 (omega arith) (sym c.in-93.is)

pub returns-in-123 : goal.returns-in-123
returns-in-123 c = marked 5 c.args.x.0 (omega arith) (sym c.in-123.is)

pub returns-in-125 : goal.returns-in-125
returns-in-125 c = marked 6 c.args.x.0 (omega arith) (sym c.in-125.is)

pub returns-in-40 : goal.returns-in-40
returns-in-40 c = marked 7 c.args.x.0 (omega arith) (sym c.in-40.is)

pub returns-in-41 : goal.returns-in-41
returns-in-41 c = marked 8 c.args.x.0 (omega arith) (sym c.in-41.is)

pub returns-in-60 : goal.returns-in-60
returns-in-60 c = marked 9 c.args.x.0 (omega arith) (sym c.in-60.is)

pub returns-in-62 : goal.returns-in-62
returns-in-62 c = marked 10 c.args.x.0 (omega arith) (sym c.in-62.is)
