-- `reader::which_of` meets its contract: a used entry is the code's own exactly if it has that code.
use mathlib.Core.Path.{sym, ◌∙◌}
use Rattle.chars.proofs.CodeLaws.{int_same}
use Rattle.reader.proofs.ThreeLaws.{own_found, other_stood_in}
use Rattle.reader.proofs.which_of.Goals as goal

pub returns-then-eq : goal.returns-then-eq
returns-then-eq c = λ es u. sym (own_found _ es _ u (sym (c.if-eq.ensures ∙ int_same c.args.entry.code.0 c.args.code.0)))

pub returns : goal.returns
returns c = λ es u. sym (other_stood_in _ es _ u (sym (c.if-eq.ensures ∙ int_same c.args.entry.code.0 c.args.code.0)))
