-- `index::find` meets its contract: what the library's `rposition` finds is the last place.
use Rattle.std.proofs.Common.{rules}
use Rattle.index.proofs.FindLaws.{last_found}
use Rattle.index.proofs.find.Goals as goal

pub returns : goal.returns
returns c = last_found c.args.code.0 c.args.codes.now c.rposition.result (search rules)
