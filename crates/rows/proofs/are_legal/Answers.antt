-- `rows::are_legal` meets its contract: the library's `all` is the one of the definitions.
use mathlib.Core.Path.{◌∙◌}
use borrow.Author.Tests.{tests}
use Rattle.std.proofs.Common.{rules}
use Rattle.std.proofs.lemmas.Iterator.{YieldsList-from_slice}
use Rattle.std.proofs.lemmas.Iterator.Search.{all_from_yields_List}
use Rattle.rows.specs.Rows.{legal_byte}
use Rattle.rows.proofs.AllLaws.{all_is}
use Rattle.rows.proofs.are_legal.Goals as goal

pub returns : goal.returns
returns c =
    all_from_yields_List (legal_byte c.args.hardblank.0) _ _ c.all.result c.all.ensures.ran (YieldsList-from_slice c.args.t.now cc) (λ x b q k. search (rules, tests)) ∙ all_is (legal_byte c.args.hardblank.0) c.args.t.now
