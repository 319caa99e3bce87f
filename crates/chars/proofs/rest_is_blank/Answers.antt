-- `chars::rest_is_blank` meets its contract: the library's `all` is the one of the definitions.
use mathlib.Core.Path.{◌∙◌}
use lib.ListN.{drop}
use borrow.Author.Tests.{tests}
use Rattle.std.proofs.Common.{rules}
use Rattle.std.proofs.lemmas.Iterator.{YieldsList-from_slice}
use Rattle.std.proofs.lemmas.Iterator.Adapters.{YieldsList-from_skip}
use Rattle.std.proofs.lemmas.Iterator.Search.{all_from_yields_List}
use Rattle.rows.proofs.AllLaws.{all_is}
use Rattle.chars.specs.Steps.{is_space, blank_from}
use Rattle.chars.proofs.rest_is_blank.Goals as goal

pub returns : goal.returns
unfolding blank_from
returns c =
    all_from_yields_List is_space _ _ c.all.result c.all.ensures.ran (YieldsList-from_skip c.args.at (YieldsList-from_slice c.args.s.now (cc)) cc) (λ x b q k. search (rules, tests)) ∙
    all_is is_space (drop c.args.at c.args.s.now)
