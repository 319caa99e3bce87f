-- `cutting::line_end` meets its contract: the place of the first LF is how many bytes stand before it.
use Rattle.std.proofs.Common.{rules, tests}
use Rattle.std.proofs.lemmas.Iterator.{YieldsList-from_slice}
use Rattle.std.proofs.lemmas.Iterator.Search.{position_from_yields_List}
use mathlib.Core.Path.{◌∙◌, ap}
use lib.ListN.{length}
use Rattle.std.specs.Prelude.{Option, ℕ, unwrap_or}
use Rattle.ground.specs.Text.{is_lf}
use Rattle.cutting.proofs.StepLaws.{first-or-end}
use Rattle.cutting.proofs.line_end.Goals as goal

pub returns : goal.returns
returns c =
    let s = c.args.part.now in
    let e = position_from_yields_List is_lf _ _ c.position.result c.position.ensures.ran (YieldsList-from_slice s cc) (λ x b q k. search (rules, tests)) in
    c.unwrap_or.ensures ∙ ap (λ (o : Option ℕ). unwrap_or o (length s)) e ∙ first-or-end s
