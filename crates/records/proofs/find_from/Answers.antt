-- `records::find_from` meets its contract.
use mathlib.Core.Path.{◌∙◌, ap}
use borrow.Author.Rules.{rules}
use Rattle.std.specs.Result.{result_ok}
use Rattle.records.proofs.WalkLaws.{records_at, has_code, first_place}
use Rattle.records.proofs.find_from.Goals as goal

pub returns : goal.returns
returns c =
    let a = c.args in
    let e = c.first_from.ensures (has_code a.code) (λ r b h. search rules) in
    c.ok.ensures.value ∙ ap result_ok e ∙ first_place a.head a.code a.from (records_at a.head a.s.now a.from)
