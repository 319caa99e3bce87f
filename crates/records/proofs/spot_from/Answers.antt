-- `records::spot_from` meets its contract.
use mathlib.Core.Path.{sym, ◌∙◌, ap}
use borrow.Author.Rules.{rules}
use Rattle.records.proofs.WalkLaws.{records_at, has_width, spot_of, first_spot}
use Rattle.records.proofs.spot_from.Goals as goal

pub returns-in-Ok : goal.returns-in-Ok
returns-in-Ok c =
    let a = c.args in
    ap spot_of (sym c.in-Ok.is ∙ c.first_from.ensures (has_width a.width) (λ r b h. search rules)) ∙ first_spot a.head a.width a.from (records_at a.head a.s.now a.from)

pub returns-in-Err : goal.returns-in-Err
returns-in-Err c =
    let a = c.args in
    ap spot_of (sym c.in-Err.is ∙ c.first_from.ensures (has_width a.width) (λ r b h. search rules)) ∙ first_spot a.head a.width a.from (records_at a.head a.s.now a.from)
