-- `letters::find_letter` meets its contract.
use mathlib.Core.Path.{ap, ◌∙◌}
use Rattle.heads.proofs.FindLaws.{walkable, found}
use Rattle.records.specs.Places.{place_in}
use Rattle.records.specs.Versions.{head_length}
use Rattle.letters.proofs.find_letter.Goals as goal

pub find_from-requires : goal.find_from-requires
find_from-requires c =
    let a = c.args in
    let p = c.requires in
    walkable a.pack.now a.head p.records p.said c.head_length.result c.head_length.ensures

pub returns : goal.returns
returns c = λ rs m.
    let a = c.args in
    let n = c.bits_of-bits in
    let h = c.head_length in
    found a.pack.now a.head rs m n.result h.result c.find_from.result h.ensures c.find_from.ensures ∙ ap (λ b. place_in a.head b (head_length a.head.version) rs) n.ensures
