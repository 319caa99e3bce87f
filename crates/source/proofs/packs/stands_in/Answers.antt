-- `source::packs::stands_in` meets its contract.
use native.Mathlib.Omega.{arith}
use Rattle.records.proofs.VersionLaws.{head_length_low}
use Rattle.heads.proofs.FindLaws.{inside}
use Rattle.source.proofs.PackLaws.{said, letters-held, zeroth_stands_in}
use Rattle.source.proofs.packs.stands_in.Goals as goal

pub head_in-head-requires : goal.head_in-head-requires
head_in-head-requires c =
    let g = c.requires.1 in
    omega (arith, inside _ g.head g.records g.said, head_length_low g.head.version)

pub find_letter-requires : goal.find_letter-requires
find_letter-requires c = letters-held _ _ _ _ _ c.requires.1 _ c.head_in-head.ensures

pub returns : goal.returns
returns c = λ source g.
    let f = c.head_in-head in
    zeroth_stands_in source _ _ _ _ g f.result f.ensures _ c.find_letter.result (c.find_letter.ensures g.records (said source _ _ _ _ g f.result f.ensures)) c.is_some.ensures
