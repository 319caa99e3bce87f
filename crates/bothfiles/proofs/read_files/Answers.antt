-- `bothfiles::read_files` meets its contract.
use mathlib.Core.Path.{sym}
use Rattle.mapping.proofs.HeldLaws.{told}
use Rattle.bothfiles.proofs.HeldLaws.{held_as, files_held}
use Rattle.bothfiles.proofs.read_files.Goals as goal

pub returns : goal.returns
returns c =
    let a = c.args in
    let f = c.read_font-f in
    let g = c.read_lists-c in
    held_as a.font.now a.control.now f.new.codes f.new.starts f.new.widths f.new.places g.new.stages g.new.firsts g.new.lasts g.new.news _ _ (sym c.files_of.ensures)
    (files_held a.font.now a.control.now f.new.codes f.new.starts f.new.widths f.new.places g.new.stages g.new.firsts g.new.lasts g.new.news f.result g.result
    f.ensures (told a.control.now (λ i. (c.shared_slice_known-2-1.given i).fits) g.result _ _ _ _ _ _ _ _ g.ensures))
