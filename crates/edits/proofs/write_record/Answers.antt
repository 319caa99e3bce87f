-- `edits::write_record` meets its contract: the parts are laid one behind another.
use mathlib.Core.Path.{ap, ◌∙◌}
use Prim.Native.Nat.{◌+◌}
use Rattle.areas.specs.Laid.{laid}
use Rattle.areas.specs.Numbers.{high_first}
use Rattle.edits.proofs.WriteLaws.{written-rows}
use Rattle.edits.proofs.write_record.Goals as goal

pub returns : goal.returns
returns c =
    let a = c.args in
    let n = c.width_length-n in
    let e = c.write_number-2.ensures ∙ ap (laid (a.at + 5) (high_first n.result a.width)) c.write_number.ensures in
    c.copy_to.ensures ∙ ap (laid (a.at + 5 + n.result) a.rows.now) e ∙ written-rows c.args.version c.args.code c.args.width c.args.rows.now c.args.area.now c.args.at c.requires n.result n.ensures
