-- `spans::keep_line` meets its contract.
use Rattle.spans.proofs.KeepingLaws.{line_front, line-stands}
use Rattle.spans.proofs.keep_line.Goals as goal

pub returns : goal.returns
returns c =
    let a = c.args in
    let put = c.put_line in record { out_unchanged = line_front a.drawer.mode a.drawer.height a.n a.at a.area.now a.out.now put.new.out c.requires.height_le_max_height.2 put.ensures; by_index = λ line b like kept l. line-stands a.drawer.mode a.drawer.height a.n a.at a.area.now a.out.now put.new.out c.requires.height_le_max_height.2 put.ensures (line a.e) like }
