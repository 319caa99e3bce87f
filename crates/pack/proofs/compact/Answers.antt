-- `pack::compact` meets its contract.
use Rattle.heads.proofs.FindLaws.{walkable}
use Rattle.pack.proofs.CallLaws.{err_is, opened_told, compact_done, compact_damaged}
use Rattle.pack.proofs.compact.Goals as goal

pub squeeze-requires : goal.squeeze-requires
squeeze-requires c =
    let s = c.args.pack.now in
    let o = c.in_ok-head.field-0 in
    let t = opened_told s o c.in_ok-head.ensures in
    walkable s o.head t.records t.says_so c.head_length.result c.head_length.ensures

pub returns : goal.returns
returns c =
    let s = c.args.pack.now in
    let o = c.in_ok-head.field-0 in
    let t = opened_told s o c.in_ok-head.ensures in
    compact_done s o.head t.records t.says_so c.head_length.result c.head_length.ensures c.squeeze.new.area c.squeeze.ensures

pub returns-in_err-head : goal.returns-in_err-head
returns-in_err-head c = rw (err_is c.from_residual.result _ c.from_residual.ensures.1) (compact_damaged c.args.pack.now _ c.in_err-head.ensures)
