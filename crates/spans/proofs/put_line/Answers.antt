-- `spans::put_line` meets its contract.
use Prim.Native.Nat.{◌-◌}
use native.Mathlib.Omega.{arith}
use lib.ListN.{length}
use Rattle.spans.proofs.SpanLaws.{rest-long, line_put}
use Rattle.spans.proofs.put_line.Goals as goal

pub returns : goal.returns
returns c =
    let a = c.args in
    let p = c.requires in
    line_put a.mode.hardblank.0 a.height a.w a.mode.direction a.area.now _ c.line_start-from.ensures a.at a.out.now c.show_rows.new.out (length a.out.now - a.at) (omega (arith, p.3)) (omega (arith, p.3, rest-long a.out.now a.at)) c.show_rows.ensures
