-- `pack::find_rows` meets its contract.
use mathlib.Core.Path.{refl}
use native.Mathlib.Omega.{arith}
use Rattle.pack.proofs.CallLaws.{rows_inside, rows_of, rows_none, lies_there, lies_nowhere}
use Rattle.pack.proofs.find_rows.Goals as goal

pub overflow_add-end : goal.overflow_add-end
overflow_add-end c = omega (arith, rows_inside c.args.pack.now _ c.in-Ok.rows c.in-Ok.ensures)

pub slice_bounds-result-end : goal.slice_bounds-result-end
slice_bounds-result-end c = omega (arith, rows_inside c.args.pack.now _ c.in-Ok.rows c.in-Ok.ensures)

pub returns-in-Ok : goal.returns-in-Ok
returns-in-Ok c =
    record { part = rows_of c.args.pack.now _ c.in-Ok.rows c.in-Ok.ensures; place = lies_there _ _ _ c.in-Ok.rows c.in-Ok.ensures refl refl }

pub returns-in-Err : goal.returns-in-Err
returns-in-Err c =
    record { part = rows_none c.args.pack.now _ _ c.in-Err.ensures; place = lies_nowhere _ _ _ _ c.in-Err.ensures }
