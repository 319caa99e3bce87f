-- `lines::Cursor::next_plain` meets its contract: a run of plain bytes, with an LF behind it, is a line.
use mathlib.Core.Path.{◌≡◌, ap, ◌∙◌}
use native.Mathlib.Omega.{arith}
use lib.ListN.{drop, length-drop}
use Rattle.ground.specs.Runs.{run}
use Rattle.ground.proofs.Runs.{rest-is, run_le}
use Rattle.lines.specs.Plain.{is_plain}
use Rattle.lines.proofs.PlainLaws.{plain-line}
use Rattle.lines.proofs.Cursor.next_plain.Goals.{After-plain_length-n}
use Rattle.lines.proofs.Cursor.next_plain.Goals as goal

-- how many bytes from the place on are plain
counted : (c : After-plain_length-n) → c.plain_length-n.result ≡ run is_plain (drop c.args.self.at c.args.s.now)
counted c = c.plain_length-n.ensures ∙ ap (run is_plain) (rest-is c.args.s.now c.args.self.at)

pub overflow_add-end : goal.overflow_add-end
overflow_add-end c =
    let a = c.args in
    omega (arith, counted (goal.at.overflow_add-end c).After-plain_length-n, run_le is_plain (drop a.self.at a.s.now), length-drop a.self.at a.s.now)

pub returns-then-s-end-eq10 : goal.returns-then-s-end-eq10
returns-then-s-end-eq10 c =
    let a = c.args in
    plain-line a.s.now a.self.at c.plain_length-n.result (counted (goal.at.returns-then-s-end-eq10 c).After-plain_length-n) c.if-end-s.true c.if-s-end-eq10.true
