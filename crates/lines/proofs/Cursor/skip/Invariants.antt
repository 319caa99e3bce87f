-- `lines::Cursor::skip` meets its contract. The invariant: what is left to skip from the cursor on decides.
use mathlib.Core.Path.{◌≡◌}
use Prim.Native.Nat.{◌-◌}
use Rattle.lines.specs.Lines.{skipped}
use Rattle.lines.proofs.Cursor.skip.Given as goal

abbrev pub invariant-loop-passed : goal.invariant-loop-passed
invariant-loop-passed l = skipped l.count l.s l.initial.cursor.at ≡ skipped (l.count - l.passed) l.s l.cursor.at
