use mathlib.Core.Path.{◌≡◌, sym, ap, ◌∙◌}
use Prim.Native.Nat.{ℕ, ◌+◌, ◌-◌}
use native.Mathlib.Omega.{arith}
use Rattle.lines.specs.Lines.{skipped}
use Rattle.lines.proofs.LineLaws.{line-found, line_missed}
use Rattle.lines.proofs.PlaceLaws.{skip_none, skip_short, skip_more}
use Rattle.lines.proofs.Cursor.skip.Goals as goal

pub returns-in_default : goal.returns-in_default
returns-in_default c =
    let l = c.loop-passed in
    skip_short _ l.cursor _ (line_missed _ _ (sym c.in_default.is ∙ c.next.ensures)) ∙ sym l.invariant

pub loop-passed-preserved : goal.loop-passed-preserved
loop-passed-preserved c =
    let l = c.loop-passed in
    let s = c.args.s.now in
    let left = c.args.count - l.passed in
    let f = line-found s l.cursor.at _ (sym c.in-Some.is ∙ c.next.ensures) in
    let e : left - 1 ≡ c.args.count - (l.passed + 1) = omega arith in
    l.invariant ∙ skip_more s l.cursor left (omega arith) f.inside ∙ ap (skipped (left - 1) s) (sym f.further) ∙
    ap (λ (k : ℕ). skipped k s c.in-Some.line.next.at) e

pub returns : goal.returns
returns c =
    let l = c.loop-passed in
    skip_none _ l.cursor _ (omega arith) ∙ sym l.invariant
