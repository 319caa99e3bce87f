-- `flc::reading::start_at` meets its contract.
use mathlib.Core.Path.{◌≡◌, sym, ap, ◌∙◌}
use mathlib.Core.List.{List}
use Prim.Native.Nat.{ℕ}
use Rattle.std.specs.Prelude.{Option, Some}
use Rattle.lines.specs.declared.Line.{Line}
use Rattle.lines.specs.Lines.{next_line}
use Rattle.lines.proofs.LineLaws.{LineFound, line-found, line_missed, line_order, line-within}
use Rattle.lines.proofs.WordLaws.{begins_is}
use Rattle.flc.proofs.StepLaws.{start-empty, start-behind, start_here}
use Rattle.flc.proofs.reading.start_at.Goals as goal

-- the first line
met : (s : List ℕ) (at : ℕ) (l : Line) (r : Option Line) → r ≡ Some l → r ≡ next_line s at → at ≡ 0 → LineFound s 0 l
met s at l r f e z = line-found s 0 l (sym f ∙ e ∙ ap (next_line s) z)

pub slice_bounds-starts_with-count : goal.slice_bounds-starts_with-count
slice_bounds-starts_with-count c = line_order c.args.s.now 0 _ (met _ _ _ _ c.in-Some.is c.next.ensures c.new-cursor.ensures)

pub slice_bounds-starts_with-start : goal.slice_bounds-starts_with-start
slice_bounds-starts_with-start c = line_order c.args.s.now 0 _ (met _ _ _ _ c.in-Some.is c.next.ensures c.new-cursor.ensures)

pub slice_bounds-starts_with-end : goal.slice_bounds-starts_with-end
slice_bounds-starts_with-end c = line-within c.args.s.now 0 _ (met _ _ _ _ c.in-Some.is c.next.ensures c.new-cursor.ensures)

pub returns-then-starts_with : goal.returns-then-starts_with
returns-then-starts_with c =
    start-behind c.args.s.now c.in-Some.line (met _ _ _ _ c.in-Some.is c.next.ensures c.new-cursor.ensures) _ (c.starts_with.ensures.value ∙ begins_is _ _) c.if-starts_with.true

pub returns-else-starts_with : goal.returns-else-starts_with
returns-else-starts_with c =
    c.new-cursor.ensures ∙
    start_here c.args.s.now c.in-Some.line (met _ _ _ _ c.in-Some.is c.next.ensures c.new-cursor.ensures) _ (c.starts_with.ensures.value ∙ begins_is _ _) c.if-starts_with.false

pub returns-in_default : goal.returns-in_default
returns-in_default c =
    let s = c.args.s.now in
    let n = c.new-cursor.ensures in
    n ∙ start-empty s (line_missed s 0 (sym c.in_default.is ∙ c.next.ensures ∙ ap (next_line s) n))
