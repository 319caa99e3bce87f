-- `font::first_line` meets its contract: the header of the line that the cursor finds.
use mathlib.Core.Path.{◌≡◌, sym, ap, ◌∙◌}
use mathlib.Core.List.{List}
use Prim.Native.Nat.{ℕ}
use Rattle.std.specs.Prelude.{Option, Some, None, Result, Err, ok_or}
use Rattle.std.proofs.lemmas.Result.{err_from_is_err_and}
use Rattle.ground.specs.Refusals.{refusal, no_signature}
use Rattle.ground.specs.declared.refusals.Refusal.{Refusal}
use Rattle.ground.proofs.Tests.{clash}
use Rattle.lines.specs.declared.Line.{Line}
use Rattle.lines.specs.Lines.{next_line}
use Rattle.lines.proofs.LineLaws.{LineFound, line-found, line_missed, line_order, line-within}
use Rattle.font.specs.declared.Opening.{Opening}
use Rattle.font.specs.Steps.{first_line}
use Rattle.font.proofs.OpenLaws.{open_line, open_empty}
use Rattle.font.proofs.first_line.Goals.{In_ok-line}
use Rattle.font.proofs.first_line.Goals as goal

found : (c : In_ok-line) → LineFound c.args.font.now 0 c.in_ok-line.line
found c = line-found _ _ _ (sym c.in_ok-line.ensures.ok_part ∙ c.next.ensures ∙ ap (next_line c.args.font.now) c.new.ensures)

missed : (s : List ℕ) (o : Option Line) (q : Refusal) → o ≡ next_line s 0 → ◌≡◌ {A = Result Line Refusal} (Err q) (ok_or o (refusal no_signature 0)) → ◌≡◌ {A = Result Opening Refusal} (Err q) (first_line s)
missed s (Some l) q h e = clash (cc)
missed s None q h e = let d : q ≡ refusal no_signature 0 = cc in ap Err d ∙ open_empty s (line_missed s 0 h)

pub returns-in_err-line : goal.returns-in_err-line
returns-in_err-line c =
    let p = err_from_is_err_and c.from_residual.result c.from_residual.ensures.1 in
    let s = c.args.font.now in
    rw (p.1, p.2) (missed s c.next.result c.in_err-line.field-0.0 (c.next.ensures ∙ ap (next_line s) c.new.ensures) (c.in_err-line.ensures.value ∙ ap (ok_or c.next.result) c.of.ensures))

pub slice_bounds-read_header-count : goal.slice_bounds-read_header-count
slice_bounds-read_header-count c = line_order _ _ _ (found (goal.at.slice_bounds-read_header-count c).In_ok-line)

pub slice_bounds-read_header-start : goal.slice_bounds-read_header-start
slice_bounds-read_header-start c = line_order _ _ _ (found (goal.at.slice_bounds-read_header-start c).In_ok-line)

pub slice_bounds-read_header-end : goal.slice_bounds-read_header-end
slice_bounds-read_header-end c = line-within _ _ _ (found (goal.at.slice_bounds-read_header-end c).In_ok-line)

pub returns-in_err-h : goal.returns-in_err-h
returns-in_err-h c =
    let p = err_from_is_err_and c.from_residual-in_err-h.result c.from_residual-in_err-h.ensures.1 in
    rw (p.1, p.2) (open_line _ _ (found (goal.at.returns-in_err-h c).In_ok-line) _ c.in_err-h.ensures)

pub returns : goal.returns
returns c = c.past_comments.ensures ∙ open_line _ _ (found (goal.at.returns c).In_ok-line) _ c.in_ok-h.ensures
