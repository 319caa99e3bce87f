-- `figure::over` meets its contract: one call, of what stands on the left and what on the right.
use mathlib.Core.Path.{◌≡◌, ◌∙◌, ap}
use mathlib.Core.List.{List}
use Prim.Native.Nat.{ℕ}
use denote.Bor.{Bor}
use Rattle.figure.specs.Drawn.{on_left}
use Rattle.figure.proofs.Turning.{told, told_left}
use Rattle.figure.proofs.over.Goals.{After-overlap_of}
use Rattle.figure.proofs.over.Goals as goal

abbrev now : Bor (List ℕ) → List ℕ
now b = b.now

pub returns : goal.returns
returns c =
    let a = c.args in
    let d = a.mode.direction in
    let left : c.on_left-left.result.now ≡ on_left d a.area.now a.s.now = ap now c.on_left-left.ensures ∙ told_left now d a.area a.s in
    let rows : c.on_left-left_starts.result.now ≡ on_left d a.rows.now a.starts.now = ap now c.on_left-left_starts.ensures ∙ told_left now d a.rows a.starts in
    let right : c.on_left-right.result.now ≡ on_left d a.s.now a.area.now = ap now c.on_left-right.ensures ∙ told_left now d a.s a.area in
    let others : c.on_left-right_starts.result.now ≡ on_left d a.starts.now a.rows.now = ap now c.on_left-right_starts.ensures ∙ told_left now d a.starts a.rows in
    told a.mode a.h a.n a.m _ a.area.now a.rows.now a.s.now a.starts.now c.line_start-from.ensures c.requires.row_after_row _ _ _ _ _ _ left rows c.on_left-left_view.ensures right others c.on_left-right_view.ensures
    _ c.overlap_of.ensures
