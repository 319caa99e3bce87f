-- `wrapping::wrap_text` meets its contract.
use mathlib.Core.Path.{sym, ap, ◌∙◌}
use Prim.Native.Nat.{ℕ}
use native.Mathlib.Omega.{arith}
use Rattle.ground.specs.Refusals.{refusal, character_too_wide}
use Rattle.wrapping.specs.Wrapping.{unwrapped}
use Rattle.spans.proofs.DrawnLaws.{none-wider}
use Rattle.wrapping.proofs.OrderLaws.{out_as, text-wider, text-fits}
use Rattle.wrapping.proofs.wrap_text.Goals as goal

pub returns-then-place-text : goal.returns-then-place-text
returns-then-place-text c =
    let a = c.args in
    λ x.
    let m = c.measure-measured.ensures x in
    out_as _ _ _ _ _ _ _ _ _ (text-wider a.drawer.mode a.drawer.height x.source x.held.commands x.held.count a.drawer.limit a.text.now (omega (arith, m.place, c.if-place-text.true)) ∙ ap (λ (j : ℕ). unwrapped (refusal character_too_wide j)) (sym m.place)) c.refuse.ensures

pub wrap_lines-requires : goal.wrap_lines-requires
wrap_lines-requires c =
    let a = c.args in
    let p = c.requires in
    let x = p.draws_by in
    record { none_wider = (x, none-wider a.drawer.mode a.drawer.height x.source x.held.commands x.held.count a.text.now a.drawer.limit (omega (arith, (c.measure-measured.ensures x).place, c.if-place-text.false))); limit_le_max_line_width = (p.limit_le_max_line_width.0, p.limit_le_max_line_width.1, p.limit_le_max_line_width.2, omega (arith, p.limit_le_max_line_width.2)); min_lines_in_bounds = p.min_lines_in_bounds }

pub returns : goal.returns
returns c =
    let a = c.args in
    λ x.
    let m = c.measure-measured.ensures x in
    let left = c.if-place-text.false in
    out_as _ _ _ _ _ _ _ _ _ (text-fits a.drawer.mode a.drawer.height x.source x.held.commands x.held.count a.drawer.limit a.text.now (omega (arith, m.place, left)))
    (c.wrap_lines.ensures x (none-wider a.drawer.mode a.drawer.height x.source x.held.commands x.held.count a.text.now a.drawer.limit (omega (arith, m.place, left))) (m.missing left))
