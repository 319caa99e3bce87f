-- `columns::overlaps::overlap_of` meets its contract.
use mathlib.Core.Path.{◌≡◌, refl, ◌∙◌, sym, ap}
use Rattle.std.proofs.Common.{rules}
use Prim.Native.Nat.{ℕ, min}
use borrow.Author.Tests.{eq-eqb, ne_eqb}
use Rattle.subchars.specs.declared.VerticalLayout.{VerticalLayout}
use Rattle.subchars.specs.declared.VerticalLayout.TheVariants.{FullHeight, Fitting, Smushing}
use Rattle.subchars.specs.declared.VerticalSmushing.TheVariants.{Universal}
use Rattle.lanes.specs.Blocks.{Cells}
use Rattle.lanes.specs.Overlap.{smushing}
use Rattle.vertical.specs.VerticalPair.{merges}
use Rattle.columns.specs.Stack.{columns_overlap, stack_overlap}
use Rattle.columns.specs.Placing.{placed_block, placed_columns}
use Rattle.columns.proofs.Demand.{ruled, ruled_super, ruled_smushing}
use Rattle.columns.proofs.Narrower.{overlap-narrow}
use Rattle.columns.proofs.overlaps.overlap_of.Goals.{Start}
use Rattle.columns.proofs.overlaps.overlap_of.Goals as goal

abbrev up : Start → Cells
up s = placed_columns s.args.hardblank.0 s.args.upper

abbrev low : Start → Cells
low s = placed_columns s.args.hardblank.0 s.args.lower

-- the overlap by a layout, of the narrower block's columns
abbrev by : Start → VerticalLayout → ℕ
by s layout = columns_overlap layout (min s.args.upper.width s.args.lower.width) s.args.upper.height s.args.lower.height (up s) (low s)

-- which is that of the blocks, whatever layout was told
whole : (s : Start) (x : ℕ) (layout : VerticalLayout) → s.args.layout ≡ layout → x ≡ by s layout → x ≡ stack_overlap s.args.layout s.args.hardblank.0 s.args.upper.height (placed_block s.args.upper) s.args.lower.height (placed_block s.args.lower)
whole s x layout e p = p ∙ (ap (by s) (sym e) ∙ sym (overlap-narrow s.args.layout s.args.hardblank.0 s.args.upper.height (placed_block s.args.upper) s.args.lower.height (placed_block s.args.lower)))

-- smushing by a layout
abbrev smushed : Start → VerticalLayout → ℕ
smushed s layout = smushing (merges layout) (min s.args.upper.width s.args.lower.width) s.args.upper.height s.args.lower.height (up s) (low s)

pub returns-in-FullHeight : goal.returns-in-FullHeight
unfolding columns_overlap
returns-in-FullHeight c = whole (goal.at.returns-in-FullHeight c).Start 0 FullHeight c.in-FullHeight.is refl

pub returns-in-Fitting : goal.returns-in-Fitting
unfolding columns_overlap
returns-in-Fitting c = whole (goal.at.returns-in-Fitting c).Start c.fitting_rows.result Fitting c.in-Fitting.is c.fitting_rows.ensures

pub returns-in-Smushing-Universal : goal.returns-in-Smushing-Universal
unfolding columns_overlap
returns-in-Smushing-Universal c =
    let s = (goal.at.returns-in-Smushing-Universal c).Start in
    let e : s.args.layout ≡ Smushing Universal = c.in-Smushing-Universal.is ∙ ap Smushing (rw c.in-Smushing-Universal.is at c.in-Smushing-Universal.field-0-is) in
    whole s c.smushing_rows.result (Smushing Universal) e (c.smushing_rows.ensures (merges s.args.layout) (λ u l t e. search rules) ∙ ap (smushed s) e)

-- controlled smushing by the set, with 4096 or without
pub returns-then-set-eq1 : goal.returns-then-set-eq1
returns-then-set-eq1 c =
    whole (goal.at.returns-then-set-eq1 c).Start c.supersmushing_rows.result (ruled _) (c.in-Smushing-Controlled.is ∙ ap Smushing (rw c.in-Smushing-Controlled.is at c.in-Smushing-Controlled.field-0-is))
    (c.supersmushing_rows.ensures ∙ sym (ruled_super _ _ _ _ _ _ (eq-eqb _ _ c.if-set-eq1.true)))

pub returns-else-set-eq1 : goal.returns-else-set-eq1
returns-else-set-eq1 c =
    let s = (goal.at.returns-else-set-eq1 c).Start in
    let e : s.args.layout ≡ ruled c.in-Smushing-Controlled.set = c.in-Smushing-Controlled.is ∙ ap Smushing (rw c.in-Smushing-Controlled.is at c.in-Smushing-Controlled.field-0-is) in
    whole s c.smushing_rows-else-set-eq1.result (ruled _) e
    (c.smushing_rows-else-set-eq1.ensures (merges s.args.layout) (λ u l t e. search rules) ∙ (ap (smushed s) e ∙ sym (ruled_smushing _ _ _ _ _ _ (ne_eqb _ _ c.if-set-eq1.false))))
