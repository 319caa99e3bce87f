-- `columns::overlaps::supersmushing_rows` meets its contract.
use mathlib.Core.Path.{◌∙◌, sym}
use Rattle.std.proofs.Common.{rules}
use Prim.Native.Nat.{ℕ, min}
use native.Mathlib.Omega.{arith}
use Rattle.lanes.specs.Blocks.{Cells}
use Rattle.subchars.specs.declared.VerticalSmushing.TheVariants.{Controlled}
use Rattle.subchars.specs.declared.VerticalLayout.TheVariants.{Smushing}
use Rattle.vertical.specs.VerticalPair.{merges, barred, other_rules}
use Rattle.columns.specs.Placing.{placed_columns}
use Rattle.columns.proofs.Demand.{super_far, super_else}
use Rattle.columns.proofs.overlaps.supersmushing_rows.Goals.{Start}
use Rattle.columns.proofs.overlaps.supersmushing_rows.Goals as goal

abbrev up : Start → Cells
up s = placed_columns s.args.hardblank.0 s.args.upper

abbrev low : Start → Cells
low s = placed_columns s.args.hardblank.0 s.args.lower

abbrev narrow : Start → ℕ
narrow s = min s.args.upper.width s.args.lower.width

pub returns-then-fit-far : goal.returns-then-fit-far
returns-then-fit-far c =
    let s = (goal.at.returns-then-fit-far c).Start in
    let fit = c.fitting_rows-fit in
    let far = c.furthest_rows-far.ensures barred (λ u l t e. search rules) in
    far ∙ sym (super_far (narrow s) c.args.upper.height c.args.lower.height (up s) (low s) c.args.set (omega (arith, c.if-fit-far.true, fit.ensures, far)))

pub returns : goal.returns
returns c =
    let s = (goal.at.returns c).Start in
    let fit = c.fitting_rows-fit in
    let far = c.furthest_rows-far.ensures barred (λ u l t e. search rules) in
    c.smushing_rows.ensures (merges (Smushing (Controlled (other_rules c.args.set)))) (λ u l t e. search rules) ∙ sym (super_else (narrow s) c.args.upper.height c.args.lower.height (up s) (low s) c.args.set (omega (arith, c.if-fit-far.false, fit.ensures, far)))
