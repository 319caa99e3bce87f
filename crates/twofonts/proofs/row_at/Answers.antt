-- `twofonts::row_at` meets its contract.
use mathlib.Core.Path.{ap, ◌∙◌}
use mathlib.Core.List.{List}
use Prim.Native.Nat.{ℕ}
use Rattle.lines.specs.Lines.{after}
use Rattle.lines.proofs.PlaceLaws.{skipped_to}
use Rattle.twofonts.specs.declared.RequestedOfTwo.TheVariants.{Row}
use Rattle.twofonts.proofs.row_at.Goals as goal

pub returns : goal.returns
returns c =
    let a = c.args in
    ap (λ (p : ℕ). Row a.which p a.entry.width) (skipped_to _ _ _ _ c.skip-skipped.ensures ∙ ap (λ (l : List ℕ). after a.row l a.entry.start) c.bytes_in-bytes.ensures)
