-- `drawing::mode_of` meets its contract.
use mathlib.Core.Path.{ap}
use Rattle.subchars.specs.declared.Direction.{Direction}
use Rattle.drawing.specs.Drawing.{mode_of}
use Rattle.drawing.proofs.mode_of.Goals as goal

pub returns : goal.returns
unfolding mode_of
returns c =
    let h = c.args.header in
    ap (λ (d : Direction). record { layout = h.layout; direction = d; hardblank = h.hardblank }) c.direction_of-direction.ensures
