-- `twofonts::draw_tested` meets its contract.
use mathlib.Core.Path.{sym, ap, ◌∙◌, subst}
use lib.ListN.{length}
use Rattle.drawing.specs.Drawing.{Lined, unlined, PutOut}
use Rattle.twofonts.proofs.FontsLaws.{scratch_small, scratch_enough}
use Rattle.twofonts.proofs.draw_tested.Goals as goal

pub returns-then-scratch-lt-MIN_SCRATCH : goal.returns-then-scratch-lt-MIN_SCRATCH
returns-then-scratch-lt-MIN_SCRATCH c =
    let a = c.args in
    subst (λ (l : Lined). PutOut l (length a.out.now) c.refuse.result c.refuse.new.out) (ap unlined c.of.ensures ∙ sym (scratch_small a.first.now a.second.now a.file.now a.text.now (length a.scratch.now) c.if-scratch-lt-MIN_SCRATCH.true)) c.refuse.ensures

pub returns : goal.returns
returns c =
    let a = c.args in
    subst (λ (l : Lined). PutOut l (length a.out.now) c.draw_once.result c.draw_once.new.out) (sym (scratch_enough a.first.now a.second.now a.file.now a.text.now (length a.scratch.now) c.if-scratch-lt-MIN_SCRATCH.false)) c.draw_once.ensures
