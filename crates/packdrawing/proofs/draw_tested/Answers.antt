-- `packdrawing::draw_tested` meets its contract.
use mathlib.Core.Path.{sym, ap, ◌∙◌, subst}
use native.Mathlib.Omega.{arith}
use lib.ListN.{length}
use Rattle.heads.proofs.OpenLaws.{told, told-damaged}
use Rattle.drawing.specs.Drawing.{Lined, unlined, PutOut}
use Rattle.packdrawing.proofs.PackCases.{scratch_small, scratch_enough, of_damaged}
use Rattle.packdrawing.proofs.draw_tested.Goals as goal

pub returns-then-scratch-lt-MIN_SCRATCH : goal.returns-then-scratch-lt-MIN_SCRATCH
returns-then-scratch-lt-MIN_SCRATCH c =
    let a = c.args in
    subst (λ (l : Lined). PutOut l (length a.out.now) c.refuse.result c.refuse.new.out)
    (ap unlined c.of.ensures ∙ sym (scratch_small a.pack.now a.layout a.direction a.file.now a.text.now (length a.scratch.now) c.if-scratch-lt-MIN_SCRATCH.true)) c.refuse.ensures

pub draw_opened-requires : goal.draw_opened-requires
draw_opened-requires c =
    let a = c.args in
    let t = told a.pack.now c.in-Some.opened.head c.in-Some.opened.live (sym c.in-Some.is ∙ c.open.ensures) in
    record { by_index = (t.records, t.says_so); min_scratch_in_bounds = omega (arith, c.if-scratch-lt-MIN_SCRATCH.false) }

pub returns-in-Some : goal.returns-in-Some
returns-in-Some c =
    let a = c.args in
    subst (λ (l : Lined). PutOut l (length a.out.now) c.draw_opened.result c.draw_opened.new.out)
    (sym (scratch_enough a.pack.now a.layout a.direction a.file.now a.text.now (length a.scratch.now) c.if-scratch-lt-MIN_SCRATCH.false)) c.draw_opened.ensures

pub returns-in-None : goal.returns-in-None
returns-in-None c =
    let a = c.args in
    subst (λ (l : Lined). PutOut l (length a.out.now) c.refuse-in-None.result c.refuse-in-None.new.out)
    (ap unlined c.of-in-None.ensures ∙ sym (scratch_enough a.pack.now a.layout a.direction a.file.now a.text.now (length a.scratch.now) c.if-scratch-lt-MIN_SCRATCH.false ∙
    of_damaged a.pack.now a.layout a.direction a.file.now a.text.now (told-damaged a.pack.now (sym c.in-None.is ∙ c.open.ensures)))) c.refuse-in-None.ensures
