-- `capi::wattleslate_stack` meets its contract, for every input.
use mathlib.Core.Path.{refl, ap, ◌∙◌}
use lib.ListN.{length}
use Rattle.ground.proofs.Areas.{wiped}
use Rattle.ground.specs.Refusals.{number_of}
use Rattle.ground.specs.declared.refusals.Refusal.{Refusal}
use Rattle.answers.specs.Numbers.{refused_at, stack_number}
use Rattle.capi.proofs.Bounds.{stack_fits}
use Rattle.capi.proofs.StackLaws.{illegal_told, illegal_area, legal-told, legal-area}
use Rattle.capi.proofs.wattleslate_stack.Goals as goal

pub returns-then-layout-gt-MAX_FULL_LAYOUT : goal.returns-then-layout-gt-MAX_FULL_LAYOUT
returns-then-layout-gt-MAX_FULL_LAYOUT c =
    let a = c.args in
    let is = c.if-layout-gt-MAX_FULL_LAYOUT.true in record { answer = c.refusal_number.ensures ∙ ap (λ (r : Refusal). refused_at (number_of r.reason) r.place) c.of.ensures ∙ ap stack_number (illegal_told a.layout a.hardblank a.upper_height a.upper_width a.upper.now a.lower_height a.lower_width a.lower.now (length a.out.now) is); area = wiped _ (length a.out.now) (length a.out.now) c.zero_from.ensures refl ∙ illegal_area a.layout a.hardblank a.upper_height a.upper_width a.upper.now a.lower_height a.lower_width a.lower.now (length a.out.now) is }

pub stack_number-requires : goal.stack_number-requires
stack_number-requires c = let s = c.stack in stack_fits _ _ _ _ _ _ _ _ _ s.result s.ensures.answer

pub returns : goal.returns
returns c =
    let a = c.args in
    let e = c.stack.ensures in
    let is = c.if-layout-gt-MAX_FULL_LAYOUT.false in
    let layout = c.from_full.ensures in record { answer = c.stack_number.ensures ∙ ap stack_number (e.answer ∙ legal-told a.layout a.hardblank a.upper_height a.upper_width a.upper.now a.lower_height a.lower_width a.lower.now (length a.out.now) is _ layout); area = e.area ∙ legal-area a.layout a.hardblank a.upper_height a.upper_width a.upper.now a.lower_height a.lower_width a.lower.now (length a.out.now) is _ layout }
