-- `capi::wattleslate_join` meets its contract, for every input.
use mathlib.Core.Path.{refl, sym, ap, ◌∙◌}
use lib.ListN.{length}
use Rattle.ground.proofs.Areas.{wiped}
use Rattle.ground.specs.Refusals.{number_of}
use Rattle.ground.specs.declared.refusals.Refusal.{Refusal}
use Rattle.answers.specs.Numbers.{refused_at, join_number}
use Rattle.capi.proofs.Bounds.{join_fits}
use Rattle.capi.proofs.JoinLaws.{illegal_told, illegal_area, legal-told, legal-area}
use Rattle.capi.proofs.wattleslate_join.Goals as goal

pub returns-then-not-legal_mode : goal.returns-then-not-legal_mode
returns-then-not-legal_mode c =
    let a = c.args in
    let is = sym c.legal_mode.ensures ∙ c.if-not-legal_mode.true in
    record { answer = c.refusal_number.ensures ∙ ap (λ (r : Refusal). refused_at (number_of r.reason) r.place) c.of.ensures ∙ ap join_number (illegal_told a.layout a.direction a.hardblank a.height a.line_width a.line.now a.character_width a.character.now (length a.out.now) is); area = wiped _ (length a.out.now) (length a.out.now) c.zero_from.ensures refl ∙ illegal_area a.layout a.direction a.hardblank a.height a.line_width a.line.now a.character_width a.character.now (length a.out.now) is }

pub join_number-requires : goal.join_number-requires
join_number-requires c = let j = c.join in join_fits _ _ _ _ _ _ _ j.result j.ensures.answer

pub returns : goal.returns
returns c =
    let a = c.args in
    let e = c.join.ensures in
    let is = sym c.legal_mode.ensures ∙ c.if-not-legal_mode.false in
    let layout = c.from_full.ensures in
    let direction = c.from_print.ensures in record { answer = c.join_number.ensures ∙ ap join_number (e.answer ∙ legal-told a.layout a.direction a.hardblank a.height a.line_width a.line.now a.character_width a.character.now (length a.out.now) is _ _ layout direction); area = e.area ∙ legal-area a.layout a.direction a.hardblank a.height a.line_width a.line.now a.character_width a.character.now (length a.out.now) is _ _ layout direction }
