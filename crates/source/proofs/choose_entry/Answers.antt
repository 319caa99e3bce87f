-- `source::choose_entry` meets its contract.
use mathlib.Core.Path.{sym, ap, ◌∙◌, subst}
use mathlib.Core.Bool.{Bool}
use native.Mathlib.Omega.{arith}
use Rattle.source.specs.declared.Chosen.TheVariants.{Character}
use Rattle.source.specs.Source.{Choice, character_of}
use Rattle.source.specs.Steps.{ChosenAs, as_own}
use Rattle.source.proofs.CharacterLaws.{shown_as, given-stands, given_choice, given_nothing}
use Rattle.chars.proofs.CodeLaws.{int_same}
use Rattle.source.proofs.choose_entry.Goals as goal

pub find_rows-requires : goal.find_rows-requires
find_rows-requires c =
    let p = c.requires in
    let so = given-stands _ _ _ _ _ _ _ _ p.font_gives.1 c.args.code _ (λ es n l. sym c.in-Some.is ∙ c.find_known.ensures es n l) in
    record { h_nonzero = (so.some, omega (arith, so.few, p.max_height_in_bounds)); standing = so.rows; by_index = so.marked }

pub returns-in-Some : goal.returns-in-Some
returns-in-Some c =
    let a = c.args in
    let own = c.eq-own in
    let rows = c.find_rows in
    λ source g.
    subst (λ (x : Choice). ChosenAs a.font.now rows.new.rows a.height (Character c.in-Some.entry.width own.result) x)
    (ap (λ (b : Bool). as_own b (character_of a.font.now c.in-Some.entry)) (own.ensures ∙ int_same c.in-Some.entry.code.0 a.code.0) ∙ given_choice source _ _ _ _ _ _ _ g a.code _ (λ es n l. sym c.in-Some.is ∙ c.find_known.ensures es n l))
    (shown_as a.font.now c.in-Some.entry a.height (given-stands source _ _ _ _ _ _ _ g a.code _ (λ es n l. sym c.in-Some.is ∙ c.find_known.ensures es n l)) rows.new.rows rows.ensures own.result)

pub returns-in-None : goal.returns-in-None
returns-in-None c = λ source g. given_nothing source _ _ _ _ _ _ _ g c.args.code (λ es n l. sym c.in-None.is ∙ c.find_known.ensures es n l) c.args.found.now
