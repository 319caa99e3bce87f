-- `source::packs::show_letter` meets its contract.
use mathlib.Core.Path.{sym, subst}
use native.Mathlib.Omega.{arith}
use Rattle.records.specs.declared.Place.{Place}
use Rattle.std.specs.Prelude.{Option, Some, None}
use Rattle.source.specs.declared.Chosen.TheVariants as chosen
use Rattle.source.specs.Steps.{ChosenAs, PlaceIn, letter_choice}
use Rattle.source.proofs.PackLaws.{letter_chosen}
use Rattle.source.proofs.packs.show_letter.Goals.{In-Some}
use Rattle.source.proofs.packs.show_letter.Goals as goal

-- the record is in the pack
within : (c : In-Some) → PlaceIn c.args.head c.args.pack.now (Some c.in-Some.letter)
within c = subst (PlaceIn c.args.head c.args.pack.now) c.in-Some.is c.requires.place_in

pub returns-in-Some : goal.returns-in-Some
returns-in-Some c =
    let a = c.args in
    let p = within (goal.at.returns-in-Some c).In-Some in
    let at = c.letter_rows.new.rows in
    subst (λ (x : Option Place). ChosenAs a.pack.now at a.head.height (chosen.Character c.in-Some.letter.width a.own) (letter_choice a.head a.pack.now a.own x)) (sym c.in-Some.is)
    (letter_chosen a.head a.pack.now c.in-Some.letter p at (omega (arith, p.1, c.requires.max_height_in_bounds)) (λ r u. omega (arith, c.letter_rows.ensures r u, c.record_head_length.ensures)) a.own)
