-- `join::joining::join_to_line` meets its contract, for every input.
use mathlib.Core.Bool.{true}
use mathlib.Core.Path.{◌≡◌, sym, ◌∙◌}
use lib.ListN.{length}
use Rattle.subchars.specs.declared.Direction.TheVariants.{LeftToRight, RightToLeft}
use Rattle.join.specs.Shape.{good_shape, Sized}
use Rattle.join.proofs.GoodShape.{sizes}
use Rattle.join.proofs.JoinCases.{bad, good}
use Rattle.join.proofs.joining.join_to_line.Goals.{Else-not-good_shape}
use Rattle.join.proofs.joining.join_to_line.Goals as goal

abbrev Good : Type 0
Good = Else-not-good_shape

is_good : (g : Good) → let a = g.args in good_shape a.mode a.h a.line_width (length a.line.now) a.character_width (length a.character.now) ≡ true
is_good g = sym g.good_shape.ensures ∙ g.if-not-good_shape.false

sized : (g : Good) → let a = g.args in Sized a.h a.line_width a.line.now × Sized a.h a.character_width a.character.now
sized g = let a = g.args in sizes a.mode a.h a.line_width a.line.now a.character_width a.character.now (is_good g)

pub returns-then-not-good_shape : goal.returns-then-not-good_shape
returns-then-not-good_shape c =
    let a = c.args in
    bad a.mode a.h a.line_width a.line.now a.character_width a.character.now (length a.out.now) _ _
    (sym c.good_shape.ensures ∙ c.if-not-good_shape.true) c.refuse.ensures

pub join_blocks-requires : goal.join_blocks-requires
join_blocks-requires c =
    let s = sized (goal.at.join_blocks-requires c).Else-not-good_shape in record { sized = s.0; sized_2 = s.1 }

pub join_blocks-requires-in-RightToLeft : goal.join_blocks-requires-in-RightToLeft
join_blocks-requires-in-RightToLeft c =
    let s = sized (goal.at.join_blocks-requires-in-RightToLeft c).Else-not-good_shape in record { sized = s.1; sized_2 = s.0 }

pub returns-in-LeftToRight : goal.returns-in-LeftToRight
returns-in-LeftToRight c =
    let a = c.args in
    good a.mode a.h a.line_width a.line.now a.character_width a.character.now (length a.out.now) _ _
    (is_good (goal.at.returns-in-LeftToRight c).Else-not-good_shape) LeftToRight c.in-LeftToRight.is c.join_blocks.ensures

pub returns-in-RightToLeft : goal.returns-in-RightToLeft
returns-in-RightToLeft c =
    let a = c.args in
    good a.mode a.h a.line_width a.line.now a.character_width a.character.now (length a.out.now) _ _
    (is_good (goal.at.returns-in-RightToLeft c).Else-not-good_shape) RightToLeft c.in-RightToLeft.is c.join_blocks-in-RightToLeft.ensures
