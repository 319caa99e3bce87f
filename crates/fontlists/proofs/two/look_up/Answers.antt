-- `fontlists::two::look_up` meets its contract.
use mathlib.Core.Path.{sym, ap₂, ◌∙◌}
use native.Mathlib.Omega.{arith}
use lib.ListN.{length-drop}
use Rattle.index.specs.Latest.{small_codes}
use Rattle.fontlists.specs.Steps.{either_of}
use Rattle.fontlists.proofs.TwoLaws.{second-held, either_looked_up}
use Rattle.fontlists.proofs.two.look_up.Goals as goal

pub slice_bounds-find_known-count-4 : goal.slice_bounds-find_known-count-4
slice_bounds-find_known-count-4 c = omega (arith, length-drop small_codes c.args.places.now, c.requires.4.second.latest.size)

pub slice_bounds-find_known-start-4 : goal.slice_bounds-find_known-start-4
slice_bounds-find_known-start-4 c = omega (arith, length-drop small_codes c.args.places.now, c.requires.4.second.latest.size)

pub find_known-b-requires : goal.find_known-b-requires
find_known-b-requires c = let h = second-held _ _ _ _ _ _ _ _ _ _ c.requires.4 in record { character_room = h.0; latest = h.2 }

pub returns : goal.returns
returns c = λ s t h k held.
    let code = c.args.code in
    let a = held.first in
    let b = held.second in
    let its = (second-held s t h k _ _ _ _ _ _ held).1 in
    c.either_of.ensures ∙ ap₂ either_of (c.which_used.ensures a.characters (sym (c.find_known-a.ensures a.characters a.count a.lists))) (c.which_used-2.ensures b.characters (sym (c.find_known-b.ensures b.characters b.count its))) ∙ either_looked_up code a.characters b.characters
