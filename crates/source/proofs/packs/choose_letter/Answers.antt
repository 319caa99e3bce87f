-- `source::packs::choose_letter` meets its contract.
use mathlib.Core.Path.{◌≡◌, refl, sym, ap₂, ◌∙◌, subst}
use mathlib.Core.Bool.{Bool, true}
use mathlib.Core.List.{List}
use Prim.Native.Nat.{ℕ}
use native.Mathlib.Omega.{arith}
use borrow.Author.Rules.{rules}
use mir.Syntax.{w32}
use mir.Val.{SFits}
use lib.IntN.{pos}
use Rattle.subchars.specs.declared.Code.{Code}
use Rattle.records.specs.declared.Head.{Head}
use Rattle.records.specs.declared.Place.{Place}
use Rattle.std.specs.Prelude.{Option, Some, None, is_some}
use Rattle.records.specs.Codes.{bits_of, is_code}
use Rattle.records.specs.Versions.{head_length}
use Rattle.records.specs.Places.{place_in}
use Rattle.records.proofs.CodeLaws.{code_fits}
use Rattle.records.proofs.VersionLaws.{head_length_low}
use Rattle.heads.specs.Pack.{head_in}
use Rattle.heads.proofs.FindLaws.{inside}
use Rattle.letters.specs.Held.{or_else_place}
use Rattle.source.specs.Source.{Choice, Source}
use Rattle.source.specs.Held.{PackGives}
use Rattle.source.specs.Steps.{ChosenAs, PlaceIn, letter_choice}
use Rattle.source.proofs.PackLaws.{said, high, letters-held, found_in, own_choice, other_choice}
use Rattle.source.proofs.packs.choose_letter.Goals.{After-head_in-head}
use Rattle.source.proofs.packs.choose_letter.Goals as goal

-- The place y of a code's own letter, at x, or of the one with code 0, at z.
module _ (source : Source) (s : List ℕ) (height : ℕ) (starts widths : List ℕ) (g : PackGives source s height starts widths) (f : Head) (e : f ≡ head_in s) (c : Code) where
  abbrev z : Option Place
  z = place_in f (bits_of (pos 0)) (head_length f.version) g.records

  abbrev Its : Option Place → Type 0
  Its x = x ≡ place_in f (bits_of c.0) (head_length f.version) g.records

  place_in_lem : (x y : Option Place) → Its x → y ≡ or_else_place x z → PlaceIn f s y
  place_in_lem x y q p = subst (PlaceIn f s) (sym p) (go x q)
    where
      go : (x : Option Place) → Its x → PlaceIn f s (or_else_place x z)
      go (Some a) q = found_in source s height starts widths g f e (bits_of c.0) (Some a) q
      go None q = found_in source s height starts widths g f e (bits_of (pos 0)) z refl

  choice : is_code c.0 ≡ true → (x y : Option Place) → Its x → y ≡ or_else_place x z → (own : Bool) → own ≡ is_some x → letter_choice f s own y ≡ source c
  choice i x y q p own o = ap₂ (letter_choice f s) o p ∙ go x q
    where
      go : (x : Option Place) → Its x → letter_choice f s (is_some x) (or_else_place x z) ≡ source c
      go (Some a) q = own_choice source s height starts widths g f e c i (Some a) q refl
      go None q = other_choice source s height starts widths g f e c i None q z refl refl

-- what comes as a code is one
code_is : (c : After-head_in-head) → is_code c.args.code.0 ≡ true
code_is c =
    let z : SFits w32 c.args.code.0 = search rules in
    code_fits c.args.code.0 z

pub head_in-head-requires : goal.head_in-head-requires
head_in-head-requires c =
    let g = c.requires.pack_gives.1 in
    omega (arith, inside _ g.head g.records g.said, head_length_low g.head.version)

pub find_letter-its-requires : goal.find_letter-its-requires
find_letter-its-requires c = letters-held _ _ _ _ _ c.requires.pack_gives.1 _ c.head_in-head.ensures

pub own_or_zeroth-place-requires : goal.own_or_zeroth-place-requires
own_or_zeroth-place-requires c = letters-held _ _ _ _ _ c.requires.pack_gives.1 _ c.head_in-head.ensures

pub show_letter-requires : goal.show_letter-requires
show_letter-requires c =
    let g = c.requires.pack_gives.1 in
    let f = c.head_in-head in
    let m = said _ _ _ _ _ g f.result f.ensures in
    record { place_in = place_in_lem _ _ _ _ _ g f.result f.ensures c.args.code c.find_letter-its.result c.own_or_zeroth-place.result (c.find_letter-its.ensures g.records m) (c.own_or_zeroth-place.ensures g.records m); max_height_in_bounds = c.requires.max_height_in_bounds }

pub returns : goal.returns
returns c =
    let a = c.args in
    λ source g.
    let f = c.head_in-head in
    let l = c.find_letter-its in
    let o = c.own_or_zeroth-place in
    let p = c.is_some in
    let shown = c.show_letter in
    let m = said source _ _ _ _ g f.result f.ensures in
    subst (λ (x : Choice). ChosenAs a.pack.now shown.new.found a.height shown.result x)
    (choice source _ _ _ _ g f.result f.ensures a.code (code_is (goal.at.returns c).After-head_in-head) l.result o.result (l.ensures g.records m) (o.ensures g.records m) p.result p.ensures)
    (subst (λ (h : ℕ). ChosenAs a.pack.now shown.new.found h shown.result (letter_choice f.result a.pack.now p.result o.result)) (sym (high source _ _ _ _ g f.result f.ensures)) shown.ensures)
