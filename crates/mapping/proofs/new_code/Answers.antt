-- `mapping::new_code` meets its contract: difference and sum are taken in 64 bits, where they fit.
use mathlib.Core.Path.{◌≡◌, sym, ap, ◌∙◌, subst}
use native.Mathlib.Omega.{arith}
use mir.Syntax.{w32, w64}
use mir.Val.{SFits, to_z, of_z}
use mir.ValLaws.{to_z-of_z}
use lib.IntN.{ℤ, ◌+ℤ◌, ◌-ℤ◌}
use borrow.Author.Rules.{rules}
use Rattle.commands.proofs.DistanceLaws.{wide, wide_is, difference_mag, sum_mag, difference_is, difference_fits}
use Rattle.mapping.specs.Mapping.{moved}
use Rattle.mapping.proofs.new_code.Goals as goal

module _ (a b z : ℤ) (f : SFits w32 a) (g : SFits w32 b) (h : SFits w32 z) where
  -- what the machine holds of the difference
  abbrev held : ℤ
  held = to_z w64 (of_z w64 (wide z -ℤ wide a))

  held-is : held ≡ z -ℤ a
  held-is = to_z-of_z w64 (wide z -ℤ wide a) (subst (SFits w64) (sym (difference_is a z f h)) (difference_fits a z f h)) ∙ difference_is a z f h

  sum_is : wide b +ℤ held ≡ b +ℤ (z -ℤ a)
  sum_is = ap (λ (x : ℤ). x +ℤ held) (wide_is b g) ∙ ap (λ (x : ℤ). b +ℤ x) held-is

  sum_fits : SFits w64 (wide b +ℤ held)
  sum_fits = subst (SFits w64) (sym sum_is) (record { sfits = omega (arith, sum_mag b (z -ℤ a), difference_mag z a, f.sfits, g.sfits, h.sfits) })

  whole : to_z w64 (of_z w64 (wide b +ℤ held)) ≡ b +ℤ (z -ℤ a)
  whole = to_z-of_z w64 (wide b +ℤ held) sum_fits ∙ sum_is

  narrow : SFits w32 (b +ℤ (z -ℤ a)) → SFits w32 (to_z w64 (of_z w64 (wide b +ℤ held)))
  narrow k = subst (SFits w32) (sym whole) k

  result : SFits w32 (b +ℤ (z -ℤ a)) → to_z w32 (of_z w32 (to_z w64 (of_z w64 (wide b +ℤ held)))) ≡ b +ℤ (z -ℤ a)
  result k = to_z-of_z w32 (to_z w64 (of_z w64 (wide b +ℤ held))) (narrow k) ∙ whole

pub overflow_cast-result-4 : goal.overflow_cast-result-4
unfolding moved
overflow_cast-result-4 c =
    let f : SFits w32 c.args.first.0 = search rules in
    let g : SFits w32 c.args.first_new.0 = search rules in
    let h : SFits w32 c.args.code.0 = search rules in
    narrow c.args.first.0 c.args.first_new.0 c.args.code.0 f g h c.requires

pub returns : goal.returns
unfolding moved
returns c =
    let f : SFits w32 c.args.first.0 = search rules in
    let g : SFits w32 c.args.first_new.0 = search rules in
    let h : SFits w32 c.args.code.0 = search rules in
    ap (λ (x : ℤ). record { 0 = x }) (result c.args.first.0 c.args.first_new.0 c.args.code.0 f g h c.requires)
