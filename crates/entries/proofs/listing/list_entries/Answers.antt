use mathlib.Core.Path.{◌≡◌, ap, ◌∙◌}
use native.Mathlib.Omega.{arith}
use lib.IntN.{ℤ, pos}
use lib.ListN.{length, get_or, replicate}
use mir.Syntax.{w32}
use mir.Val.{to_z, of_z}
use borrow.Author.Rules.{rules}
use Rattle.chars.specs.Codes.{code}
use Rattle.chars.specs.Chars.{entry}
use Rattle.entries.specs.Steps.{array_length}
use Rattle.entries.specs.Filling.{zero_entry}
use Rattle.entries.proofs.Moved.{moved}
use Rattle.entries.proofs.FillLaws.{listed_next, listed-all}
use Rattle.entries.proofs.listing.list_entries.Goals as goal

pub loop-i-preserved : goal.loop-i-preserved
loop-i-preserved c =
    let a = c.args in
    let i = c.loop-i.i in
    let x = get_or a.codes.now i (pos 0) in
    let z : to_z w32 (of_z w32 x) ≡ x = search rules in (
      omega arith,
      search rules,
      λ es e l.
          listed_next es _ _ _ l _ (replicate array_length zero_entry) i _ (omega arith) (omega (arith, l.few)) (ap (λ (y : ℤ). entry (code y) (get_or a.starts.now i 0) (get_or a.widths.now i 0)) z) (c.loop-i.invariant.2 es e l),
    )

pub returns : goal.returns
returns c = λ es e l.
    let i = c.loop-i.i in
    let m : i ≡ length es = omega arith in
    listed-all es _ _ _ l _ array_length (omega (arith, l.few)) (c.loop-i.invariant.2 es e l ∙ ap (moved es (replicate array_length zero_entry)) m)
