-- `reader::entry_at` meets its contract.
use mathlib.Core.Path.{◌≡◌, sym, ap, ◌∙◌, subst}
use Prim.Native.Nat.{ℕ, ◌<◌}
use native.Mathlib.Omega.{arith}
use mir.Syntax.{w32}
use mir.Val.{to_z, of_z}
use lib.IntN.{ℤ, pos}
use lib.ListN.{get_or}
use borrow.Author.Rules.{rules}
use Rattle.std.specs.Prelude.{Option, Some}
use Rattle.chars.specs.Chars.{entry}
use Rattle.chars.specs.Codes.{code}
use Rattle.reader.specs.Reader.{FoundBelow, at_found}
use Rattle.reader.proofs.UseLaws.{parts_at}
use Rattle.reader.proofs.entry_at.Goals.{In_ok-k}
use Rattle.reader.proofs.entry_at.Goals as goal

inside : (c : In_ok-k) → c.in_ok-k.k < c.args.count
inside c = subst (FoundBelow c.args.count) c.in_ok-k.was c.requires.found_below

pub returns : goal.returns
returns c =
    let a = c.args in
    let k = c.in_ok-k.k in
    let x = get_or a.codes.now k (pos 0) in
    let e : to_z w32 (of_z w32 x) ≡ x = search rules in
    λ es m l.
    ap (λ (y : ℤ). Some (entry (code y) (get_or a.starts.now k 0) (get_or a.widths.now k 0))) e ∙
    parts_at a.codes.now a.starts.now a.widths.now es l k (omega (arith, inside (goal.at.returns c).In_ok-k, m)) ∙
    sym (ap (λ (f : Option ℕ). at_found f es) c.in_ok-k.was)
