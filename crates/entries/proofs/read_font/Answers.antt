use mathlib.Core.Path.{◌≡◌, refl, sym, ap, ◌∙◌}
use mathlib.Core.List.{List}
use Prim.Native.Nat.{◌<◌}
use native.Mathlib.Numerals.{add-one}
use native.Mathlib.Omega.{arith}
use lib.ListN.{length, get_or, set}
use Rattle.chars.specs.declared.Entry.{Entry}
use Rattle.entries.specs.declared.listing.Listed.{Listed}
use Rattle.entries.specs.Steps.{array_length}
use Rattle.entries.specs.Filling.{font_reading, zero_entry, index_of}
use Rattle.entries.proofs.FillLaws.{index_at, index_room}
use Rattle.entries.proofs.Moved.{moved, moved_next, moved_all}
use Rattle.entries.proofs.read_font.Invariants.{filled}
use Rattle.entries.proofs.read_font.Goals as goal

pub loop-i-init : goal.loop-i-init
loop-i-init c = record { within = omega arith; moved_so_far = refl }

pub loop-i-preserved : goal.loop-i-preserved
loop-i-preserved c =
    let i = c.loop-i.i in
    let font = c.args.font.now in
    let ys = c.args.index.now in
    let n = length ys in
    let zs = filled font n in
    let small : i < n = omega arith in
    let in_zs : i < length zs = omega (arith, index_room font n) in
    let entry : get_or c.list_font-listed.result.entries c.min.result zero_entry ≡ get_or zs i zero_entry =
    ap (λ (l : Listed). get_or l.entries c.min.result zero_entry) c.list_font-listed.ensures ∙
    ap (λ k. get_or (index_of (font_reading n font) array_length) k zero_entry) c.min.ensures ∙ index_at font n i in
    record {
      within = omega arith;
      moved_so_far = ap (λ (xs : List Entry). set xs i (get_or c.list_font-listed.result.entries c.min.result zero_entry)) c.loop-i.invariant.moved_so_far ∙
          ap (set (moved zs ys i) i) entry ∙ moved_next zero_entry zs ys i in_zs small ∙ ap (moved zs ys) (sym (add-one i));
    }

pub returns-clause-index : goal.returns-clause-index
returns-clause-index c =
    let font = c.args.font.now in
    let ys = c.args.index.now in
    let all_moved : c.loop-i.i ≡ length ys = omega arith in
    c.loop-i.invariant.moved_so_far ∙ ap (moved (filled font (length ys)) ys) all_moved ∙ moved_all zero_entry (filled font (length ys)) ys (index_room font (length ys))
