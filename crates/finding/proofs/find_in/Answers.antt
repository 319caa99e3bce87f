-- `finding::find_in` meets its contract: one entry after another is seen.
use mathlib.Core.Path.{◌≡◌, sym, ap, ◌∙◌}
use Prim.Native.Nat.{min}
use native.Mathlib.Numerals.{add-one}
use native.Mathlib.Omega.{arith}
use lib.ListN.{take, get_or, length}
use Rattle.reader.specs.Reader.{looked_up}
use Rattle.finding.specs.Steps.{better}
use Rattle.finding.specs.Finding.{entry_tells}
use Rattle.finding.proofs.FindLaws.{no_entry, looked_none, looked_next, find_told_lem}
use Rattle.finding.proofs.find_in.Goals as goal

pub loop-i-init : goal.loop-i-init
loop-i-init c = sym (looked_none c.args.code)

pub loop-i-preserved : goal.loop-i-preserved
loop-i-preserved c =
    rw add-one (
    c.better-seen.ensures ∙ ap (λ u. better c.args.code u (get_or c.args.index.now c.loop-i.i no_entry)) c.loop-i.invariant ∙
    looked_next c.args.index.now c.loop-i.i (omega arith) c.args.code)

pub returns : goal.returns
returns c =
    let all_seen : c.loop-i.i ≡ min c.args.count (length c.args.index.now) = omega (arith, c.loop-i-test.false, c.min-i-end.ensures) in
    record {
      answer = ap entry_tells (c.loop-i.invariant ∙ ap (λ i. looked_up c.args.code (take i c.args.index.now)) all_seen) ∙
          find_told_lem c.args.code c.args.index.now c.args.count;
    }
