-- `heads::read_head` meets its contract.
use mathlib.Core.Path.{sym, ap, ◌∙◌, subst}
use Prim.Native.Nat.{◌≤◌, ◌<◌}
use native.Mathlib.Omega.{arith}
use lib.ListN.{length}
use Rattle.records.specs.declared.Head.{Head}
use Rattle.records.specs.Versions.{head_length}
use Rattle.std.specs.Prelude.{Some}
use Rattle.heads.specs.Pack.{legal_head}
use Rattle.heads.proofs.HeadLaws.{head-long, head_short, head_mark, head-head, head-cut, head_good}
use Rattle.heads.proofs.read_head.Goals as goal

pub returns-then-s-gt-MAX_PACK_LENGTH : goal.returns-then-s-gt-MAX_PACK_LENGTH
returns-then-s-gt-MAX_PACK_LENGTH c = head-long c.args.s.now (omega (arith, c.if-s-gt-MAX_PACK_LENGTH.true))

pub returns-then-s-lt-MIN_PACK_LENGTH : goal.returns-then-s-lt-MIN_PACK_LENGTH
returns-then-s-lt-MIN_PACK_LENGTH c = head_short c.args.s.now (omega (arith, c.if-s-gt-MAX_PACK_LENGTH.false)) (omega (arith, c.if-s-lt-MIN_PACK_LENGTH.true))

pub returns-then-head_length-s : goal.returns-then-head_length-s
returns-then-head_length-s c =
    let s = c.args.s.now in
    let h : head_length c.head_of-head.result.version ≤ length s = omega (arith, c.head_length.ensures, c.if-head_length-s.true) in
    ap Some c.head_of-head.ensures ∙ head_good s (omega (arith, c.if-s-gt-MAX_PACK_LENGTH.false)) (omega (arith, c.if-s-lt-MIN_PACK_LENGTH.false)) (sym c.has_mark.ensures ∙ c.if-has_mark.true) (sym (ap legal_head c.head_of-head.ensures) ∙ (sym c.is_legal_head.ensures ∙ c.if-is_legal_head.true)) (subst (λ (f : Head). head_length f.version ≤ length s) c.head_of-head.ensures h)

pub returns-else-head_length-s : goal.returns-else-head_length-s
returns-else-head_length-s c =
    let s = c.args.s.now in
    let h : length s < head_length c.head_of-head.result.version = omega (arith, c.head_length.ensures, c.if-head_length-s.false) in
    head-cut s (omega (arith, c.if-s-gt-MAX_PACK_LENGTH.false)) (omega (arith, c.if-s-lt-MIN_PACK_LENGTH.false)) (sym c.has_mark.ensures ∙ c.if-has_mark.true) (sym (ap legal_head c.head_of-head.ensures) ∙ (sym c.is_legal_head.ensures ∙ c.if-is_legal_head.true)) (subst (λ (f : Head). length s < head_length f.version) c.head_of-head.ensures h)

pub returns-else-is_legal_head : goal.returns-else-is_legal_head
returns-else-is_legal_head c = head-head c.args.s.now (omega (arith, c.if-s-gt-MAX_PACK_LENGTH.false)) (omega (arith, c.if-s-lt-MIN_PACK_LENGTH.false)) (sym c.has_mark.ensures ∙ c.if-has_mark.true) (sym (ap legal_head c.head_of-head.ensures) ∙ (sym c.is_legal_head.ensures ∙ c.if-is_legal_head.false))

pub returns-else-has_mark : goal.returns-else-has_mark
returns-else-has_mark c = head_mark c.args.s.now (omega (arith, c.if-s-gt-MAX_PACK_LENGTH.false)) (omega (arith, c.if-s-lt-MIN_PACK_LENGTH.false)) (sym c.has_mark.ensures ∙ c.if-has_mark.false)
