-- `letters::note` meets its contract.
use native.Mathlib.Omega.{arith}
use Rattle.letters.proofs.HeldLaws.{live_not, note_again, note_new}
use Rattle.letters.proofs.note.Goals as goal

pub returns-then-starts-code-eq0 : goal.returns-then-starts-code-eq0
returns-then-starts-code-eq0 c =
    let a = c.args in
    let p = c.requires in
    note_new a.starts.now a.widths.now a.found.live a.found.code a.at a.found.width (live_not _ c.if-not-found.false) (omega (arith, p.0, c.if-code-ge-SMALL_CODES.false)) (omega (arith, p.1, c.if-code-ge-SMALL_CODES.false)) c.if-starts-code-eq0.true

pub returns-else-starts-code-eq0 : goal.returns-else-starts-code-eq0
returns-else-starts-code-eq0 c = let a = c.args in note_again a.starts.now a.widths.now a.found.live a.found.code a.at a.found.width c.if-starts-code-eq0.false
