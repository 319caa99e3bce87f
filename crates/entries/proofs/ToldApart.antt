-- What an answer tells is all of it: two answers of a call that tell the same are the same.
-- Assumes nothing.
use mathlib.Core.Path.{◌≡◌, ap, ap₂}
use mathlib.Core.Bool.{true≢false, false≢true}
use Prim.Native.Nat.{ℕ}
use Rattle.std.specs.Prelude.{Some, Result, Ok, Err}
use Rattle.ground.specs.declared.refusals.Refusal.{Refusal}
use Rattle.header.specs.declared.Header.{Header}
use Rattle.reader.specs.declared.FontRead.{FontRead}
use Rattle.finding.proofs.ReasonLaws.{same_refusal}
use Rattle.entries.specs.Filling.{FontTold, font_tells}

pub font_apart : (r s : Result FontRead Refusal) → font_tells r ≡ font_tells s → r ≡ s
font_apart (Ok a) (Ok b) e =
    let p : Some a.header ≡ Some b.header = ap (λ (t : FontTold). t.header) e in
    ap₂ (λ (h : Header) (n : ℕ). Ok (record { header = h; count = n })) (cc) (ap (λ (t : FontTold). t.count) e)
font_apart (Ok a) (Err r) e = absurd (false≢true (ap (λ (t : FontTold). t.refused) e))
font_apart (Err q) (Ok b) e = absurd (true≢false (ap (λ (t : FontTold). t.refused) e))
font_apart (Err q) (Err r) e = ap Err (same_refusal q r (ap (λ (t : FontTold). t.number) e) (ap (λ (t : FontTold). t.place) e))
