-- What an answer tells is all of it: two answers of a call that tell the same are the same.
-- Assumes nothing.
use mathlib.Core.Path.{◌≡◌, ap}
use mathlib.Core.Bool.{true≢false, false≢true}
use Rattle.std.specs.Prelude.{Result, Ok, Err}
use Rattle.ground.specs.declared.refusals.Refusal.{Refusal}
use Rattle.reader.specs.declared.LookedUp.{LookedUp}
use Rattle.finding.proofs.ToldApart.{entry_apart}
use Rattle.finding.proofs.ReasonLaws.{same_refusal}
use Rattle.request.specs.declared.RowPlace.{RowPlace}
use Rattle.fontcalls.specs.LookUpCall.{LookUpTold, look_up_tells}
use Rattle.fontcalls.specs.RowCall.{RowTold, row_tells}

pub row_apart : (r s : Result RowPlace Refusal) → row_tells r ≡ row_tells s → r ≡ s
row_apart (Ok a) (Ok b) e = ap (λ (t : RowTold). Ok (record { place = t.start; width = t.width })) e
row_apart (Ok a) (Err r) e = absurd (false≢true (ap (λ (t : RowTold). t.refused) e))
row_apart (Err q) (Ok b) e = absurd (true≢false (ap (λ (t : RowTold). t.refused) e))
row_apart (Err q) (Err r) e = ap Err (same_refusal q r (ap (λ (t : RowTold). t.number) e) (ap (λ (t : RowTold). t.place) e))

pub look_up_apart : (r s : Result LookedUp Refusal) → look_up_tells r ≡ look_up_tells s → r ≡ s
look_up_apart (Ok u) (Ok v) e = ap Ok (entry_apart u v (ap (λ (t : LookUpTold). t.entry) e))
look_up_apart (Ok u) (Err r) e = absurd (false≢true (ap (λ (t : LookUpTold). t.refused) e))
look_up_apart (Err q) (Ok v) e = absurd (true≢false (ap (λ (t : LookUpTold). t.refused) e))
look_up_apart (Err q) (Err r) e = ap Err (same_refusal q r (ap (λ (t : LookUpTold). t.number) e) (ap (λ (t : LookUpTold). t.place) e))
