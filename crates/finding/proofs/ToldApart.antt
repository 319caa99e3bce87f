-- What an answer tells is all of it: two answers of a call that tell the same are the same.
-- Assumes nothing.
use mathlib.Core.Path.{◌≡◌, refl, ap}
use mathlib.Core.Bool.{true≢false, false≢true}
use Rattle.chars.specs.declared.Entry.{Entry}
use Rattle.reader.specs.declared.LookedUp.{LookedUp}
use Rattle.reader.specs.declared.LookedUp.TheVariants.{Found, StoodIn, Nothing}
use Rattle.finding.specs.Finding.{EntryTold, entry_tells}

-- an entry by what is told of it
abbrev entry_of : EntryTold → Entry
entry_of t = record { code = record { 0 = t.code }; start = t.start; width = t.width }

pub entry_apart : (r s : LookedUp) → entry_tells r ≡ entry_tells s → r ≡ s
entry_apart (Found d) (Found f) e = ap (λ (t : EntryTold). Found (entry_of t)) e
entry_apart (Found d) (StoodIn f) e = absurd (true≢false (ap (λ (t : EntryTold). t.found) e))
entry_apart (Found d) Nothing e = absurd (true≢false (ap (λ (t : EntryTold). t.found) e))
entry_apart (StoodIn d) (Found f) e = absurd (false≢true (ap (λ (t : EntryTold). t.found) e))
entry_apart (StoodIn d) (StoodIn f) e = ap (λ (t : EntryTold). StoodIn (entry_of t)) e
entry_apart (StoodIn d) Nothing e = absurd (true≢false (ap (λ (t : EntryTold). t.stood_in) e))
entry_apart Nothing (Found d) e = absurd (false≢true (ap (λ (t : EntryTold). t.found) e))
entry_apart Nothing (StoodIn d) e = absurd (false≢true (ap (λ (t : EntryTold). t.stood_in) e))
entry_apart Nothing Nothing e = refl
