-- Two fonts that were read: the lists hold them, or one of them is refused or they differ.
-- Assumes nothing.
use Rattle.std.specs.Prelude.{◌≡◌, true, cond, List, ℕ, ℤ, Result, Ok, Err}
use Rattle.ground.specs.Refusals.{refusal, fonts_differ}
use Rattle.ground.specs.declared.refusals.Refusal.{Refusal}
use Rattle.header.specs.declared.Header.{Header}
use Rattle.reader.specs.declared.FontRead.{FontRead}
use Rattle.fontlists.specs.Held.{TwoHeld}
use Rattle.twofonts.specs.declared.BothRead.{BothRead}
use Rattle.twofonts.specs.declared.BothRead.TheVariants.{Read, Refused}
use Rattle.twofonts.specs.Fonts.{alike, unfit, fonts_of}

-- What both answers come to, in the order of the refusals.
abbrev pub both_of : Result FontRead Refusal → Result FontRead Refusal → BothRead
both_of (Err r) second = Refused r
both_of (Ok a) (Err r) = Refused r
both_of (Ok a) (Ok b) = cond (alike a.header b.header) (Read a.header a.count b.count) (Refused (refusal fonts_differ 0))

-- The lists hold both, of which only the first one's header is told.
pub record Beside (s t : List ℕ) (h : Header) (n m : ℕ) (codes : List ℤ) (starts widths places : List ℕ) : Type 0 where
  pub other : Header
  pub equal : alike h other ≡ true
  pub held : TwoHeld s t h other n m codes starts widths places

abbrev pub BothHeld : List ℕ → List ℕ → BothRead → List ℤ → List ℕ → List ℕ → List ℕ → Type 0
BothHeld s t (Read h n m) codes starts widths places = Beside s t h n m codes starts widths places
BothHeld s t (Refused r) codes starts widths places = fonts_of s t ≡ unfit r
