-- Two fonts, the second behind the first: document 02, Q-7. "Let a row request and a drawing take two fonts of equal Height and hardblank."
-- Assumes nothing.
use Rattle.std.specs.Prelude.{Bool, cond, ◌&&◌, List, ℕ, eqb}
use Rattle.ground.specs.Refusals.{refusal, fonts_differ}
use Rattle.ground.specs.declared.refusals.Refusal.{Refusal}
use Rattle.header.specs.declared.Header.{Header}
use Rattle.chars.specs.declared.Entry.{Entry}
use Rattle.font.specs.Font.{FontReading, says, refuses, reading}

-- The first font's header, and the characters of the first and of the second; or the refusal.
pub data Fonts : Type 0 where
  fonts : Header → List Entry → List Entry → Fonts
  unfit : Refusal → Fonts

-- "Of equal Height and hardblank."
abbrev pub alike : Header → Header → Bool
alike h k = eqb h.height k.height && eqb h.hardblank.0 k.hardblank.0

-- "The first font's, the second's, then 24, heights or hardblanks differ."
abbrev pub fonts_by : FontReading → FontReading → Fonts
fonts_by (refuses r) second = unfit r
fonts_by (says h es) (refuses r) = unfit r
fonts_by (says h es) (says k fs) = cond (alike h k) (fonts h es fs) (unfit (refusal fonts_differ 0))

-- The bytes of the first font are s, those of the second t.
unfoldable pub fonts_of : List ℕ → List ℕ → Fonts
fonts_of s t = fonts_by (reading s) (reading t)
