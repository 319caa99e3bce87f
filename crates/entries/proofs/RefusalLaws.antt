-- Reading a font into an index answers 9 exactly when the index has under 512 entries, and otherwise what the font says.
-- Assumes nothing.
use mathlib.Core.Path.{◌≡◌, ap}
use mathlib.Core.List.{List}
use mathlib.Core.Logic.{◌↔◌}
use Prim.Native.Nat.{ℕ, ◌≤◌, ◌<◌}
use native.Mathlib.Omega.{arith}
use Rattle.ground.specs.Refusals.{refusal, number_of, too_many_characters, area_too_small}
use Rattle.ground.specs.declared.refusals.Refusal.{Refusal}
use Rattle.ground.specs.Limits.{max_characters}
use Rattle.ground.proofs.Lent.{lent_9, lent_other}
use Rattle.font.specs.Font.{refuses, reading}
use Rattle.font.proofs.ReadingLaws.{font_refusal}
use Rattle.entries.specs.Filling.{font_reading}

module _ (s : List ℕ) (room : ℕ) where
  -- 9, "index under 512 entries", exactly then
  pub refused_9 : (p : ℕ) → font_reading room s ≡ refuses (refusal area_too_small p) ↔ ((p ≡ 0) × (room < max_characters))
  unfolding font_reading
  refused_9 = lent_9 refuses (λ q r e. cc) room max_characters (reading s) (λ r e n. omega (arith, (font_refusal s r e).1, ap number_of n))

  -- any other refusal, exactly where there is room and the font has it
  pub refused_font : (r : Refusal) → number_of r.reason ≤ number_of too_many_characters → font_reading room s ≡ refuses r ↔ ((max_characters ≤ room) × (reading s ≡ refuses r))
  unfolding font_reading
  refused_font r n = lent_other refuses (λ q r e. cc) room max_characters (reading s) r (λ m. omega (arith, n, ap number_of m))
