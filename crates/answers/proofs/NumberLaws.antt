-- No part of an answer that fits in its bits is lost.
-- Assumes nothing.
use mathlib.Core.Path.{◌≡◌}
use Prim.Native.Nat.{ℕ, ◌*◌, ◌/◌, ◌%◌, ◌≤◌}
use native.Mathlib.Omega.{arith}
use Rattle.answers.specs.Numbers.{value_bound, place_bound, refused_at, three_values}
use Rattle.answers.specs.Fits.{RefusalFits, ValuesFit}

-- A caller that takes an answer apart finds what was put in: a refusal's number, which is not 0, and its place;
pub refusal_apart : (number place : ℕ) → RefusalFits number place → (refused_at number place / place_bound ≡ number) × (1 ≤ number) × (refused_at number place % place_bound ≡ place)
refusal_apart number place p = (omega (arith, p.place_in_48), p.not_0, omega (arith, p.place_in_48))

-- or 0, and the three values.
pub values_apart : (a b c : ℕ) → ValuesFit a b c →
    (three_values a b c / place_bound ≡ 0) × (three_values a b c / (value_bound * value_bound) ≡ a) × (three_values a b c / value_bound % value_bound ≡ b) × (three_values a b c % value_bound ≡ c)
values_apart a b c p = (omega arith, omega arith, omega arith, omega arith)
