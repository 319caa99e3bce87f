-- How many letters of a text were replaced: document 02, Q-2. "Drawing then returns how many text bytes are in the second and in the third group, by the
-- definition of look-up."
-- Assumes nothing.
use Rattle.std.specs.Prelude.{◌≡◌, ℕ, ◌+◌, Bool, true, false, cond, List, [], ◌∷◌}
use Rattle.subchars.specs.declared.Code.{Code}
use Rattle.source.specs.declared.Counts.{Counts}
use Rattle.source.specs.Source.{Choice, found, stood_in, nothing, Source}

-- The second group, "stood in by code 0", and the third, "nothing".
abbrev pub is_stood_in : Choice → Bool
is_stood_in (found character) = false
is_stood_in (stood_in character) = true
is_stood_in nothing = false

abbrev pub is_nothing : Choice → Bool
is_nothing (found character) = false
is_nothing (stood_in character) = false
is_nothing nothing = true

-- Either of them: the code itself is not there.
abbrev pub is_missing : Choice → Bool
is_missing (found character) = false
is_missing (stood_in character) = true
is_missing nothing = true

-- How many codes of a text are in a group: each counts as often as it stands there.
abbrev pub one : Bool → ℕ
one b = cond b 1 0

unfoldable pub how_many : (Choice → Bool) → Source → List Code → ℕ
how_many group source [] = 0
how_many group source (c ∷ cs) = one (group (source c)) + how_many group source cs

unfoldable pub counts_of : Source → List Code → Counts
counts_of source codes = record { stood_in = how_many is_stood_in source codes; nothing_drawn = how_many is_nothing source codes }

-- A refusal tells 0 and 0.
abbrev pub no_counts : Counts
no_counts = record { stood_in = 0; nothing_drawn = 0 }

-- The counts with one code more.
abbrev pub counted : Choice → Counts → Counts
counted x n = record { stood_in = n.stood_in + one (is_stood_in x); nothing_drawn = n.nothing_drawn + one (is_nothing x) }

-- Whether a source stands in for all codes that it lacks, or for none of them.
abbrev pub StandsIn : Bool → Source → Type 0
StandsIn true source = (text : List Code) → how_many is_nothing source text ≡ 0
StandsIn false source = (text : List Code) → how_many is_stood_in source text ≡ 0
