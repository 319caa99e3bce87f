-- What a code maps to by a control file: document 01, "Control files".
-- Assumes nothing.
use Rattle.std.specs.Prelude.{ℕ, zero, suc, Bool, cond, ◌&&◌, List, [], ◌∷◌, eqb, ◌+ℤ◌, ◌-ℤ◌}
use Rattle.std.specs.Int.Signed.{le_z}
use Rattle.subchars.specs.declared.Code.{Code}
use Rattle.flc.specs.declared.Command.{Command}

-- A code from the first to the last.
abbrev pub in_range : Code → Code → Code → Bool
in_range first last z = le_z first.0 z.0 && le_z z.0 last.0

unfoldable pub fits : Command → Code → Bool
fits c z = in_range c.first c.last z

-- The code as far from the first new code as the old one from the first.
unfoldable pub moved : Code → Code → Code → Code
moved first firstNew z = record { 0 = firstNew.0 +ℤ (z.0 -ℤ first.0) }

abbrev pub new_code : Command → Code → Code
new_code c z = moved c.first c.first_new z

-- "The first command that fits acts, once."
unfoldable pub through_stage : List Command → Code → Code
through_stage [] z = z
through_stage (c ∷ cs) z = cond (fits c z) (new_code c z) (through_stage cs z)

-- The commands of a stage.
unfoldable pub of_stage : ℕ → List Command → List Command
of_stage k [] = []
of_stage k (c ∷ cs) = cond (eqb c.stage k) (c ∷ of_stage k cs) (of_stage k cs)

-- Stage after stage: n stages from the k-th on.
unfoldable pub map_stages : List Command → ℕ → ℕ → Code → Code
map_stages cs k zero z = z
map_stages cs k (suc n) z = map_stages cs (suc k) n (through_stage (of_stage k cs) z)
