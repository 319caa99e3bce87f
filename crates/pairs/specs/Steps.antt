-- The pair decision as it is computed: the rule that joins a pair, and then whether the set has it.
-- Assumes nothing.
use Rattle.std.specs.Prelude.{ℕ, true, cond}
use Rattle.rules.specs.Rules.{rules}
use Rattle.pairs.specs.declared.Joint.{Joint}
use Rattle.pairs.specs.declared.Joint.TheVariants.{ByBlank, ByUniversal, ByRule, Unjoinable}
use Rattle.pairs.specs.Pair.{first_rule, in_set}

-- The rule that joins a pair without a blank, whatever the set.
unfoldable pub its_rule : ℕ → ℕ → ℕ → Joint
its_rule h l r = first_rule (λ rule. true) rules h l r

-- A joint by a rule of the set; of any other pair, none.
unfoldable pub kept_by_set : ℕ → Joint → Joint
kept_by_set set (ByBlank x) = Unjoinable
kept_by_set set (ByUniversal x) = Unjoinable
kept_by_set set (ByRule rule x) = cond (in_set set rule) (ByRule rule x) Unjoinable
kept_by_set set Unjoinable = Unjoinable
