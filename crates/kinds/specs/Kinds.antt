-- Which rules join a pair, as it is computed: the sum of their numbers, by a table of sixteen by sixteen kinds.
-- Assumes nothing.
use Rattle.std.specs.Prelude.{ℕ, suc, ◌+◌, cond, List, [], ◌∷◌, eqb, get_or}
use Rattle.ground.specs.Text.{byte}
use Rattle.subchars.specs.Hardblank.{blank}
use Rattle.rules.specs.declared.Rule.{Rule}
use Rattle.rules.specs.Rules.{is_some, eleven, by_rule, rule_number, rules}

-- The sum of the numbers of those rules of a list that make something of a pair.
abbrev pub sum_from : List Rule → ℕ → ℕ → ℕ → ℕ
sum_from [] h l r = 0
sum_from (rule ∷ more) h l r = cond (is_some (by_rule rule h l r)) (rule_number rule) 0 + sum_from more h l r

-- The sum of the rules that join a pair without a blank.
unfoldable pub rules_joining : ℕ → ℕ → ℕ → ℕ
rules_joining h l r = sum_from rules h l r

-- The twelve that the rules name: the underscore, and the eleven in the order of their classes.
abbrev pub twelve : List ℕ
twelve = byte "_" ∷ eleven

-- The place of x in a list, counted from k; behind the last where it has none.
abbrev pub place_from : ℕ → List ℕ → ℕ → ℕ
place_from k [] x = k
place_from k (y ∷ ys) x = cond (eqb x y) k (place_from (suc k) ys x)

-- The kind of x, where h is the hardblank: 0 a blank, 1 the hardblank, 2 to 13 one of the twelve, 14 any other. 15 is free.
unfoldable pub kind_of : ℕ → ℕ → ℕ
kind_of h x = cond (eqb x h) 1 (cond (eqb x blank) 0 (place_from 2 twelve x))

-- The table, as the code has it.
abbrev pub pair_rules : List (List ℕ)
pair_rules =
    (0 ∷ 0 ∷ 0 ∷ 0 ∷ 0 ∷ 0 ∷ 0 ∷ 0 ∷ 0 ∷ 0 ∷ 0 ∷ 0 ∷ 0 ∷ 0 ∷ 0 ∷ 0 ∷ []) ∷
    (0 ∷ 32 ∷ 0 ∷ 0 ∷ 0 ∷ 0 ∷ 0 ∷ 0 ∷ 0 ∷ 0 ∷ 0 ∷ 0 ∷ 0 ∷ 0 ∷ 0 ∷ 0 ∷ []) ∷
    (0 ∷ 0 ∷ 1 ∷ 2 ∷ 2 ∷ 2 ∷ 2 ∷ 2 ∷ 2 ∷ 2 ∷ 2 ∷ 2 ∷ 2 ∷ 2 ∷ 0 ∷ 0 ∷ []) ∷
    (0 ∷ 0 ∷ 2 ∷ 1 ∷ 4 ∷ 4 ∷ 4 ∷ 4 ∷ 4 ∷ 4 ∷ 4 ∷ 4 ∷ 4 ∷ 4 ∷ 0 ∷ 0 ∷ []) ∷
    (0 ∷ 0 ∷ 2 ∷ 4 ∷ 1 ∷ 16 ∷ 4 ∷ 4 ∷ 4 ∷ 4 ∷ 4 ∷ 4 ∷ 4 ∷ 4 ∷ 0 ∷ 0 ∷ []) ∷
    (0 ∷ 0 ∷ 2 ∷ 4 ∷ 16 ∷ 1 ∷ 4 ∷ 4 ∷ 4 ∷ 4 ∷ 4 ∷ 4 ∷ 4 ∷ 4 ∷ 0 ∷ 0 ∷ []) ∷
    (0 ∷ 0 ∷ 2 ∷ 4 ∷ 4 ∷ 4 ∷ 1 ∷ 8 ∷ 4 ∷ 4 ∷ 4 ∷ 4 ∷ 4 ∷ 4 ∷ 0 ∷ 0 ∷ []) ∷
    (0 ∷ 0 ∷ 2 ∷ 4 ∷ 4 ∷ 4 ∷ 8 ∷ 1 ∷ 4 ∷ 4 ∷ 4 ∷ 4 ∷ 4 ∷ 4 ∷ 0 ∷ 0 ∷ []) ∷
    (0 ∷ 0 ∷ 2 ∷ 4 ∷ 4 ∷ 4 ∷ 4 ∷ 4 ∷ 1 ∷ 8 ∷ 4 ∷ 4 ∷ 4 ∷ 4 ∷ 0 ∷ 0 ∷ []) ∷
    (0 ∷ 0 ∷ 2 ∷ 4 ∷ 4 ∷ 4 ∷ 4 ∷ 4 ∷ 8 ∷ 1 ∷ 4 ∷ 4 ∷ 4 ∷ 4 ∷ 0 ∷ 0 ∷ []) ∷
    (0 ∷ 0 ∷ 2 ∷ 4 ∷ 4 ∷ 4 ∷ 4 ∷ 4 ∷ 4 ∷ 4 ∷ 1 ∷ 8 ∷ 4 ∷ 4 ∷ 0 ∷ 0 ∷ []) ∷
    (0 ∷ 0 ∷ 2 ∷ 4 ∷ 4 ∷ 4 ∷ 4 ∷ 4 ∷ 4 ∷ 4 ∷ 8 ∷ 1 ∷ 4 ∷ 4 ∷ 0 ∷ 0 ∷ []) ∷
    (0 ∷ 0 ∷ 2 ∷ 4 ∷ 4 ∷ 4 ∷ 4 ∷ 4 ∷ 4 ∷ 4 ∷ 4 ∷ 4 ∷ 1 ∷ 0 ∷ 0 ∷ 0 ∷ []) ∷
    (0 ∷ 0 ∷ 2 ∷ 4 ∷ 4 ∷ 4 ∷ 4 ∷ 4 ∷ 4 ∷ 4 ∷ 4 ∷ 4 ∷ 16 ∷ 1 ∷ 0 ∷ 0 ∷ []) ∷
    (0 ∷ 0 ∷ 0 ∷ 0 ∷ 0 ∷ 0 ∷ 0 ∷ 0 ∷ 0 ∷ 0 ∷ 0 ∷ 0 ∷ 0 ∷ 0 ∷ 1 ∷ 0 ∷ []) ∷
    (0 ∷ 0 ∷ 0 ∷ 0 ∷ 0 ∷ 0 ∷ 0 ∷ 0 ∷ 0 ∷ 0 ∷ 0 ∷ 0 ∷ 0 ∷ 0 ∷ 0 ∷ 0 ∷ []) ∷ []

-- The entry of two kinds.
abbrev pub rule_entry : ℕ → ℕ → ℕ
rule_entry i j = get_or (get_or pair_rules i []) j 0
