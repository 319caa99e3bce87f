-- What a pair of facing sub-characters becomes: document 01, "Layouts".
-- Assumes nothing.
use Rattle.std.specs.Prelude.{ℕ, ◌≡◌, Bool, true, false, cond, List, [], ◌∷◌, eqb, Option, Some, None}
use Rattle.subchars.specs.declared.Direction.{Direction}
use Rattle.subchars.specs.declared.Direction.TheVariants.{LeftToRight, RightToLeft}
use Rattle.subchars.specs.declared.Smushing.{Smushing as Kind}
use Rattle.subchars.specs.declared.Smushing.TheVariants.{Universal, Controlled}
use Rattle.subchars.specs.declared.Layout.{Layout}
use Rattle.subchars.specs.declared.Layout.TheVariants.{FullWidth, Fitting, Smushing}
use Rattle.subchars.specs.declared.Mode.{Mode}
use Rattle.subchars.specs.Layouts.{has}
use Rattle.subchars.specs.Hardblank.{blank}
use Rattle.rules.specs.declared.Rule.{Rule}
use Rattle.rules.specs.Rules.{by_rule, rule_number, rules}
use Rattle.pairs.specs.declared.Joint.{Joint}
use Rattle.pairs.specs.declared.Joint.TheVariants.{ByBlank, ByUniversal, ByRule, Unjoinable}

-- A pair that a rule joins, or else what is tried next.
abbrev pub joined_by : Rule → Option ℕ → Joint → Joint
joined_by rule (Some x) next = ByRule rule (record { 0 = x })
joined_by rule None next = next

-- The first of the rules that is wanted and joins the pair. ("No pair is joined by two rules": `one_rule` of crate rules.)
abbrev pub first_rule : (Rule → Bool) → List Rule → ℕ → ℕ → ℕ → Joint
first_rule wanted [] h l r = Unjoinable
first_rule wanted (rule ∷ more) h l r = joined_by rule (cond (wanted rule) (by_rule rule h l r) None) (first_rule wanted more h l r)

-- The set, a sum of rules' numbers, has the rule.
abbrev pub in_set : ℕ → Rule → Bool
in_set set rule = has set (rule_number rule)

-- "A pair without a blank has as joint what universal, or its rule in the set, gives; with no such rule controlled cannot join it."
unfoldable pub controlled : ℕ → ℕ → ℕ → ℕ → Joint
controlled set h l r = first_rule (in_set set) rules h l r

-- "'Later' is the right block when writing left to right, the left one otherwise."
abbrev pub later : Direction → ℕ → ℕ → ℕ
later LeftToRight l r = r
later RightToLeft l r = l

-- "Universal joins every pair: the visible one beats a hardblank, two hardblanks give one, of two visible the later character's stands."
unfoldable pub universal : Direction → ℕ → ℕ → ℕ → Joint
universal d h l r = ByUniversal (record { 0 = cond (eqb l h) r (cond (eqb r h) l (later d l r)) })

abbrev pub smushed : Kind → Direction → ℕ → ℕ → ℕ → Joint
smushed Universal d h l r = universal d h l r
smushed (Controlled set) d h l r = controlled set h l r

-- Only smushing joins a pair without a blank.
abbrev pub without_blank : Layout → Direction → ℕ → ℕ → ℕ → Joint
without_blank FullWidth d h l r = Unjoinable
without_blank Fitting d h l r = Unjoinable
without_blank (Smushing kind) d h l r = smushed kind d h l r

-- A pair with a blank "joins in every mode, under no rule"; "a blank yields to its partner".
unfoldable pub joint : Mode → ℕ → ℕ → Joint
joint y l r =
    cond (eqb l blank) (ByBlank (record { 0 = r }))
    (cond (eqb r blank) (ByBlank (record { 0 = l })) (without_blank y.layout y.direction y.hardblank.0 l r))

abbrev pub is_joined : Joint → Bool
is_joined (ByBlank x) = true
is_joined (ByUniversal x) = true
is_joined (ByRule rule x) = true
is_joined Unjoinable = false

-- Whether the mode can join a pair.
unfoldable pub joins : Mode → ℕ → ℕ → Bool
joins y l r = is_joined (joint y l r)

-- What a pair that joins becomes. (Of one that does not, 0: no result has such a pair, proofs of crate overlap.)
abbrev pub byte_of : Joint → ℕ
byte_of (ByBlank x) = x.0
byte_of (ByUniversal x) = x.0
byte_of (ByRule rule x) = x.0
byte_of Unjoinable = 0

-- "If one controlled set has every rule of another."
abbrev pub EveryRuleOf : ℕ → ℕ → Type 0
EveryRuleOf p q = (rule : Rule) → in_set p rule ≡ true → in_set q rule ≡ true
