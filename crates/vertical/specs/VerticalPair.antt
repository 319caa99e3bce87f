-- What a pair of sub-characters that lie above one another becomes, u above l: document 02, Q-1, with "The Five Vertical Smushing Rules" of source
-- document 000. "Hardblanks are first made blanks": none occurs here.
-- Assumes nothing.
use Rattle.std.specs.Prelude.{ℕ, ◌%◌, ◌≡◌, Bool, true, cond, ◌&&◌, ◌||◌, List, [], ◌∷◌, eqb, leb, Option, Some, None, unwrap_or}
use Rattle.ground.specs.Text.{byte}
use Rattle.subchars.specs.declared.SubCharacter.{SubCharacter}
use Rattle.subchars.specs.declared.VerticalSmushing.TheVariants.{Universal, Controlled}
use Rattle.subchars.specs.declared.VerticalLayout.{VerticalLayout}
use Rattle.subchars.specs.declared.VerticalLayout.TheVariants.{FullHeight, Fitting, Smushing}
use Rattle.subchars.specs.Layouts.{has}
use Rattle.subchars.specs.Hardblank.{blank}
use Rattle.rules.specs.Rules.{joined_if, or_else, is_some, equal_character, underscore, hierarchy, reads, either_order}

-- The rules by the standard's names, in its order.
pub data VerticalRule : Type 0 where
  EqualCharacter : VerticalRule
  Underscore : VerticalRule
  Hierarchy : VerticalRule
  HorizontalLine : VerticalRule
  VerticalLine : VerticalRule

abbrev pub vertical_rules : List VerticalRule
vertical_rules = EqualCharacter ∷ Underscore ∷ Hierarchy ∷ HorizontalLine ∷ VerticalLine ∷ []

-- "Code value 256", and so on.
abbrev pub rule_value : VerticalRule → ℕ
rule_value EqualCharacter = 256
rule_value Underscore = 512
rule_value Hierarchy = 1024
rule_value HorizontalLine = 2048
rule_value VerticalLine = 4096

-- The set, a sum of rules' code values, has the rule.
abbrev pub set_has : ℕ → VerticalRule → Bool
set_has set rule = has set (rule_value rule)

-- "Smushes stacked pairs of `-` and `_`, replacing them with a single `=` sub-character. It does not matter which is found above the other."
unfoldable pub horizontal_line : ℕ → ℕ → Option ℕ
horizontal_line u l = joined_if (either_order "-_" u l) (byte "=")

-- "Of two bars."
unfoldable pub two_bars : ℕ → ℕ → Bool
two_bars u l = reads "||" u l

-- What one rule makes of a pair without a blank: "Same as horizontal smushing rule 1", "2" and "3"; two bars become a bar.
abbrev pub rule_merges : VerticalRule → ℕ → ℕ → Option ℕ
rule_merges EqualCharacter u l = equal_character u l
rule_merges Underscore u l = underscore u l
rule_merges Hierarchy u l = hierarchy u l
rule_merges HorizontalLine u l = horizontal_line u l
rule_merges VerticalLine u l = joined_if (two_bars u l) (byte "|")

-- What the first of the rules that is wanted and joins the pair makes of it. (No pair is joined by two of the four: proofs/VerticalRules.)
abbrev pub first_merging : (VerticalRule → Bool) → List VerticalRule → ℕ → ℕ → Option ℕ
first_merging wanted [] u l = None
first_merging wanted (rule ∷ more) u l = or_else (cond (wanted rule) (rule_merges rule u l) None) (first_merging wanted more u l)

-- Only smushing joins a pair without a blank: "universal or with the five rules"; "for universal the lower block is the later one".
abbrev pub without_blank : VerticalLayout → ℕ → ℕ → Option ℕ
without_blank FullHeight u l = None
without_blank Fitting u l = None
without_blank (Smushing Universal) u l = Some l
without_blank (Smushing (Controlled set)) u l = first_merging (set_has set) vertical_rules u l

-- Document 01: a pair with a blank "joins in every mode, under no rule"; "a blank yields to its partner".
unfoldable pub merge : VerticalLayout → ℕ → ℕ → Option ℕ
merge layout u l = cond (eqb u blank) (Some l) (cond (eqb l blank) (Some u) (without_blank layout u l))

-- Whether the layout can join a pair.
unfoldable pub merges : VerticalLayout → ℕ → ℕ → Bool
merges layout u l = is_some (merge layout u l)

-- What a pair that joins becomes; 0 of one that does not.
unfoldable pub merged_byte : VerticalLayout → ℕ → ℕ → ℕ
merged_byte layout u l = unwrap_or (merge layout u l) 0

-- "Faces only pairs with a blank or of two bars."
unfoldable pub barred : ℕ → ℕ → Bool
barred u l = eqb u blank || eqb l blank || two_bars u l

-- "The other rules": the set without 4096.
abbrev pub other_rules : ℕ → ℕ
other_rules set = set % 4096

-- A test of pairs, by what it may answer, answers as p does.
abbrev pub AnswersAs : (SubCharacter → SubCharacter → Bool → Type 0) → (ℕ → ℕ → Bool) → Type 0
AnswersAs post p = (u l : SubCharacter) (t : Bool) → post u l t → t ≡ p u.0 l.0

-- "17 as in the join, but .. the five rules": a set is a sum of one to five of them, 256 to 7,936 in steps of 256.
abbrev pub good_set : ℕ → Bool
good_set set = leb 256 set && leb set 7936 && eqb (set % 256) 0

abbrev pub good_vertical : VerticalLayout → Bool
good_vertical FullHeight = true
good_vertical Fitting = true
good_vertical (Smushing Universal) = true
good_vertical (Smushing (Controlled set)) = good_set set

-- "If one controlled set has every rule of another."
abbrev pub EveryVerticalRuleOf : ℕ → ℕ → Type 0
EveryVerticalRuleOf p q = (rule : VerticalRule) → set_has p rule ≡ true → set_has q rule ≡ true
