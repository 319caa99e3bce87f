-- What each rule of controlled smushing makes of a pair of facing sub-characters: document 01, "Layouts".
-- Assumes nothing.
use Rattle.std.specs.Prelude.{ℕ, suc, Bool, true, false, cond, ◌&&◌, ◌||◌, List, [], ◌∷◌, eqb, ltb, Option, Some, None}
use Prim.Native.String.{String}
use Rattle.ground.specs.Text.{byte, bytes, among, same}
use Rattle.rules.specs.declared.Rule.{Rule}
use Rattle.rules.specs.declared.Rule.TheVariants.{EqualCharacter, Underscore, Hierarchy, OppositePair, BigX, Hardblank}

-- What a rule makes of a pair, l on the left of r on the screen: the byte where the test holds, else nothing.
unfoldable pub joined_if : Bool → ℕ → Option ℕ
joined_if t x = cond t (Some x) None

-- The first of two that is something.
unfoldable pub or_else : Option ℕ → Option ℕ → Option ℕ
or_else (Some x) o = Some x
or_else None o = o

-- Whether there is something.
unfoldable pub is_some : Option ℕ → Bool
is_some (Some x) = true
is_some None = false

-- "1: equal pairs give themselves."
unfoldable pub equal_character : ℕ → ℕ → Option ℕ
equal_character l r = joined_if (eqb l r) l

-- "2: an underscore yields to any of `|/\[]{}()<>`."
abbrev pub eleven : List ℕ
eleven = bytes "|/\\[]{}()<>"

abbrev pub yields : ℕ → ℕ → Bool
yields x y = eqb x (byte "_") && among eleven y

unfoldable pub underscore : ℕ → ℕ → Option ℕ
underscore l r = or_else (joined_if (yields l r) r) (joined_if (yields r l) l)

-- "The six classes in rising order: `|`, `/\`, `[]`, `{}`, `()`, `<>`." The class of x, counted from 1; 0 where it has none.
abbrev pub classes : List (List ℕ)
classes = bytes "|" ∷ bytes "/\\" ∷ bytes "[]" ∷ bytes "{}" ∷ bytes "()" ∷ bytes "<>" ∷ []

abbrev pub class_from : ℕ → List (List ℕ) → ℕ → ℕ
class_from k [] x = 0
class_from k (c ∷ cs) x = cond (among c x) k (class_from (suc k) cs x)

unfoldable pub class_of : ℕ → ℕ
class_of x = class_from 1 classes x

-- "4: members of different classes give the one of the later class."
abbrev pub earlier : ℕ → ℕ → Bool
earlier x y = ltb 0 (class_of x) && ltb (class_of x) (class_of y)

unfoldable pub hierarchy : ℕ → ℕ → Option ℕ
hierarchy l r = or_else (joined_if (earlier l r) r) (joined_if (earlier r l) l)

-- The pair reads, from left to right, as the text.
abbrev pub reads : String → ℕ → ℕ → Bool
reads text l r = same (l ∷ r ∷ []) (bytes text)

-- "8: `[]`, `{}`, `()` in either order give `|`."
abbrev pub either_order : String → ℕ → ℕ → Bool
either_order text l r = reads text l r || reads text r l

unfoldable pub opposite : ℕ → ℕ → Bool
opposite l r = either_order "[]" l r || either_order "{}" l r || either_order "()" l r

unfoldable pub opposite_pair : ℕ → ℕ → Option ℕ
opposite_pair l r = joined_if (opposite l r) (byte "|")

-- "16: `/\` gives `|`, `\/` gives `Y`, `><` gives `X`."
unfoldable pub big_x : ℕ → ℕ → Option ℕ
big_x l r =
    or_else (joined_if (reads "/\\" l r) (byte "|"))
    (or_else (joined_if (reads "\\/" l r) (byte "Y")) (joined_if (reads "><" l r) (byte "X")))

-- "Hardblanks taking part only in the last": h is the hardblank.
abbrev pub unless_hardblank : ℕ → ℕ → ℕ → Option ℕ → Option ℕ
unless_hardblank h l r o = cond (eqb l h || eqb r h) None o

-- What one rule makes of a pair without a blank. "32: two hardblanks give one."
abbrev pub by_rule : Rule → ℕ → ℕ → ℕ → Option ℕ
by_rule EqualCharacter h l r = unless_hardblank h l r (equal_character l r)
by_rule Underscore h l r = unless_hardblank h l r (underscore l r)
by_rule Hierarchy h l r = unless_hardblank h l r (hierarchy l r)
by_rule OppositePair h l r = unless_hardblank h l r (opposite_pair l r)
by_rule BigX h l r = unless_hardblank h l r (big_x l r)
by_rule Hardblank h l r = joined_if (eqb l h && eqb r h) h

abbrev pub rule_number : Rule → ℕ
rule_number EqualCharacter = 1
rule_number Underscore = 2
rule_number Hierarchy = 4
rule_number OppositePair = 8
rule_number BigX = 16
rule_number Hardblank = 32

abbrev pub rules : List Rule
rules = EqualCharacter ∷ Underscore ∷ Hierarchy ∷ OppositePair ∷ BigX ∷ Hardblank ∷ []
