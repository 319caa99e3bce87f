-- What pairs become, as one statement over one list, about the definition that the contracts cite.
-- Assumes nothing.
use mathlib.Core.Path.{◌≡◌, refl}
use mathlib.Core.List.{List, [], ◌∷◌}
use Rattle.std.specs.Prelude.{Option, Some, None}
use Prim.Native.Nat.{ℕ}
use Prim.Native.Char.{Char}
use Rattle.ground.specs.Text.{byte}
use Rattle.subchars.specs.declared.VerticalSmushing.TheVariants.{Universal, Controlled}
use Rattle.subchars.specs.declared.VerticalLayout.{VerticalLayout}
use Rattle.subchars.specs.declared.VerticalLayout.TheVariants.{FullHeight, Fitting, Smushing}
use Rattle.rules.specs.Rules.{joined_if, or_else, equal_character, underscore, class_of, hierarchy}
use Rattle.vertical.specs.VerticalPair.{horizontal_line, two_bars, merge}

pub record Example : Type 0 where
  pub layout : VerticalLayout
  pub upper : ℕ
  pub lower : ℕ
  pub becomes : Option ℕ

abbrev joins : VerticalLayout → Char → Char → Char → Example
joins layout u l x = record { layout = layout; upper = byte u; lower = byte l; becomes = Some (byte x) }

abbrev apart : VerticalLayout → Char → Char → Example
apart layout u l = record { layout = layout; upper = byte u; lower = byte l; becomes = None }

abbrev by : ℕ → VerticalLayout
by set = Smushing (Controlled set)

abbrev universally : VerticalLayout
universally = Smushing Universal

abbrev pub All : List Example → Type 0
All [] = Unit {0}
All (e ∷ es) = (merge e.layout e.upper e.lower ≡ e.becomes) × All es

abbrev pub examples : List Example
examples =
    -- 256: equal pairs give themselves
    joins (by 256) "a" "a" "a" ∷
    joins (by 256) "|" "|" "|" ∷
    apart (by 256) "a" "b" ∷
    apart (by 256) "-" "_" ∷
    -- 512: an underscore yields to any of the eleven
    joins (by 512) "_" "|" "|" ∷
    joins (by 512) "<" "_" "<" ∷
    apart (by 512) "_" "a" ∷
    apart (by 512) "_" "_" ∷
    -- 1024: of two classes the later one stands; `<` and `>` are of one class
    joins (by 1024) "|" "/" "/" ∷
    joins (by 1024) ")" "[" ")" ∷
    apart (by 1024) "<" ">" ∷
    apart (by 1024) "a" "|" ∷
    -- 2048: a hyphen and an underscore, whichever is above; "rule 1 will smush IDENTICAL pairs"
    joins (by 2048) "-" "_" "=" ∷
    joins (by 2048) "_" "-" "=" ∷
    apart (by 2048) "-" "-" ∷
    apart (by 2048) "_" "_" ∷
    apart (by 2048) "_" "|" ∷
    -- 4096: two bars, and nothing "other than `|`"
    joins (by 4096) "|" "|" "|" ∷
    apart (by 4096) "|" "/" ∷
    apart (by 4096) "-" "_" ∷
    apart (by 4096) "a" "a" ∷
    -- two bars need 256 or 4096
    apart (by 3584) "|" "|" ∷
    joins (by 3840) "|" "|" "|" ∷
    joins (by 4608) "_" "|" "|" ∷
    joins (by 7936) "_" "-" "=" ∷
    -- universal: the lower one stands, unless it is a blank; no byte is a hardblank
    joins universally "a" "b" "b" ∷
    joins universally "a" "$" "$" ∷
    joins universally " " "b" "b" ∷
    joins universally "a" " " "a" ∷
    -- fitting and full height: only a blank yields
    joins Fitting " " "b" "b" ∷
    joins Fitting "a" " " "a" ∷
    apart Fitting "a" "a" ∷
    apart Fitting "|" "|" ∷
    joins FullHeight " " " " " " ∷
    joins FullHeight "a" " " "a" ∷
    apart FullHeight "a" "a" ∷
    -- a blank yields under every rule
    joins (by 4096) " " "-" "-" ∷
    joins (by 2048) "_" " " "_" ∷ []

-- all of them hold
pub examples_hold : All examples
unfolding joined_if or_else equal_character underscore class_of hierarchy horizontal_line two_bars merge
examples_hold = (refl, (refl, (refl, (refl, (refl, (refl, (refl, (refl, (refl, (refl, (refl, (refl, (refl, (refl, (refl, (refl, (refl, (refl, (refl, (refl, (refl, (refl, (refl, (refl, (refl, (refl, (refl, (refl, (refl, (refl, (refl, (refl, (refl, (refl, (refl, (refl, (refl, (refl, tt))))))))))))))))))))))))))))))))))))))
