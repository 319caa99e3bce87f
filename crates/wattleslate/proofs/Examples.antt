-- The examples of document 01 that are marked P, as one statement over one list, about the definitions that the contracts cite.
-- One-row blocks in quotes, hardblank `$`, left to right.
-- Assumes nothing.
use mathlib.Core.Path.{◌≡◌, refl}
use mathlib.Core.Bool.{true}
use mathlib.Core.List.{List, [], ◌∷◌, ◌++◌}
use Prim.Native.Nat.{ℕ}
use Prim.Native.String.{String}
use lib.IntN.{ℤ, pos, negsuc}
use lib.ListN.{length}
use Rattle.ground.specs.Area.{values}
use Rattle.ground.specs.Count.{every, reach}
use Rattle.ground.specs.Text.{byte, bytes}
use Rattle.subchars.specs.declared.Direction.TheVariants.{LeftToRight}
use Rattle.subchars.specs.declared.Layout.{Layout}
use Rattle.subchars.specs.declared.Layout.TheVariants.{FullWidth, Fitting, Smushing}
use Rattle.subchars.specs.declared.Smushing.TheVariants.{Universal, Controlled}
use Rattle.subchars.specs.declared.Mode.{Mode}
use Rattle.subchars.specs.Layouts.{full_layout_of}
use Rattle.rules.specs.declared.Rule.TheVariants.{Hierarchy, BigX, Hardblank}
use Rattle.pairs.specs.declared.Joint.{Joint}
use Rattle.pairs.specs.declared.Joint.TheVariants.{ByUniversal, ByRule, Unjoinable}
use Rattle.std.specs.Prelude.{Some, None}
use Rattle.header.specs.Header.{layout_of}
use Rattle.subchars.specs.Hardblank.{legal_hardblank}
use Rattle.rules.specs.Rules.{joined_if, or_else, equal_character, underscore, class_of, hierarchy, opposite, opposite_pair, big_x}
use Rattle.pairs.specs.Pair.{controlled, universal, joint, joins}
use Rattle.lanes.specs.Overlap.{lane_facing, facing, has_blank, free, fitting, one_more, smushing}
use Rattle.lanes.specs.Joined.{joined_cells}
use Rattle.blocks.specs.Block.{exact_block, rows_of}
use Rattle.overlap.specs.Join.{overlap, joined_at, besides}
use Rattle.join.specs.Shape.{good_block, good_shape}
use Rattle.join.specs.JoinCall.{joining as joined_with, join_tells, told_of, join_told, join_area}

abbrev Rows : Type 0
Rows = List String

abbrev one : String → Rows
one row = row ∷ []

-- the bytes of rows that lie one after another, and their width
abbrev text : Rows → List ℕ
text [] = []
text (row ∷ rows) = bytes row ++ text rows

abbrev width : Rows → ℕ
width [] = 0
width (row ∷ rows) = length (bytes row)

abbrev mode : Layout → Mode
mode layout = record { layout = layout; direction = LeftToRight; hardblank = record { 0 = byte "$" } }

abbrev controlled-by : ℕ → Layout
controlled-by rules = Smushing (Controlled rules)

abbrev universally : Layout
universally = Smushing Universal

data Example : Type 0 where
  -- Old_Layout alone gives the layout: Full_Layout is absent
  old_layout : ℤ → Layout → Example
  -- Full_Layout decides alone, whatever Old_Layout is
  full_layout : ℕ → Layout → Example
  -- line and character join at the overlap into the rows
  joining : Layout → Rows → Rows → ℕ → Rows → Example
  -- an overlap of line and character is free
  is_free : Rows → Rows → ℕ → Example
  -- what a pair, left and right, becomes
  pairing : Layout → ℕ → ℕ → Joint → Example

Holds : Example → Type 0
Holds (old_layout z y) = layout_of z None ≡ y
Holds (full_layout v y) = (old : ℤ) → layout_of old (Some v) ≡ y
Holds (joining y line character o result) =
    let h = length line in
    let room = length (text result) in
    (join_told (mode y) h (width line) (text line) (width character) (text character) room ≡ join_tells (joined_with o (width result)))
    × (join_area (mode y) h (width line) (text line) (width character) (text character) room ≡ text result)
Holds (is_free line character o) =
    let a = exact_block (width line) (text line) in
    free (length line) a.width a.cells (exact_block (width character) (text character)).cells o ≡ true
Holds (pairing y l r j) = joint (mode y) l r ≡ j

All : List Example → Type 0
All [] = Unit {0}
All (e ∷ es) = Holds e × All es

examples : List Example
examples =
    -- Old_Layout -1, 0 alone: full, fitting. Full_Layout 143, 192: controlled 15, universal.
    old_layout (negsuc 0) FullWidth ∷
    old_layout (pos 0) Fitting ∷
    full_layout 143 (controlled-by 15) ∷
    full_layout 192 universally ∷
    -- "a  ", " b" fitting: overlap 2, "a b".
    joining Fitting (one "a  ") (one " b") 2 (one "a b") ∷
    -- "a ", "b " fitting: 1, "ab "; universal left to right: 2, "b ".
    joining Fitting (one "a ") (one "b ") 1 (one "ab ") ∷
    joining universally (one "a ") (one "b ") 2 (one "b ") ∷
    -- " b", "c " fitting: 0, " bc ", though 2 would be free; universal: " c ".
    joining Fitting (one " b") (one "c ") 0 (one " bc ") ∷
    is_free (one " b") (one "c ") 2 ∷
    joining universally (one " b") (one "c ") 1 (one " c ") ∷
    -- rows "| " and " |" with "| " and "| ", rules 1: overlap 1, "|| " and " | ".
    joining (controlled-by 1) ("| " ∷ " |" ∷ []) ("| " ∷ "| " ∷ []) 1 ("|| " ∷ " | " ∷ []) ∷
    -- `$$` pair: rules 31 not joined, 32 joined. `<>` under 24 not joined. `\/` under 16: `Y`. `|>` under 4: `>`. `$a` universal: `a`.
    pairing (controlled-by 31) (byte "$") (byte "$") Unjoinable ∷
    pairing (controlled-by 32) (byte "$") (byte "$") (ByRule Hardblank (record { 0 = byte "$" })) ∷
    pairing (controlled-by 24) (byte "<") (byte ">") Unjoinable ∷
    pairing (controlled-by 16) (byte "\\") (byte "/") (ByRule BigX (record { 0 = byte "Y" })) ∷
    pairing (controlled-by 4) (byte "|") (byte ">") (ByRule Hierarchy (record { 0 = byte ">" })) ∷
    pairing universally (byte "$") (byte "a") (ByUniversal (record { 0 = byte "a" })) ∷ []

-- all of them hold
examples_hold : All examples
unfolding All Holds examples values every reach legal_hardblank joined_if or_else equal_character underscore class_of hierarchy opposite opposite_pair big_x controlled universal joint joins full_layout_of lane_facing facing has_blank fitting one_more smushing overlap joined_cells joined_at besides rows_of good_block good_shape told_of join_told join_area
examples_hold = (
  refl,
  (
    refl,
    (
      λ old. refl,
      (
        λ old. refl,
        (
          (refl, refl),
          (
            (refl, refl),
            (
              (refl, refl),
              (
                (refl, refl),
                (
                  refl,
                  (
                    (refl, refl),
                    (
                      (refl, refl),
                      (refl, (refl, (refl, (refl, (refl, (refl, tt)))))),
                    ),
                  ),
                ),
              ),
            ),
          ),
        ),
      ),
    ),
  ),
)
