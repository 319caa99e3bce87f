-- One character more: the line in the scratch area is the line with what was chosen for a code.
-- Assumes nothing.
use mathlib.Core.Path.{◌≡◌, refl, sym, subst}
use mathlib.Core.Bool.{Bool, true, false}
use Prim.Native.Nat.{ℕ, ◌≤◌}
use mathlib.Core.List.{List}
use native.Mathlib.Omega.{arith}
use Rattle.subchars.specs.declared.Mode.{Mode}
use Rattle.blocks.specs.Block.{Block}
use Rattle.blocks.proofs.Likeness.{like-same, like_trans}
use Rattle.figure.specs.Line.{attached}
use Rattle.showing.specs.Scratch.{scratch_line}
use Rattle.laying.specs.Laying.{character_at, RowsIn}
use Rattle.figure.specs.Drawn.{HoldsLine}
use Rattle.figure.proofs.Folding.{attached-like}
use Rattle.ground.specs.Limits.{max_font_length}
use Rattle.source.specs.declared.Chosen.{Chosen}
use Rattle.source.specs.declared.Chosen.TheVariants as chosen
use Rattle.source.specs.declared.Picked.{Picked}
use Rattle.fontlists.specs.declared.two.Which.{Which}
use Rattle.fontlists.specs.declared.two.Which.TheVariants.{First, Second}
use Rattle.fontlists.specs.TwoFonts.{bytes_in}
use Rattle.source.specs.Source.{Choice, found, stood_in, nothing}
use Rattle.source.specs.Steps.{Shows, ChosenAs, PickedAs}
use Rattle.drawing.specs.Steps.{with_character, Reached}

-- What was picked in the bytes of one of two fonts is chosen in those bytes.
pub picked_as : (s t bytes at : List ℕ) (h : ℕ) (p : Picked) (x : Choice) → bytes ≡ bytes_in p.font s t → PickedAs s t at h p x → ChosenAs bytes at h p.chosen x
picked_as s t bytes at h p x e z = subst (λ (l : List ℕ). ChosenAs l at h p.chosen x) (sym e) z.is

-- Where there is but one font, these are its bytes.
in_one : (w : Which) (s : List ℕ) → s ≡ bytes_in w s s
in_one First s = refl
in_one Second s = refl

pub picked_in_one : (s at : List ℕ) (h : ℕ) (p : Picked) (x : Choice) → PickedAs s s at h p x → ChosenAs s at h p.chosen x
picked_in_one s at h p x z = picked_as s s s at h p x (in_one p.font s) z

module _ (s at : List ℕ) (h : ℕ) (r : Chosen) where
  -- a chosen character has its rows in the bytes
  pub chosen_rows : (m : ℕ) (b : Bool) → r ≡ chosen.Character m b → (x : Choice) → ChosenAs s at h r x → (m ≤ max_font_length) × RowsIn s at m h
  chosen_rows m b e x z = go b x (rw e at z)
    where
      go : (b : Bool) (x : Choice) → ChosenAs s at h (chosen.Character m b) x → (m ≤ max_font_length) × RowsIn s at m h
      go true (found c) z = (z.narrow, z.rows)
      go true (stood_in c) z = absurd z
      go true nothing z = absurd z
      go false (found c) z = absurd z
      go false (stood_in c) z = (z.narrow, z.rows)
      go false nothing z = absurd z

  module _ (y : Mode) (limit n : ℕ) (area : List ℕ) where
    abbrev line : Block
    line = scratch_line y.direction n area

    -- a code without a character leaves the line as it is
    pub unmoved : n ≤ limit → r ≡ chosen.Nothing → (x : Choice) → ChosenAs s at h r x → Reached y h limit n area (with_character y h x line)
    unmoved k e x z = go x (rw e at z)
      where
        go : (x : Choice) → ChosenAs s at h chosen.Nothing x → Reached y h limit n area (with_character y h x line)
        go (found c) z = absurd z
        go (stood_in c) z = absurd z
        go nothing z = record { within = λ l. like-same h line; beyond = λ l. absurd (omega arith) }

    -- one with a character has it joined
    module _ (m w : ℕ) (area' : List ℕ) (holds : HoldsLine y.direction h limit w area' (attached y h line (character_at s at m))) where
      joined : (c : Block) → Shows s at m h c → Reached y h limit w area' (attached y h line c)
      joined c z =
          let a = attached-like y h line line (character_at s at m) c (like-same h line) z.like in
          record {
            within = λ l. like_trans h _ _ _ (record { width = holds.width; cells = holds.cells l }) a;
            beyond = λ l. omega (arith, holds.width, a.width);
          }

      pub reached : (b : Bool) → r ≡ chosen.Character m b → (x : Choice) → ChosenAs s at h r x → Reached y h limit w area' (with_character y h x line)
      reached b e x z = go b x (rw e at z)
        where
          go : (b : Bool) (x : Choice) → ChosenAs s at h (chosen.Character m b) x → Reached y h limit w area' (with_character y h x line)
          go true (found c) z = joined c z
          go true (stood_in c) z = absurd z
          go true nothing z = absurd z
          go false (found c) z = absurd z
          go false (stood_in c) z = joined c z
          go false nothing z = absurd z
