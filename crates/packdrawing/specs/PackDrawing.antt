-- Drawing a line of text from a pack: document 02, Q-6. "Drawing from a pack takes layout and direction with the call."
-- Assumes nothing.
use Rattle.std.specs.Prelude.{◌≡◌, ℕ, cond, List, ltb, Option, Some, None}
use Rattle.ground.specs.Limits.{min_scratch}
use Rattle.ground.specs.Refusals.{refusal, area_too_small, bad_shape, damaged_pack}
use Rattle.subchars.specs.declared.Code.{Code}
use Rattle.subchars.specs.declared.Direction.{Direction}
use Rattle.subchars.specs.declared.Layout.{Layout}
use Rattle.subchars.specs.declared.Mode.{Mode}
use Rattle.blocks.specs.Block.{exact_block}
use Rattle.join.specs.Shape.{good_layout}
use Rattle.blocks.specs.Writing.{Like}
use Rattle.header.specs.declared.Header.{Header}
use Rattle.chars.specs.declared.Entry.{Entry}
use Rattle.reader.specs.Reader.{last_of}
use Rattle.records.specs.declared.Head.{Head}
use Rattle.records.specs.Letters.{Letter, letter, no_letter}
use Rattle.heads.specs.Pack.{Pack, says, damaged, meaning}
use Rattle.flc.specs.Control as flc
use Rattle.source.specs.Source.{character_of, pack_letter, pack_source}
use Rattle.drawing.specs.Drawing.{Lined, unlined, lined_from}

-- How the letters of a pack are joined: as the call says, by the pack's hardblank.
abbrev pub pack_mode : Head → Layout → Direction → Mode
pack_mode f layout direction = record { layout = layout; direction = direction; hardblank = f.hardblank }

-- "20 damaged pack, 17 for a layout of bad shape", then what drawing refuses from any source.
abbrev pub pack_by : Pack → Layout → Direction → flc.ControlReading → List ℕ → Lined
pack_by damaged layout direction control text = unlined (refusal damaged_pack 0)
pack_by (says f rs) layout direction control text = cond (good_layout layout) (lined_from (pack_mode f layout direction) f.height (pack_source f rs) control text) (unlined (refusal bad_shape 0))

unfoldable pub pack_of : List ℕ → Layout → Direction → List ℕ → List ℕ → Lined
pack_of s layout direction control text = pack_by (meaning s) layout direction (flc.control control) text

-- As in every drawing, 9 for the scratch comes first.
unfoldable pub pack_lined : ℕ → List ℕ → Layout → Direction → List ℕ → List ℕ → Lined
pack_lined scratch s layout direction control text = cond (ltb scratch min_scratch) (unlined (refusal area_too_small 0)) (pack_of s layout direction control text)

-- "If the pack has its Height and hardblank, its live records are exactly its characters": for each code the font's own character and the pack's letter
-- have the same width and the same rows, or neither is there. Where a font repeats a code, its own is the last.
abbrev pub SameLetter : List ℕ → ℕ → Option Entry → Letter → Type 0
SameLetter s h (Some e) (letter w rows) = Like h (character_of s e) (exact_block w rows)
SameLetter s h (Some e) no_letter = ⊥
SameLetter s h None (letter w rows) = ⊥
SameLetter s h None no_letter = Unit

pub record MadeOf (s : List ℕ) (h : Header) (es : List Entry) (f : Head) (rs : List (List ℕ)) : Type 0 where
  pub height : f.height ≡ h.height
  pub hardblank : f.hardblank ≡ h.hardblank
  pub letters : (c : Code) → SameLetter s h.height (last_of c.0 es) (pack_letter f rs c.0)
