-- The character that was chosen for a code: its width, and where its rows start in the bytes of its source; and which of two look-ups has it.
-- Assumes nothing.
use Rattle.std.specs.Prelude.{◌≡◌, ℕ, ◌+◌, ◌*◌, ◌<◌, ◌≤◌, Bool, true, false, List, length, take, drop, get_or, Option, Some, None}
use Rattle.ground.specs.Limits.{max_font_length, max_height, max_pack_length}
use Rattle.blocks.specs.Block.{Block, exact_block}
use Rattle.blocks.specs.Writing.{Like}
use Rattle.laying.specs.Laying.{character_at, RowsIn}
use Rattle.lines.specs.Lines.{line_end, after}
use Rattle.chars.specs.declared.Entry.{Entry}
use Rattle.records.specs.declared.Head.{Head}
use Rattle.records.specs.declared.Place.{Place}
use Rattle.records.specs.Versions.{record_head_length}
use Rattle.source.specs.declared.Chosen.{Chosen}
use Rattle.source.specs.declared.Chosen.TheVariants.{Character, Nothing}
use Rattle.source.specs.declared.Picked.{Picked}
use Rattle.fontlists.specs.TwoFonts.{bytes_in}
use Rattle.source.specs.Source.{Choice, found, stood_in, nothing}

-- h rows of width w, from the line that starts at a place on: each is a part of its line.
pub record Standing (s : List ℕ) (start w h : ℕ) : Type 0 where
  pub ends : (r : ℕ) → r < h → after r s start + w ≤ line_end s (after r s start)
  pub fits : (r : ℕ) → r < h → after r s start + w ≤ length s

-- So stands a FIGcharacter of a font, with endmarks behind each row.
pub record Stands (s : List ℕ) (e : Entry) (h : ℕ) : Type 0 where
  pub some : 0 < h
  pub few : h ≤ max_height
  pub narrow : e.width ≤ max_font_length
  pub rows : Standing s e.start e.width h
  pub marked : (r : ℕ) → r < h → after r s e.start + e.width < line_end s (after r s e.start)

-- The places where they start.
pub record RowPlaces (s : List ℕ) (start h : ℕ) (places : List ℕ) : Type 0 where
  pub many : h ≤ length places
  pub at : (r : ℕ) → r < h → get_or places r 0 ≡ after r s start

-- The rows that start at the given places are those of a character, w wide.
pub record Shows (s starts : List ℕ) (w h : ℕ) (character : Block) : Type 0 where
  pub narrow : w ≤ max_font_length
  pub rows : RowsIn s starts w h
  pub like : Like h (character_at s starts w) character

-- What was chosen is what the source has for the code.
abbrev pub ChosenAs : List ℕ → List ℕ → ℕ → Chosen → Choice → Type 0
ChosenAs s starts h (Character w true) (found b) = Shows s starts w h b
ChosenAs s starts h (Character w true) (stood_in b) = ⊥
ChosenAs s starts h (Character w true) nothing = ⊥
ChosenAs s starts h (Character w false) (found b) = ⊥
ChosenAs s starts h (Character w false) (stood_in b) = Shows s starts w h b
ChosenAs s starts h (Character w false) nothing = ⊥
ChosenAs s starts h Nothing (found b) = ⊥
ChosenAs s starts h Nothing (stood_in b) = ⊥
ChosenAs s starts h Nothing nothing = Unit

-- The same where its rows stand in the bytes of one of two fonts.
pub record PickedAs (s t starts : List ℕ) (h : ℕ) (p : Picked) (x : Choice) : Type 0 where
  pub is : ChosenAs (bytes_in p.font s t) starts h p.chosen x

-- A character that is the code's own, or stands in for it.
abbrev pub as_own : Bool → Block → Choice
as_own true b = found b
as_own false b = stood_in b

-- A record that starts at a place is within the bytes of a pack.
abbrev pub PlaceIn : Head → List ℕ → Option Place → Type 0
PlaceIn f s (Some p) = (0 < f.height) × (f.height ≤ max_height) × (p.at + (record_head_length f.version + f.height * p.width) ≤ length s) × (length s ≤ max_pack_length)
PlaceIn f s None = Unit

-- The letter of that record as a character, which is the code's own or stands in.
abbrev pub letter_choice : Head → List ℕ → Bool → Option Place → Choice
letter_choice f s true (Some p) = found (exact_block p.width (take (f.height * p.width) (drop (p.at + record_head_length f.version) s)))
letter_choice f s false (Some p) = stood_in (exact_block p.width (take (f.height * p.width) (drop (p.at + record_head_length f.version) s)))
letter_choice f s own None = nothing
