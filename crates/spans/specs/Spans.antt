-- A line of a text that is drawn in lines, and a character that is too wide for one: document 02, Q-4.
-- Assumes nothing.
use Rattle.std.specs.Prelude.{ℕ, ◌-◌, Bool, not, ◌&&◌, List, [], ◌∷◌, ◌++◌, ltb, take, drop}
use Rattle.ground.specs.Runs.{run}
use Rattle.subchars.specs.declared.Mode.{Mode}
use Rattle.blocks.specs.Block.{Block}
use Rattle.showing.specs.Output.{shown}
use Rattle.source.specs.Source.{Choice, found, stood_in, nothing, Source}
use Rattle.flc.specs.declared.Command.{Command}
use Rattle.drawing.specs.Drawing.{text_codes, byte_choice, line_of}
use Rattle.breaks.specs.Words.{in_word}
use Rattle.breaks.specs.Breaking.{Span}

-- A line is the part of the text from its first word's first byte to the end of its last word.
abbrev pub part : List ℕ → ℕ → ℕ → List ℕ
part s b e = take (e - b) (drop b s)

-- Its characters are drawn as a text of their own: the line of a text by a source and a control file's commands, and how wide a part of the text then is.
abbrev pub line_by : Mode → ℕ → Source → List Command → ℕ → List ℕ → Block
line_by y h source cs k text = line_of y h source (text_codes cs k text)

abbrev pub wide_in : (List ℕ → Block) → List ℕ → ℕ → ℕ → ℕ
wide_in line s b e = (line (part s b e)).width

-- "The drawings of the lines follow one another, each in its own width."
unfoldable pub drawings : ℕ → ℕ → (List ℕ → Block) → List ℕ → List Span → List ℕ
drawings hardblank h line s [] = []
drawings hardblank h line s (x ∷ xs) = shown hardblank h (line (part s x.first x.behind)) ++ drawings hardblank h line s xs

-- "19, a single character other than a blank wider than the limit": byte x of a text, and what a source has for its code. A code that draws nothing is 0
-- wide.
abbrev pub choice_width : Choice → ℕ
choice_width (found character) = character.width
choice_width (stood_in character) = character.width
choice_width nothing = 0

abbrev pub too_wide : ℕ → ℕ → Choice → Bool
too_wide limit x choice = in_word x && ltb limit (choice_width choice)

-- The place in the text of the first such one, after mapping and stand-in; the text's length where there is none.
unfoldable pub first_wider : Source → List Command → ℕ → ℕ → List ℕ → ℕ
first_wider source cs k limit text = run (λ x. not (too_wide limit x (byte_choice source cs k x))) text
