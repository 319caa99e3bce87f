-- Drawing a line of text: document 01, "Join and drawing". "Drawing maps each text byte's code, looks it up, and joins in turn." Five steps, from the
-- bytes of the text to the bytes that are put out.
-- Assumes nothing.
use Rattle.std.specs.Prelude.{◌≡◌, ℕ, cond, List, [], ◌∷◌, map, ltb, pos, length, Option, Some, None, Result, Ok, Err}
use Rattle.ground.specs.Area.{padded}
use Rattle.ground.specs.Refusals.{refusal, area_too_small, text_too_long}
use Rattle.ground.specs.declared.refusals.Refusal.{Refusal}
use Rattle.ground.specs.Limits.{max_text, min_scratch}
use Rattle.subchars.specs.declared.Code.{Code}
use Rattle.subchars.specs.declared.Direction.{Direction}
use Rattle.subchars.specs.declared.Direction.TheVariants.{LeftToRight}
use Rattle.subchars.specs.declared.Mode.{Mode}
use Rattle.subchars.specs.Layouts.{print_direction_of}
use Rattle.blocks.specs.Block.{Block}
use Rattle.figure.specs.Line.{empty, line_from, overlaps_from}
use Rattle.showing.specs.Output.{output_of, output_bytes}
use Rattle.header.specs.declared.Header.{Header}
use Rattle.chars.specs.declared.Entry.{Entry}
use Rattle.chars.specs.Codes.{code}
use Rattle.font.specs.Font as font
use Rattle.source.specs.declared.Counts.{Counts}
use Rattle.source.specs.Source.{Choice, found, stood_in, nothing, Source, font_source}
use Rattle.source.specs.Counting.{counts_of}
use Rattle.flc.specs.declared.Command.{Command}
use Rattle.flc.specs.Control as flc
use Rattle.mapping.specs.Mapping.{map_stages}
use Rattle.drawing.specs.declared.DrawAnswer.{DrawAnswer}
use Rattle.drawing.specs.declared.DrawAnswer.TheVariants.{Drawn, Refused}

-- 1. "Each text byte's code": 0 to 255.
unfoldable pub codes_of : List ℕ → List Code
codes_of text = map (λ b. code (pos b)) text

-- 2. "Drawing maps each .. code", by all stages of the control file.
unfoldable pub mapped_codes : List Command → ℕ → List Code → List Code
mapped_codes commands stages codes = map (map_stages commands 0 stages) codes

-- The codes that a text draws.
abbrev pub text_codes : List Command → ℕ → List ℕ → List Code
text_codes commands stages text = mapped_codes commands stages (codes_of text)

-- 3. "Looks it up": which character each code is, from a source of characters. A code with neither drawing nor stand-in draws nothing.
abbrev pub with_choice : Choice → List Block → List Block
with_choice (found character) cs = character ∷ cs
with_choice (stood_in character) cs = character ∷ cs
with_choice nothing cs = cs

unfoldable pub characters_of : Source → List Code → List Block
characters_of source [] = []
characters_of source (c ∷ cs) = with_choice (source c) (characters_of source cs)

-- The same for one byte of a text: what a source has for its code, mapped.
abbrev pub byte_choice : Source → List Command → ℕ → ℕ → Choice
byte_choice source commands stages byte = source (map_stages commands 0 stages (code (pos byte)))

-- 4. "Joins in turn, at the right if Print_Direction is 0 or absent, at the left if 1": by the join of the call `join`. Steps 3 and 4 for characters of
-- the given height.
unfoldable pub line_of : Mode → ℕ → Source → List Code → Block
line_of y h source codes = line_from y h empty (characters_of source codes)

-- The trace of a line: the characters that are drawn, and the overlap at which each is joined.
pub record Trace : Type 0 where
  pub characters : List Block
  pub overlaps : List ℕ

unfoldable pub trace_of : Mode → ℕ → Source → List Code → Trace
trace_of y h source codes =
    let cs = characters_of source codes in
    record { characters = cs; overlaps = overlaps_from y h empty cs }

-- How a font's characters are joined.
abbrev pub direction_of : Option ℕ → Direction
direction_of None = LeftToRight
direction_of (Some n) = print_direction_of n

unfoldable pub mode_of : Header → Mode
mode_of h = record { layout = h.layout; direction = direction_of h.print_direction; hardblank = h.hardblank }

-- The line of a text by a font, whose bytes are s, and by a control file.
abbrev pub font_line : List ℕ → Header → List Entry → List Command → ℕ → List ℕ → Block
font_line s h es commands stages text = line_of (mode_of h) h.height (font_source s es) (text_codes commands stages text)

-- The counts of a text by a font and a control file: 02, Q-2, "by the definition of look-up".
abbrev pub font_counts : List ℕ → List Entry → List Command → ℕ → List ℕ → Counts
font_counts s es commands stages text = counts_of (font_source s es) (text_codes commands stages text)

-- "The control file's, 15": the codes that a text draws by a control file, or the refusal of one of them.
pub data TextReading : Type 0 where
  draws : List Code → TextReading
  refuses : Refusal → TextReading

abbrev pub read_text : flc.ControlReading → List ℕ → TextReading
read_text (flc.refuses r) text = refuses r
read_text (flc.reads cs stages) text = cond (ltb max_text (length text)) (refuses (refusal text_too_long 0)) (draws (text_codes cs stages text))

-- "Drawing: .. the font's, the control file's, 15, 16, then 9 for the output." A line of the given height that is to be put out, with its text's counts; or
-- one of the first three.
pub data Lined : Type 0 where
  lined : Mode → ℕ → Block → Counts → Lined
  unlined : Refusal → Lined

-- The line and the counts of the codes that a text draws.
abbrev pub lined_text : Mode → ℕ → Source → List Code → Lined
lined_text y h source codes = lined y h (line_of y h source codes) (counts_of source codes)

-- From a source on.
abbrev pub lined_read : Mode → ℕ → Source → TextReading → Lined
lined_read y h source (draws codes) = lined_text y h source codes
lined_read y h source (refuses r) = unlined r

abbrev pub lined_from : Mode → ℕ → Source → flc.ControlReading → List ℕ → Lined
lined_from y h source control text = lined_read y h source (read_text control text)

abbrev pub lined_by : List ℕ → font.FontReading → flc.ControlReading → List ℕ → Lined
lined_by s (font.refuses r) control text = unlined r
lined_by s (font.says h es) control text = lined_from (mode_of h) h.height (font_source s es) control text

unfoldable pub lined_of : List ℕ → List ℕ → List ℕ → Lined
lined_of s control text = lined_by s (font.reading s) (flc.control control) text

-- "Drawing: 9 for all working areas (scratch under 32,000 bytes included)", before the refusals above.
unfoldable pub draw_lined : ℕ → List ℕ → List ℕ → List ℕ → Lined
draw_lined scratch s control text = cond (ltb scratch min_scratch) (unlined (refusal area_too_small 0)) (lined_of s control text)

-- 5. "The output is each row with hardblanks as blanks, then LF; the answer gives the width." 02, Q-2: and both counts, which a refusal has not.
abbrev pub with_counts : Counts → Result ℕ Refusal → DrawAnswer
with_counts n (Ok w) = Drawn w n
with_counts n (Err r) = Refused r

unfoldable pub lined_answer : Lined → ℕ → DrawAnswer
lined_answer (unlined r) room = Refused r
lined_answer (lined y h l n) room = with_counts n (output_of h l room)

-- The bytes at the start of the output: none after a refusal.
unfoldable pub bytes_of : Lined → ℕ → List ℕ
bytes_of (unlined r) room = []
bytes_of (lined y h l n) room = output_bytes y.hardblank.0 h l room

-- A refusal "fills every lent writable area with zeros. A success fills all room behind its answer, .. with zeros." The answer and the output, of the
-- given room.
pub record PutOut (l : Lined) (room : ℕ) (answer : DrawAnswer) (output : List ℕ) : Type 0 where
  pub answers : answer ≡ lined_answer l room
  pub holds : output ≡ padded (bytes_of l room) room
