-- How the lines of a text are found and put out, one after another: what the functions inside know of each other.
-- Assumes nothing.
use Rattle.std.specs.Prelude.{◌≡◌, ℕ, ◌+◌, ◌*◌, ◌<◌, ◌≤◌, true, false, List, ◌++◌, map, ℤ, length, take}
use Rattle.subchars.specs.declared.Mode.{Mode}
use Rattle.blocks.specs.Block.{Block}
use Rattle.blocks.specs.Writing.{Like}
use Rattle.showing.specs.Output.{shown}
use Rattle.showing.specs.Scratch.{scratch_line}
use Rattle.source.specs.Source.{Source}
use Rattle.source.specs.declared.Origin.TheVariants.{Font}
use Rattle.source.specs.Held.{Gives}
use Rattle.source.specs.Counting.{is_missing, how_many}
use Rattle.flc.specs.declared.Command.{Command}
use Rattle.mapping.specs.Passing.{ControlHeld}
use Rattle.drawing.specs.Drawing.{text_codes}
use Rattle.spans.specs.declared.Drawer.{Drawer}
use Rattle.spans.specs.declared.Measured.{Measured}
use Rattle.spans.specs.declared.Kept.{Kept}
use Rattle.spans.specs.declared.Sought.{Sought}
use Rattle.spans.specs.declared.DrawnSpan.{DrawnSpan}
use Rattle.spans.specs.declared.LinesPut.{LinesPut}
use Rattle.spans.specs.declared.LinesPut.TheVariants.{Put, NoRoom}
use Rattle.breaks.specs.Breaking.{Span, span_end}
use Rattle.spans.specs.Spans.{part, wide_in, first_wider}

-- The bytes and the lists by which texts are drawn: they give the characters of a source and hold the commands of a control file.
pub record DrawsBy (d : Drawer) (font : List ℕ) (codes : List ℤ) (starts widths places stages : List ℕ) (firsts lasts news : List ℤ) : Type 0 where
  pub source : Source
  pub given : Gives source font font d.height (Font d.count) codes starts widths places
  pub control : List ℕ
  pub held : ControlHeld control d.commands stages firsts lasts news

-- Each byte of a text was looked up: where the first stands that is too wide, and the counts of the text where there is none.
pub record MeasuredAs (source : Source) (cs : List Command) (k limit : ℕ) (text : List ℕ) (m : Measured) : Type 0 where
  pub place : m.place ≡ first_wider source cs k limit text
  pub missing : length text ≤ m.place → m.missing ≡ how_many is_missing source (text_codes cs k text)

-- A line w wide stands in the output from a place on.
pub record LineStands (y : Mode) (h : ℕ) (drawn : Block) (w at : ℕ) (out : List ℕ) : Type 0 where
  pub width : w ≡ drawn.width
  pub bytes : take (at + h * (w + 1)) out ≡ take at out ++ shown y.hardblank.0 h drawn

-- What was kept of the line that starts at b stands in the output; `line e` is the drawing from b to before e.
abbrev pub KeptAs : Mode → ℕ → (ℕ → Block) → ℕ → ℕ → Kept → List ℕ → Type 0
KeptAs y h line b at k out = b < k.end → LineStands y h (line k.end) k.width at out

-- A line was sought from b on: where it ends; the scratch area holds the text from b as far as it was drawn, and what was kept of the line stands in the output.
pub record SoughtFrom (y : Mode) (h : ℕ) (line : List ℕ → Block) (limit : ℕ) (s : List ℕ) (b at : ℕ) (d : Sought) (area out : List ℕ) : Type 0 where
  pub end : d.end ≡ span_end (wide_in line s) limit s b
  pub held : Like h (scratch_line y.direction d.width area) (line (part s b d.at))
  pub kept : KeptAs y h (λ e. line (part s b e)) b at d.kept out

-- A line that was drawn: the scratch area holds it, or it stands in the output.
pub record Ready (y : Mode) (h : ℕ) (drawn : Block) (d : DrawnSpan) (at : ℕ) (area out : List ℕ) : Type 0 where
  pub width : d.width ≡ drawn.width
  pub held : d.put ≡ false → Like h (scratch_line y.direction d.width area) drawn
  pub stands : d.put ≡ true → LineStands y h drawn d.width at out

-- The line that starts at b was drawn: where it ends, and where it is.
pub record SpanDrawn (y : Mode) (h : ℕ) (line : List ℕ → Block) (limit : ℕ) (s : List ℕ) (b at : ℕ) (d : DrawnSpan) (area out : List ℕ) : Type 0 where
  pub end : d.end ≡ span_end (wide_in line s) limit s b
  pub ready : Ready y h (line (part s b d.end)) d at area out

-- Lines that were put: n of them, whose drawings have m bytes, are at the start of the lists and of the output.
pub record PutSo (spans : List Span) (bytes : List ℕ) (n m : ℕ) (firsts ends out : List ℕ) : Type 0 where
  pub many : n ≡ length spans
  pub size : m ≡ length bytes
  pub firsts_are : take n firsts ≡ map (λ (x : Span). x.first) spans
  pub ends_are : take n ends ≡ map (λ (x : Span). x.behind) spans
  pub bytes_are : take m out ≡ bytes

-- All lines were put, with the drawings that they have; or the output's room is too small for these.
abbrev pub PutAs : List Span → (List Span → List ℕ) → ℕ → LinesPut → List ℕ → List ℕ → List ℕ → Type 0
PutAs spans drawn room (Put n m) firsts ends out = PutSo spans (drawn spans) n m firsts ends out
PutAs spans drawn room NoRoom firsts ends out = room < length (drawn spans)
