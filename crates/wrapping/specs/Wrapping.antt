-- A text drawn in lines that are at most a limit wide: document 02, Q-4. "Given a column limit from 1 to 1,000, break the text at blanks."
-- Assumes nothing.
use Rattle.std.specs.Prelude.{◌≡◌, ℕ, Bool, cond, ◌||◌, List, [], map, ltb, length}
use Rattle.ground.specs.Area.{padded}
use Rattle.ground.specs.Limits.{max_line_width, max_text, min_lines, min_scratch}
use Rattle.ground.specs.Refusals.{refusal, area_too_small, text_too_long, bad_shape, character_too_wide}
use Rattle.ground.specs.declared.refusals.Refusal.{Refusal}
use Rattle.subchars.specs.declared.Mode.{Mode}
use Rattle.blocks.specs.Block.{Block}
use Rattle.font.specs.Font as font
use Rattle.source.specs.declared.Counts.{Counts}
use Rattle.source.specs.Source.{Source, font_source}
use Rattle.source.specs.Counting.{counts_of}
use Rattle.flc.specs.declared.Command.{Command}
use Rattle.flc.specs.Control as flc
use Rattle.drawing.specs.Drawing.{text_codes, mode_of}
use Rattle.wrapping.specs.declared.WrapAnswer.{WrapAnswer}
use Rattle.wrapping.specs.declared.WrapAnswer.TheVariants.{Wrapped, Refused}
use Rattle.breaks.specs.Breaking.{Span, spans_of}
use Rattle.spans.specs.Spans.{line_by, wide_in, drawings, first_wider}

-- What wrapping comes to: the lines, the bytes of their drawings, and the counts of the whole text (02, Q-2); or a refusal.
pub data Wrap : Type 0 where
  wrapped : List Span → List ℕ → Counts → Wrap
  unwrapped : Refusal → Wrap

abbrev pub wrap_lines : Mode → ℕ → (List ℕ → Block) → ℕ → List ℕ → Counts → Wrap
wrap_lines y h line limit text counts =
    let spans = spans_of (wide_in line text) limit text in
    wrapped spans (drawings y.hardblank.0 h line text spans) counts

-- "Then 19 .. with the place in the text of the first such one."
unfoldable pub wrap_text : Mode → ℕ → Source → List Command → ℕ → ℕ → List ℕ → Wrap
wrap_text y h source cs k limit text =
    let p = first_wider source cs k limit text in
    cond (ltb p (length text)) (unwrapped (refusal character_too_wide p)) (wrap_lines y h (line_by y h source cs k) limit text (counts_of source (text_codes cs k text)))

-- "17 for a limit out of range, after 15."
abbrev pub bad_limit : ℕ → Bool
bad_limit limit = ltb limit 1 || ltb max_line_width limit

unfoldable pub wrap_tested : Mode → ℕ → Source → List Command → ℕ → ℕ → List ℕ → Wrap
wrap_tested y h source cs k limit text =
    cond (ltb max_text (length text)) (unwrapped (refusal text_too_long 0))
    (cond (bad_limit limit) (unwrapped (refusal bad_shape 0)) (wrap_text y h source cs k limit text))

-- From a source on: the control file's, and then these; before them the font's.
abbrev pub wrap_from : Mode → ℕ → Source → flc.ControlReading → ℕ → List ℕ → Wrap
wrap_from y h source (flc.refuses r) limit text = unwrapped r
wrap_from y h source (flc.reads cs k) limit text = wrap_tested y h source cs k limit text

abbrev pub wrap_by : List ℕ → font.FontReading → flc.ControlReading → ℕ → List ℕ → Wrap
wrap_by s (font.refuses r) control limit text = unwrapped r
wrap_by s (font.says h es) control limit text = wrap_from (mode_of h) h.height (font_source s es) control limit text

unfoldable pub wrap_of : List ℕ → List ℕ → ℕ → List ℕ → Wrap
wrap_of s control limit text = wrap_by s (font.reading s) (flc.control control) limit text

-- 9 for lists under 1,024 entries and for a scratch under 32,000 bytes, before the refusals above.
unfoldable pub draw_wrapped : ℕ → ℕ → ℕ → List ℕ → List ℕ → ℕ → List ℕ → Wrap
draw_wrapped firstRoom endRoom scratch s control limit text =
    cond (ltb firstRoom min_lines || ltb endRoom min_lines || ltb scratch min_scratch) (unwrapped (refusal area_too_small 0)) (wrap_of s control limit text)

-- 9 for the output, behind them: what it comes to in an output of the given room.
unfoldable pub wrap_in : ℕ → Wrap → Wrap
wrap_in room (unwrapped r) = unwrapped r
wrap_in room (wrapped spans bytes counts) = cond (ltb room (length bytes)) (unwrapped (refusal area_too_small 0)) (wrapped spans bytes counts)

-- The answer: how many lines, and Q-2's two counts of the whole text.
abbrev pub wrap_answer : Wrap → WrapAnswer
wrap_answer (unwrapped r) = Refused r
wrap_answer (wrapped spans bytes counts) = Wrapped (length spans) counts

-- `firsts` and `ends` hold the lines' places, and `out` the drawings one after another; none after a refusal.
abbrev pub wrap_spans : Wrap → List Span
wrap_spans (unwrapped r) = []
wrap_spans (wrapped spans bytes counts) = spans

abbrev pub wrap_bytes : Wrap → List ℕ
wrap_bytes (unwrapped r) = []
wrap_bytes (wrapped spans bytes counts) = bytes

-- Zeros behind: what the lists and the output then hold.
abbrev pub wrap_firsts : Wrap → ℕ → ℕ → List ℕ
wrap_firsts w room firstRoom = padded (map (λ (x : Span). x.first) (wrap_spans (wrap_in room w))) firstRoom

abbrev pub wrap_ends : Wrap → ℕ → ℕ → List ℕ
wrap_ends w room endRoom = padded (map (λ (x : Span). x.behind) (wrap_spans (wrap_in room w))) endRoom

abbrev pub wrap_output : Wrap → ℕ → List ℕ
wrap_output w room = padded (wrap_bytes (wrap_in room w)) room

-- The answer, and all that the lent areas then hold.
pub record WrapOut (w : Wrap) (firstRoom endRoom room : ℕ) (a : WrapAnswer) (firsts ends out : List ℕ) : Type 0 where
  pub answer : a ≡ wrap_answer (wrap_in room w)
  pub listed-firsts : firsts ≡ wrap_firsts w room firstRoom
  pub listed-ends : ends ≡ wrap_ends w room endRoom
  pub output : out ≡ wrap_output w room
