-- What the definition of drawing comes to: each byte more is one join more and one code counted more, the width by the trace, and the empty text.
-- Assumes nothing.
use mathlib.Core.Path.{◌≡◌, refl, ap, ◌∙◌}
use mathlib.Core.List.{List, [], ◌∷◌, ◌++◌, map}
use Prim.Native.Nat.{ℕ, zero, suc, ◌+◌}
use native.Mathlib.Omega.{arith}
use native.Mathlib.Nat.{zero-add}
use lib.IntN.{pos}
use lib.ListN.{length, length-map, replicate}
use Rattle.ground.specs.Area.{values}
use Rattle.ground.specs.Text.{byte}
use Rattle.subchars.specs.declared.Code.{Code}
use Rattle.subchars.specs.declared.Mode.{Mode}
use Rattle.blocks.specs.Block.{Block, rows_of}
use Rattle.figure.specs.Line.{attached, empty, line_from, overlaps_from}
use Rattle.showing.specs.Output.{shown}
use Rattle.figure.proofs.Turning.{over_le, attached-wide}
use Rattle.chars.specs.Codes.{code}
use Rattle.source.specs.Source.{Choice, found, stood_in, nothing, Source}
use Rattle.source.specs.Counting.{is_nothing, one, how_many, counts_of, counted}
use Rattle.source.proofs.CountLaws.{counts-more}
use Rattle.flc.specs.declared.Command.{Command}
use Rattle.mapping.specs.Mapping.{map_stages}
use Rattle.drawing.specs.Drawing.{codes_of, mapped_codes, text_codes, with_choice, characters_of, byte_choice, line_of, trace_of}
use Rattle.drawing.specs.Steps.{with_character}

-- Joining in turn goes on from what was joined.
from_append : (y : Mode) (h : ℕ) (l : Block) (xs ys : List Block) → line_from y h l (xs ++ ys) ≡ line_from y h (line_from y h l xs) ys
unfolding line_from
from_append y h l [] ys = refl
from_append y h l (x ∷ xs) ys = from_append y h (attached y h l x) xs ys

-- A text has a code for each byte.
module _ (cs : List Command) (k : ℕ) where
  codes_append : (t u : List ℕ) → text_codes cs k (t ++ u) ≡ text_codes cs k t ++ text_codes cs k u
  unfolding codes_of mapped_codes
  codes_append [] u = refl
  codes_append (b ∷ t) u = ap (λ (l : List Code). map_stages cs 0 k (code (pos b)) ∷ l) (codes_append t u)

  pub as_many : (text : List ℕ) → length (text_codes cs k text) ≡ length text
  unfolding codes_of mapped_codes
  as_many text = length-map (codes_of text) (map_stages cs 0 k) ∙ length-map text (λ b. code (pos b))

module _ (source : Source) where
  with_append : (x : Choice) (xs ys : List Block) → with_choice x (xs ++ ys) ≡ with_choice x xs ++ ys
  with_append (found c) xs ys = refl
  with_append (stood_in c) xs ys = refl
  with_append nothing xs ys = refl

  characters-append : (ds cs : List Code) → characters_of source (ds ++ cs) ≡ characters_of source ds ++ characters_of source cs
  unfolding characters_of
  characters-append [] cs = refl
  characters-append (d ∷ ds) cs = ap (with_choice (source d)) (characters-append ds cs) ∙ with_append (source d) (characters_of source ds) (characters_of source cs)

  -- "The number of characters drawn, plus those that drew nothing, is the number of" codes
  drawn_or_nothing : (x : Choice) (cs : List Block) → length (with_choice x cs) + one (is_nothing x) ≡ 1 + length cs
  drawn_or_nothing (found c) cs = omega arith
  drawn_or_nothing (stood_in c) cs = omega arith
  drawn_or_nothing nothing cs = omega arith

  pub characters_drawn : (codes : List Code) → length (characters_of source codes) + (counts_of source codes).nothing_drawn ≡ length codes
  unfolding characters_of counts_of how_many
  characters_drawn [] = refl
  characters_drawn (c ∷ cs) = omega (arith, drawn_or_nothing (source c) (characters_of source cs), characters_drawn cs)

  module _ (y : Mode) (h : ℕ) where
    -- a code more at the end is one character more at the line, or none
    pub one_code_more : (codes : List Code) (c : Code) → line_of y h source (codes ++ (c ∷ [])) ≡ with_character y h (source c) (line_of y h source codes)
    unfolding line_of characters_of line_from
    one_code_more codes c =
        ap (line_from y h empty) (characters-append codes (c ∷ [])) ∙ from_append y h empty (characters_of source codes) (characters_of source (c ∷ [])) ∙ last (source c)
      where
        last : (x : Choice) → line_from y h (line_from y h empty (characters_of source codes)) (with_choice x []) ≡ with_character y h x (line_from y h empty (characters_of source codes))
        last (found z) = refl
        last (stood_in z) = refl
        last nothing = refl

    module _ (cs : List Command) (k : ℕ) where
      -- a byte more at the end of a text is one character more at the line, or none
      pub one_join_more : (text : List ℕ) (b : ℕ) → line_of y h source (text_codes cs k (text ++ (b ∷ []))) ≡ with_character y h (byte_choice source cs k b) (line_of y h source (text_codes cs k text))
      unfolding codes_of mapped_codes
      one_join_more text b = ap (line_of y h source) (codes_append cs k text (b ∷ [])) ∙ one_code_more (text_codes cs k text) (map_stages cs 0 k (code (pos b)))

      -- a text without bytes is an empty line
      pub empty-line : line_of y h source (text_codes cs k []) ≡ empty
      unfolding line_of codes_of mapped_codes characters_of line_from
      empty-line = refl

-- The counts of a text and of one byte more.
module _ (source : Source) (cs : List Command) (k : ℕ) where
  pub one_byte_counted : (text : List ℕ) (b : ℕ) → counts_of source (text_codes cs k (text ++ (b ∷ []))) ≡ counted (byte_choice source cs k b) (counts_of source (text_codes cs k text))
  unfolding codes_of mapped_codes
  one_byte_counted text b = ap (counts_of source) (codes_append cs k text (b ∷ [])) ∙ counts-more source (text_codes cs k text) (map_stages cs 0 k (code (pos b)))

  -- "The number of characters drawn, plus those that drew nothing, is the number of text bytes."
  pub all-bytes : (text : List ℕ) → length (characters_of source (text_codes cs k text)) + (counts_of source (text_codes cs k text)).nothing_drawn ≡ length text
  all-bytes text = characters_drawn source (text_codes cs k text) ∙ as_many cs k text

-- "Empty text gives Height LFs."
snoc : (n x : ℕ) → replicate n x ++ (x ∷ []) ≡ x ∷ replicate n x
snoc zero x = refl
snoc (suc n) x = ap (λ (l : List ℕ). x ∷ l) (snoc n x)

pub empty-shown : (hardblank h : ℕ) → shown hardblank h empty ≡ replicate h (byte "\n")
unfolding shown rows_of values
empty-shown hardblank zero = refl
empty-shown hardblank (suc h) = ap (λ (l : List ℕ). l ++ (10 ∷ [])) (empty-shown hardblank h) ∙ snoc h 10

-- The trace: the widths of the characters are the width of the line and the overlaps.
unfoldable pub sum : List ℕ → ℕ
sum [] = 0
sum (n ∷ ns) = n + sum ns

unfoldable pub widths : List Block → List ℕ
widths fs = map (λ (f : Block). f.width) fs

from_wide : (y : Mode) (h : ℕ) (l : Block) (fs : List Block) → (line_from y h l fs).width + sum (overlaps_from y h l fs) ≡ l.width + sum (widths fs)
unfolding line_from overlaps_from sum widths
from_wide y h l [] = refl
from_wide y h l (f ∷ fs) =
    omega (arith, from_wide y h (attached y h l f) fs, attached-wide y h l f, over_le y h y.direction l f)

pub trace-wide : (y : Mode) (h : ℕ) (source : Source) (codes : List Code) →
    (line_of y h source codes).width + sum (trace_of y h source codes).overlaps ≡ sum (widths (trace_of y h source codes).characters)
unfolding line_of trace_of
trace-wide y h source codes = from_wide y h empty (characters_of source codes) ∙ zero-add _
