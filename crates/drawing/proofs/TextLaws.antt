-- A text drawn byte after byte is the line of the text, and what is missing is counted: what is left to do leads to the same.
-- Assumes nothing.
use mathlib.Core.Path.{◌≡◌, refl, sym, ap, ◌∙◌, subst}
use Prim.Native.Nat.{ℕ, ◌+◌, ◌≤◌, ◌<◌}
use mathlib.Core.List.{List, []}
use native.Mathlib.Omega.{arith}
use native.Mathlib.Nat.{zero-add}
use native.Mathlib.Numerals.{add-one}
use lib.ListN.{length, drop, get_or, drop_of_length-le}
use lib.Seq.{drop-cons}
use Rattle.subchars.specs.declared.Mode.{Mode}
use Rattle.blocks.specs.Block.{Block}
use Rattle.blocks.proofs.Likeness.{like_trans}
use Rattle.blocks.specs.Writing.{Like}
use Rattle.figure.specs.Line.{empty, line_from}
use Rattle.showing.specs.Scratch.{scratch_line}
use Rattle.figure.proofs.Folding.{from_like, grows}
use Rattle.source.specs.Source.{Choice, found, stood_in, nothing, Source}
use Rattle.source.specs.Counting.{is_missing, one, how_many}
use Rattle.source.proofs.CountLaws.{few-missing}
use Rattle.flc.specs.declared.Command.{Command}
use Rattle.drawing.specs.Drawing.{codes_of, mapped_codes, text_codes, with_choice, characters_of, byte_choice, line_of}
use Rattle.drawing.specs.Steps.{with_character, Reached}

module _ (y : Mode) (h : ℕ) (source : Source) where
  one_more : (x : Choice) (rest : List Block) (l : Block) → line_from y h l (with_choice x rest) ≡ line_from y h (with_character y h x l) rest
  unfolding line_from
  one_more (found c) rest l = refl
  one_more (stood_in c) rest l = refl
  one_more nothing rest l = refl

  module _ (cs : List Command) (k : ℕ) (text : List ℕ) where
    abbrev whole : Block
    whole = line_of y h source (text_codes cs k text)

    -- what the text draws from its i-th byte on
    abbrev rest_from : ℕ → List Block
    rest_from i = characters_of source (text_codes cs k (drop i text))

    -- the line n wide in the area, with what the text has from its i-th byte on, is the line of the text
    abbrev pub Toward : List ℕ → ℕ → ℕ → Type 0
    Toward area n i = Like h (line_from y h (scratch_line y.direction n area) (rest_from i)) whole

    pub toward_first : (area : List ℕ) → Toward area 0 0
    unfolding line_of
    toward_first area = from_like y h (scratch_line y.direction 0 area) empty (rest_from 0) (record { width = refl; cells = λ r j u v. absurd (omega arith) })

    -- one byte more
    choice_at : ℕ → Choice
    choice_at i = byte_choice source cs k (get_or text i 0)

    rest_next : (i : ℕ) → i < length text → rest_from i ≡ with_choice (choice_at i) (rest_from (i + 1))
    unfolding codes_of mapped_codes characters_of choice_at
    rest_next i u = ap (λ (t : List ℕ). characters_of source (text_codes cs k t)) (drop-cons text i 0 u) ∙ ap (λ (j : ℕ). with_choice (choice_at i) (rest_from j)) (sym (add-one i))

    pub rest_more : (i : ℕ) → i < length text → rest_from i ≡ with_choice (byte_choice source cs k (get_or text i 0)) (rest_from (i + 1))
    unfolding choice_at
    rest_more i u = rest_next i u

    module _ (limit : ℕ) (area : List ℕ) (n i : ℕ) (toward : Toward area n i) where
      abbrev line : Block
      line = scratch_line y.direction n area

      pub toward_end : length text ≤ i → n ≤ limit → Reached y h limit n area whole
      unfolding codes_of mapped_codes characters_of line_from
      toward_end u v =
          let e : drop i text ≡ [] = drop_of_length-le text u in
          record {
            within = λ w. subst (λ (t : List ℕ). Like h (line_from y h line (characters_of source (text_codes cs k t))) whole) e toward;
            beyond = λ w. absurd (omega arith);
          }

      module _ (u : i < length text) where
        abbrev longer : Block
        longer = with_character y h (byte_choice source cs k (get_or text i 0)) line

        step : Like h (line_from y h longer (rest_from (i + 1))) whole
        unfolding choice_at
        step = subst (λ (x : Block). Like h x whole) (ap (line_from y h line) (rest_next i u) ∙ one_more (byte_choice source cs k (get_or text i 0)) (rest_from (i + 1)) line) toward

        module _ (area' : List ℕ) (m : ℕ) (x : Reached y h limit m area' longer) where
          pub toward_next : m ≤ limit → Toward area' m (i + 1)
          toward_next v = like_trans h _ _ _ (from_like y h (scratch_line y.direction m area') longer (rest_from (i + 1)) (x.within v)) step

          pub toward_beyond : limit < m → Reached y h limit m area' whole
          toward_beyond v =
              record {
                within = λ w. absurd (omega arith);
                beyond = λ w. omega (arith, x.beyond v, grows y h longer (rest_from (i + 1)), step.width);
              }

-- The codes that are missing, with those of the text from its i-th byte on, are those of the text.
module _ (source : Source) (cs : List Command) (k : ℕ) (text : List ℕ) where
  abbrev missing_from : ℕ → ℕ
  missing_from i = how_many is_missing source (text_codes cs k (drop i text))

  abbrev missing-all : ℕ
  missing-all = how_many is_missing source (text_codes cs k text)

  pub record Counted (m i : ℕ) : Type 0 where
    pub whole : m + missing_from i ≡ missing-all

  pub counted-first : Counted 0 0
  counted-first = record { whole = zero-add _ }

  module _ (m i : ℕ) (so : Counted m i) where
    -- there are never more than the text has codes
    pub counted-few : m ≤ length (text_codes cs k text)
    counted-few = omega (arith, so.whole, few-missing source (text_codes cs k text))

    pub counted-end : length text ≤ i → m ≡ missing-all
    unfolding codes_of mapped_codes how_many
    counted-end u =
        let e : drop i text ≡ [] = drop_of_length-le text u in
        let a : m + 0 ≡ missing-all = subst (λ (t : List ℕ). m + how_many is_missing source (text_codes cs k t) ≡ missing-all) e so.whole in
        omega (arith, a)

    -- one byte more
    module _ (u : i < length text) where
      abbrev one_here : ℕ
      one_here = one (is_missing (byte_choice source cs k (get_or text i 0)))

      from_next : missing_from i ≡ one_here + missing_from (i + 1)
      unfolding codes_of mapped_codes how_many
      from_next = ap (λ (t : List ℕ). how_many is_missing source (text_codes cs k t)) (drop-cons text i 0 u) ∙ ap (λ (j : ℕ). one_here + missing_from j) (sym (add-one i))

      pub counted_next : (n : ℕ) → n ≡ m + one_here → Counted n (i + 1)
      counted_next n e = record { whole = omega (arith, e, so.whole, from_next) }
