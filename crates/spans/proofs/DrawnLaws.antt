-- Parts of a text drawn as texts of their own: one byte more is one character more, so that a longer part is never narrower; and a single character.
-- Assumes nothing.
use mathlib.Core.Path.{◌≡◌, refl, sym, ap, ◌∙◌, subst}
use mathlib.Core.Bool.{Bool, false, not, ◌&&◌}
use mathlib.Core.List.{List, [], ◌∷◌, ◌++◌}
use Prim.Native.Nat.{ℕ, zero, suc, ◌+◌, ◌-◌, ◌≤◌, ◌<◌}
use native.Mathlib.Omega.{arith}
use lib.Dec.{ltb}
use lib.ListN.{length, take, drop, get_or, length-drop}
use lib.Seq.{take-suc, get_or-drop}
use borrow.Author.Tests.{ltb-false, not-true}
use Rattle.subchars.specs.declared.Mode.{Mode}
use Rattle.blocks.specs.Block.{Block}
use Rattle.blocks.specs.Writing.{Like}
use Rattle.blocks.proofs.Likeness.{like-same, like_trans}
use Rattle.figure.specs.Line.{empty}
use Rattle.showing.specs.Scratch.{scratch_line}
use Rattle.figure.proofs.Turning.{over_le, attached-wide}
use Rattle.figure.proofs.Folding.{attached-like, first-whole}
use Rattle.source.specs.Source.{Choice, found, stood_in, nothing, Source}
use Rattle.flc.specs.declared.Command.{Command}
use Rattle.drawing.specs.Drawing.{byte_choice}
use Rattle.drawing.specs.Steps.{with_character, Reached}
use Rattle.drawing.proofs.DrawingLaws.{one_join_more, empty-line}
use Rattle.spans.specs.Spans.{part, line_by, wide_in, choice_width, too_wide, first_wider}
use Rattle.breaks.specs.Steps.{NoneWider, Grows}
use Rattle.breaks.proofs.Largest.{run_at}

-- Parts of a text.
module _ (s : List ℕ) (b : ℕ) where
  pub part_none : part s b b ≡ []
  part_none = let z : b - b ≡ 0 = omega arith in ap (λ (n : ℕ). take n (drop b s)) z

  pub part_next : (i : ℕ) → b ≤ i → i < length s → part s b (i + 1) ≡ part s b i ++ (get_or s i 0 ∷ [])
  part_next i l m =
      let z : i + 1 - b ≡ suc (i - b) = omega arith in
      let e : b + (i - b) ≡ i = omega arith in
      ap (λ (n : ℕ). take n (drop b s)) z ∙ take-suc (drop b s) (i - b) 0 (omega (arith, length-drop b s)) ∙
      ap (λ (x : ℕ). part s b i ++ (x ∷ [])) (get_or-drop b s (i - b) 0 ∙ ap (λ (j : ℕ). get_or s j 0) e)

-- One character more.
module _ (y : Mode) (h : ℕ) where
  with_wide : (x : Choice) (l : Block) → l.width ≤ (with_character y h x l).width
  with_wide (found c) l = omega (arith, attached-wide y h l c, over_le y h y.direction l c)
  with_wide (stood_in c) l = omega (arith, attached-wide y h l c, over_le y h y.direction l c)
  with_wide nothing l = omega arith

  with_like : (x : Choice) (l m : Block) → Like h l m → Like h (with_character y h x l) (with_character y h x m)
  with_like (found c) l m p = attached-like y h l m c c p (like-same h c)
  with_like (stood_in c) l m p = attached-like y h l m c c p (like-same h c)
  with_like nothing l m p = p

  -- "the first character loses nothing at its edge"
  with_first : (x : Choice) → (with_character y h x empty).width ≡ choice_width x
  with_first (found c) = (first-whole y h c).width
  with_first (stood_in c) = (first-whole y h c).width
  with_first nothing = refl

  module _ (source : Source) (cs : List Command) (k : ℕ) (s : List ℕ) where
    abbrev line : List ℕ → Block
    line = line_by y h source cs k

    abbrev wide : ℕ → ℕ → ℕ
    wide = wide_in line s

    choice_at : ℕ → Choice
    choice_at i = byte_choice source cs k (get_or s i 0)

    line-none : (b : ℕ) → line (part s b b) ≡ empty
    line-none b = ap line (part_none s b) ∙ empty-line source y h cs k

    line_next : (b i : ℕ) → b ≤ i → i < length s → line (part s b (i + 1)) ≡ with_character y h (choice_at i) (line (part s b i))
    unfolding choice_at
    line_next b i l m = ap line (part_next s b i l m) ∙ one_join_more source y h cs k (part s b i) (get_or s i 0)

    -- "the most that fit" is well defined: a longer part is never narrower
    pub part_grows : Grows wide s
    part_grows b e e' l m n = let z : e + (e' - e) ≡ e' = omega arith in subst (λ (j : ℕ). wide b e ≤ wide b j) z (go (e' - e) (omega arith))
      where
        go : (d : ℕ) → e + d ≤ length s → wide b e ≤ wide b (e + d)
        go zero u = let z : e + 0 ≡ e = omega arith in subst (λ (j : ℕ). wide b e ≤ wide b j) (sym z) (omega arith)
        go (suc d) u =
            let z : e + suc d ≡ e + d + 1 = omega arith in
            subst (λ (j : ℕ). wide b e ≤ wide b j) (sym z)
            (omega (arith, go d (omega arith), with_wide (choice_at (e + d)) (line (part s b (e + d))), ap (λ (x : Block). x.width) (line_next b (e + d) (omega arith) (omega arith))))

    -- a single character is as wide as it is drawn
    pub one-wide : (p : ℕ) → p < length s → wide p (p + 1) ≡ choice_width (byte_choice source cs k (get_or s p 0))
    unfolding choice_at
    one-wide p l = ap (λ (x : Block). x.width) (line_next p p (omega arith) l ∙ ap (with_character y h (choice_at p)) (line-none p)) ∙ with_first (choice_at p)

    -- 19 is not given: no byte of a word alone is wider than the limit
    pub none-wider : (limit : ℕ) → length s ≤ first_wider source cs k limit s → NoneWider wide limit s
    unfolding first_wider
    none-wider limit l p m t =
        let x = byte_choice source cs k (get_or s p 0) in
        let u = not-true (too_wide limit (get_or s p 0) x) (run_at (λ z. not (too_wide limit z (byte_choice source cs k z))) s p (omega arith)) in
        let v : ltb limit (choice_width x) ≡ false = sym (ap (λ (q : Bool). q && ltb limit (choice_width x)) t) ∙ u in
        omega (arith, ltb-false limit (choice_width x) v, one-wide p m)

    -- A line that is drawn byte by byte: the area holds the text from b to before i.
    module _ (b limit : ℕ) where
      abbrev pub HeldTo : List ℕ → ℕ → ℕ → Type 0
      HeldTo area n i = Like h (scratch_line y.direction n area) (line (part s b i))

      pub held_none : (area : List ℕ) → HeldTo area 0 b
      held_none area = subst (λ (x : Block). Like h (scratch_line y.direction 0 area) x) (sym (line-none b)) (record { width = refl; cells = λ r j u v. absurd (omega arith) })

      module _ (area : List ℕ) (n i : ℕ) (held : HeldTo area n i) (l : b ≤ i) (u : i < length s)
          (area' : List ℕ) (m : ℕ) (x : Reached y h limit m area' (with_character y h (byte_choice source cs k (get_or s i 0)) (scratch_line y.direction n area))) where
        abbrev longer : Block
        longer = with_character y h (byte_choice source cs k (get_or s i 0)) (scratch_line y.direction n area)

        with_next_lem : Like h longer (line (part s b (i + 1)))
        unfolding choice_at
        with_next_lem = subst (λ (z : Block). Like h longer z) (sym (line_next b i l u)) (with_like (byte_choice source cs k (get_or s i 0)) _ _ held)

        pub held_next : m ≤ limit → HeldTo area' m (i + 1)
        held_next v = like_trans h _ _ _ (x.within v) with_next_lem

        pub held-beyond : limit < m → limit < wide b (i + 1)
        held-beyond v = omega (arith, x.beyond v, with_next_lem.width)
