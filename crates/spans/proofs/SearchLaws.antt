-- The search for a line's end, byte by byte: as far as the text fits, and back to where a word ended last.
-- Assumes nothing.
use mathlib.Core.Path.{◌≡◌, refl, sym, ◌∙◌, ap, subst}
use mathlib.Core.Bool.{Bool, true, false, cond}
use mathlib.Core.List.{List}
use Prim.Native.Nat.{ℕ, suc, ◌+◌, ◌-◌, ◌≤◌, ◌<◌}
use native.Mathlib.Omega.{arith}
use native.Mathlib.Decide.{dec_lt, dec_le}
use lib.Dec.{eqb}
use lib.ListN.{length}
use borrow.Author.Tests.{eq-eqb, ne_eqb}
use Rattle.subchars.specs.declared.Mode.{Mode}
use Rattle.blocks.specs.Block.{Block}
use Rattle.blocks.specs.Writing.{Like}
use Rattle.showing.specs.Scratch.{scratch_line}
use Rattle.spans.specs.declared.Kept.{Kept}
use Rattle.spans.specs.declared.Sought.{Sought}
use Rattle.breaks.specs.Words.{in_word, word_behind, ends_word}
use Rattle.breaks.specs.Breaking.{largest, span_end}
use Rattle.spans.specs.Spans.{part, wide_in}
use Rattle.breaks.specs.Steps.{Grows, Opens, last_behind}
use Rattle.spans.specs.Steps.{KeptAs, SoughtFrom}
use Rattle.breaks.proofs.Largest.{largest_le, largest-holds, largest-max, largest_next}
use Rattle.breaks.proofs.WordLaws.{run-one, word_ends, behind-ends, behind-all}
use Rattle.breaks.proofs.BreakingLaws.{WordsFit, Line, line-is}

-- The search has come from b to e, and `last` is where a word ended last (b where none has).
module _ (s : List ℕ) (b : ℕ) where
  abbrev ending : ℕ → Bool
  ending k = ends_word s (b + k)

  pub record Scanned (e last : ℕ) : Type 0 where
    pub low : b ≤ e
    pub high : e ≤ length s
    pub words : last ≡ b + largest ending (e - b)

  pub scan_none : b ≤ length s → Scanned b b
  unfolding largest
  scan_none h = let z : b - b ≡ 0 = omega arith in record { low = omega arith; high = h; words = rw z (omega arith) }

  -- the last end lies between
  pub scan_between : (e last : ℕ) → Scanned e last → (b ≤ last) × (last ≤ e)
  scan_between e last c = let m = largest_le ending (e - b) in let l = c.low in (omega (arith, c.words), omega (arith, c.words))

  module _ (e last : ℕ) (c : Scanned e last) (h : e < length s) where
    place : b + suc (e - b) ≡ e + 1
    place = let l = c.low in omega arith

    longer : e + 1 - b ≡ suc (e - b)
    longer = let l = c.low in omega arith

    most_next : (t : Bool) → ends_word s (e + 1) ≡ t → b + largest ending (e + 1 - b) ≡ b + cond t (suc (e - b)) (largest ending (e - b))
    most_next t q = ap (λ (n : ℕ). b + n) (ap (largest ending) longer ∙ largest_next ending (e - b) t (ap (ends_word s) place ∙ q))

    pub scan_next : (r : ℕ) → r ≡ cond (ends_word s (e + 1)) (e + 1) last → Scanned (e + 1) r
    scan_next r q = let l = c.low in record { low = omega arith; high = omega arith; words = q ∙ go (ends_word s (e + 1)) refl }
      where
        go : (t : Bool) → ends_word s (e + 1) ≡ t → cond t (e + 1) last ≡ b + largest ending (e + 1 - b)
        go true t = let l = c.low in omega (arith, most_next true t)
        go false t = let l = c.low in omega (arith, most_next false t, c.words)

module _ (wide : ℕ → ℕ → ℕ) (limit : ℕ) (s : List ℕ) (grows : Grows wide s) (b : ℕ) (opens : Opens wide limit s b) (e last : ℕ) (c : Scanned s b e last) (narrow : wide b e ≤ limit) where
  abbrev end : ℕ
  end = span_end wide limit s b

  abbrev L : ℕ
  L = largest (ending s b) (e - b)

  line : Line wide limit s b end
  line = line-is wide limit s b opens.within opens.first opens.one

  -- a word that ends by e counts
  counted : (f : ℕ) → b < f → f ≤ e → ends_word s f ≡ true → f - b ≤ L
  counted f u w t = let z : b + (f - b) ≡ f = omega arith in largest-max (ending s b) (e - b) (f - b) (omega arith) (omega arith) (ap (ends_word s) z ∙ t)

  -- Where a word has ended and no further one fits, the line ends with the last.
  module _ (none : (f : ℕ) → e < f → f ≤ length s → ends_word s f ≡ true → wide b f ≤ limit → ⊥) where
    by_words_lem : 0 < L → end ≡ b + L
    by_words_lem l =
        let m = largest_le (ending s b) (e - b) in
        let low = c.low in
        let high = c.high in
        let f : WordsFit wide limit s b (b + L) =
        record { behind = omega arith; within = omega arith; ends = largest-holds (ending s b) (e - b) l; narrow = omega (arith, narrow, grows b (b + L) e (omega arith) (omega arith) high) } in
        let q = line.most_words (b + L) f in
        let u : end ≤ e = elim (dec_le end e) [ yes p ↦ p | no g ↦ absurd (none end (omega arith) line.within q.0 line.narrow) ] in
        omega (arith, q.1, line.longer, counted end line.longer u q.0)

    pub found_word : 0 < L → cond (eqb last b) e last ≡ end
    found_word l = ap (λ (t : Bool). cond t e last) (ne_eqb last b (λ z. omega (arith, c.words))) ∙ c.words ∙ sym (by_words_lem l)

  -- The next byte does not fit.
  module _ (h : e < length s) (over : limit < wide b (e + 1)) where
    no_further : (f : ℕ) → f ≤ length s → wide b f ≤ limit → f ≤ e
    no_further f w n =
        let low = c.low in
        elim (dec_le f e) [
          | yes p ↦ p
          | no g ↦ absurd (omega (arith, over, n, grows b (e + 1) f (omega arith) (omega arith) w))
        ]

    begun : b < e
    begun =
        let low = c.low in
        elim (dec_lt b e) [
          | yes p ↦ p
          | no g ↦ let z : e + 1 ≡ b + 1 = omega arith in absurd (omega (arith, over, opens.one, ap (wide b) z))
        ]

    by-characters : L ≡ 0 → end ≡ e
    by-characters z =
        let first = run-one s in_word b opens.within opens.first in
        let q = line.most_characters (λ f w. omega (arith, w.behind, counted f w.behind (no_further f w.within w.narrow) w.ends, z)) in
        let far : e ≤ word_behind s b =
        elim (dec_le e (word_behind s b)) [
          | yes p ↦ p
          | no g ↦ absurd (omega (arith, counted (word_behind s b) first (omega arith) (word_ends s b opens.within opens.first), first, z))
        ] in
        omega (arith, q.1 e begun far narrow, no_further end line.within line.narrow)

    pub found-beyond : cond (eqb last b) e last ≡ end
    found-beyond =
        elim (dec_lt 0 L) [
          | yes l ↦ found_word (λ f u w t n. omega (arith, u, no_further f w n)) l
          | no g ↦ let z : L ≡ 0 = omega arith in ap (λ (t : Bool). cond t e last) (eq-eqb last b (omega (arith, c.words))) ∙ sym (by-characters z)
        ]

  -- The last word has ended.
  module _ (at : last_behind s ≤ e) (later : b < last_behind s) where
    pub found-last : cond (eqb last b) e last ≡ end
    found-last =
        let z = behind-ends s (omega arith) in
        found_word (λ f u w t n. omega (arith, at, u, behind-all s f (omega arith) w t)) (omega (arith, counted (last_behind s) later at z))

-- What the search tells: how far the text was drawn, and where the line ends.
module _ (s : List ℕ) (b e last n : ℕ) (kept : Kept) (d : Sought) (told : d ≡ record { end = cond (eqb last b) e last; at = e; width = n; kept = kept }) where
  pub sought_between : Scanned s b e last → (limit : ℕ) → n ≤ limit → (b ≤ d.end) × (d.end ≤ d.at) × (d.at ≤ length s) × (d.width ≤ limit)
  sought_between c limit l =
      let w = scan_between s b e last c in
      let t = ends (eqb last b) c.low w.0 w.1 in
      let x = ap (λ (q : Sought). q.end) told in
      let y = ap (λ (q : Sought). q.at) told in
      let z = ap (λ (q : Sought). q.width) told in
      (omega (arith, t.0, x), omega (arith, t.1, x, y), omega (arith, c.high, y), omega (arith, l, z))
    where
      ends : (t : Bool) → b ≤ e → b ≤ last → last ≤ e → (b ≤ cond t e last) × (cond t e last ≤ e)
      ends true u v w = (u, omega arith)
      ends false u v w = (v, w)

  pub sought_so : (y : Mode) (h : ℕ) (line : List ℕ → Block) (limit at : ℕ) (area out : List ℕ) → cond (eqb last b) e last ≡ span_end (wide_in line s) limit s b → Like h (scratch_line y.direction n area) (line (part s b e)) → KeptAs y h (λ j. line (part s b j)) b at kept out → SoughtFrom y h line limit s b at d area out
  sought_so y h line limit at area out q held stands =
      record {
        end = ap (λ (z : Sought). z.end) told ∙ q;
        held = subst (λ (z : Sought). Like h (scratch_line y.direction z.width area) (line (part s b z.at))) (sym told) held;
        kept = subst (λ (z : Sought). KeptAs y h (λ j. line (part s b j)) b at z.kept out) (sym told) stands;
      }
