-- Lines put out one after another: what is listed and put out so far, with the lines from a place on, is all of the text.
-- Assumes nothing.
use mathlib.Core.Path.{◌≡◌, refl, sym, ap, ◌∙◌, subst}
use mathlib.Core.List.{List, [], ◌∷◌, ◌++◌, append_assoc, append-nil}
use Prim.Native.Nat.{ℕ, ◌+◌, ◌-◌, ◌*◌, ◌≤◌, ◌<◌}
use native.Mathlib.Omega.{arith}
use lib.ListN.{length, take, set, length-append}
use Rattle.ground.proofs.Areas.{map_more}
use Rattle.blocks.specs.Block.{Block}
use Rattle.showing.specs.Output.{shown}
use Rattle.showing.proofs.Showing.{length-shown}
use Rattle.breaks.specs.Words.{word_from}
use Rattle.breaks.specs.Breaking.{Span, span, span_end, spans_from, spans_of}
use Rattle.spans.specs.Spans.{part, wide_in, drawings}
use Rattle.breaks.specs.Steps.{NoneWider, last_behind, Opens}
use Rattle.spans.specs.Steps.{PutSo}
use Rattle.breaks.proofs.WordLaws.{start_in_word, behind_le, word_before, word_none}
use Rattle.breaks.proofs.BreakingLaws.{from_some, from_none}

module _ (hardblank h : ℕ) (line : List ℕ → Block) (s : List ℕ) where
  abbrev drawn : List Span → List ℕ
  drawn = drawings hardblank h line s

  -- "the drawings of the lines follow one another"
  pub drawings-append : (xs ys : List Span) → drawn (xs ++ ys) ≡ drawn xs ++ drawn ys
  unfolding drawings
  drawings-append [] ys = refl
  drawings-append (x ∷ xs) ys =
      let a = shown hardblank h (line (part s x.first x.behind)) in
      ap (λ (l : List ℕ). a ++ l) (drawings-append xs ys) ∙ sym (append_assoc a (drawn xs) (drawn ys))

  pub drawings-one : (x : Span) → drawn (x ∷ []) ≡ shown hardblank h (line (part s x.first x.behind))
  unfolding drawings
  drawings-one x = append-nil _

  module _ (limit : ℕ) where
    abbrev wide : ℕ → ℕ → ℕ
    wide = wide_in line s

    -- the lines before p are put, n of them, in m bytes
    pub record PutTo (p n m : ℕ) (firsts ends out : List ℕ) : Type 0 where
      pub done : List Span
      pub split : spans_of wide limit s ≡ done ++ spans_from wide limit s p
      pub held : PutSo done (drawn done) n m firsts ends out

    pub put_none : (firsts ends out : List ℕ) → PutTo 0 0 0 firsts ends out
    unfolding drawings
    put_none firsts ends out =
        record { done = []; split = refl; held = record { many = refl; size = refl; firsts_are = refl; ends_are = refl; bytes_are = refl } }

    module _ (none-wider : NoneWider wide limit s) (p : ℕ) where
      -- a line starts where the next word does
      pub opens_at : p < last_behind s → (b : ℕ) → b ≡ word_from s p → Opens wide limit s b
      opens_at u b is =
          let l : word_from s p < length s = omega (arith, word_before s p u, behind_le s) in
          let v = start_in_word s p l in
          subst (λ (j : ℕ). Opens wide limit s j) (sym is) (record { within = l; first = v; one = none-wider (word_from s p) l v })

      module _ (n m : ℕ) (firsts ends out : List ℕ) (so : PutTo p n m firsts ends out) where
        pub put_end : last_behind s ≤ p → PutSo (spans_of wide limit s) (drawn (spans_of wide limit s)) n m firsts ends out
        put_end u =
            let e = so.split ∙ ap (λ (l : List Span). so.done ++ l) (from_none wide limit s none-wider p (word_none s p u)) ∙ append-nil so.done in
            subst (λ (l : List Span). PutSo l (drawn l) n m firsts ends out) (sym e) so.held

        module _ (u : p < last_behind s) (b e w : ℕ) (is_b : b ≡ word_from s p) (is-e : e ≡ span_end wide limit s b) (is-w : w ≡ wide b e) where
          abbrev new : List ℕ
          new = shown hardblank h (line (part s b e))

          rest : spans_from wide limit s p ≡ span b e ∷ spans_from wide limit s e
          rest =
              from_some wide limit s none-wider p (omega (arith, word_before s p u, behind_le s)) ∙
              ap (λ (j : ℕ). span j (span_end wide limit s j) ∷ spans_from wide limit s (span_end wide limit s j)) (sym is_b) ∙
              ap (λ (j : ℕ). span b j ∷ spans_from wide limit s j) (sym is-e)

          split_next : spans_of wide limit s ≡ (so.done ++ (span b e ∷ [])) ++ spans_from wide limit s e
          split_next = so.split ∙ ap (λ (l : List Span). so.done ++ l) rest ∙ sym (append_assoc so.done (span b e ∷ []) (spans_from wide limit s e))

          drawn_next : drawn (so.done ++ (span b e ∷ [])) ≡ drawn so.done ++ new
          drawn_next = drawings-append so.done (span b e ∷ []) ∙ ap (λ (l : List ℕ). drawn so.done ++ l) (drawings-one (span b e))

          new_long : length new ≡ h * (w + 1)
          new_long = length-shown hardblank h (line (part s b e)) ∙ ap (λ (j : ℕ). h * (j + 1)) (sym is-w)

          size_next : length (drawn (so.done ++ (span b e ∷ []))) ≡ m + h * (w + 1)
          size_next = ap length drawn_next ∙ length-append (drawn so.done) new ∙ omega (arith, so.held.size, new_long)

          -- on an output whose first m bytes stayed
          pub put_next : n < length firsts → n < length ends → (kept : List ℕ) → take m kept ≡ take m out → (out' : List ℕ) → take (m + h * (w + 1)) out' ≡ take m kept ++ new → PutTo e (n + 1) (m + h * (w + 1)) (set firsts n b) (set ends n e) out'
          put_next k l kept stays out' q =
              record {
                done = so.done ++ (span b e ∷ []);
                split = split_next;
                held = record {
                  many = omega (arith, so.held.many, length-append so.done (span b e ∷ []));
                  size = sym size_next;
                  firsts_are = map_more (λ (x : Span). x.first) firsts n so.done (span b e) k so.held.firsts_are;
                  ends_are = map_more (λ (x : Span). x.behind) ends n so.done (span b e) l so.held.ends_are;
                  bytes_are = q ∙ ap (λ (x : List ℕ). x ++ new) (stays ∙ so.held.bytes_are) ∙ sym drawn_next;
                };
              }

          pub no_room : (room : ℕ) → m ≤ room → room - m < h * (w + 1) → room < length (drawn (spans_of wide limit s))
          no_room room k l =
              let a = drawn (so.done ++ (span b e ∷ [])) in
              let z = drawn (spans_from wide limit s e) in
              let all : length (drawn (spans_of wide limit s)) ≡ length a + length z =
              ap (λ (x : List Span). length (drawn x)) split_next ∙ ap length (drawings-append (so.done ++ (span b e ∷ [])) (spans_from wide limit s e)) ∙ length-append a z in
              omega (arith, all, size_next)
