-- Only blanks, tabs and line ends remain exactly where only blank lines remain.
-- Assumes nothing.
use mathlib.Core.Path.{◌≡◌, refl, sym, ap, ◌∙◌}
use mathlib.Core.Bool.{Bool, true, false, cond, ◌&&◌, ◌||◌, false≢true}
use mathlib.Core.List.{List, [], ◌∷◌}
use Prim.Native.Nat.{ℕ, suc}
use lib.ListN.{drop}
use Rattle.ground.specs.Runs.{all}
use Rattle.ground.proofs.Tests.{and_right, and_assoc, or_true, or_false}
use Rattle.ground.specs.Text.{is_lf}
use Rattle.lines.specs.Lines.{is_cr, is_end, TextLine, line, grown, lines_after, lines_from}
use Rattle.lines.specs.Words.{is_blank}
use Rattle.chars.specs.Chars.{blank_lines}
use Rattle.chars.specs.Steps.{is_space, blank_from}

grown-blank : (i x : ℕ) (ls : List TextLine) → blank_lines (grown i x ls) ≡ (is_blank x && blank_lines ls)
unfolding blank_lines all
grown-blank i x [] = and_assoc (is_blank x) true true
grown-blank i x (l ∷ ls) = and_assoc (is_blank x) (all is_blank l.text) (blank_lines ls)

lf_ends : (x : ℕ) → is_lf x ≡ true → is_end x ≡ true
unfolding is_end
lf_ends x e = simp e

blank_lines_lem : (cr : Bool) (i : ℕ) (t : List ℕ) → blank_lines (lines_after cr i t) ≡ all is_space t
unfolding blank_lines lines_after all
blank_lines_lem cr i [] = refl
blank_lines_lem cr i (x ∷ xs) = go (cr && is_lf x) refl (is_end x) refl (blank_lines_lem false (suc i) xs) (blank_lines_lem (is_cr x) (suc i) xs)
  where
    go : (a : Bool) → (cr && is_lf x) ≡ a → (b : Bool) → is_end x ≡ b → blank_lines (lines_after false (suc i) xs) ≡ all is_space xs → blank_lines (lines_after (is_cr x) (suc i) xs) ≡ all is_space xs →
        blank_lines (cond a (lines_after false (suc i) xs) (cond b (line i [] ∷ lines_after (is_cr x) (suc i) xs) (grown i x (lines_after false (suc i) xs)))) ≡ ((is_blank x || b) && all is_space xs)
    go true p true q h k = h ∙ sym (ap (λ (z : Bool). z && all is_space xs) (or_true (is_blank x)))
    go true p false q h k = absurd (false≢true (sym q ∙ lf_ends x (and_right cr (is_lf x) p)))
    go false p true q h k = k ∙ sym (ap (λ (z : Bool). z && all is_space xs) (or_true (is_blank x)))
    go false p false q h k = grown-blank i x (lines_after false (suc i) xs) ∙ ap (λ (z : Bool). is_blank x && z) h ∙ sym (ap (λ (z : Bool). z && all is_space xs) (or_false (is_blank x)))

pub blank_from_lem : (s : List ℕ) (at : ℕ) → blank_from s at ≡ blank_lines (lines_from s at)
unfolding blank_from lines_from
blank_from_lem s at = sym (blank_lines_lem false at (drop at s))
