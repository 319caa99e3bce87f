-- A font by places is the font on its lines: its header and comment lines, and then what is read from where its characters start.
-- Assumes nothing.
use mathlib.Core.Path.{◌≡◌, refl, sym, ap, ◌∙◌}
use mathlib.Core.Bool.{Bool, true, false, cond}
use mathlib.Core.List.{List}
use Prim.Native.Nat.{ℕ, ◌-◌, ◌≤◌, ◌<◌}
use native.Mathlib.Omega.{arith}
use lib.Dec.{ltb, leb}
use lib.ListN.{length, drop, take}
use borrow.Author.Tests.{lt-ltb, le-ltb, ltb-true, ltb-false, le-leb, lt-leb}
use Rattle.std.specs.Prelude.{Result, Ok, Err}
use Rattle.ground.specs.Refusals.{refusal, font_too_long, no_signature, missing_line}
use Rattle.ground.specs.declared.refusals.Refusal.{Refusal}
use Rattle.ground.specs.Limits.{max_font_length}
use Rattle.lines.specs.declared.Line.{Line}
use Rattle.lines.specs.declared.Skipped.{Skipped}
use Rattle.lines.specs.Lines.{TextLine, lines_from, text_at, next_start, cursor, after, skipped}
use Rattle.lines.proofs.LineLaws.{lines_none, lines_next, after_lines, LineFound, line-part}
use Rattle.header.specs.declared.Header.{Header}
use Rattle.header.specs.Header.{read_header}
use Rattle.chars.specs.Codes.{required_codes}
use Rattle.chars.specs.Chars.{listing}
use Rattle.font.specs.declared.Opening.{Opening}
use Rattle.font.specs.Font.{refuses, format, with_characters, after_header, on_lines, reading}
use Rattle.font.specs.Steps.{opening, past_comments, open_by, first_line, open_at, read_from}

header-reads : (x : Result Header Refusal) (s : List ℕ) (at : ℕ) → after_header x (length s) (lines_from s at) ≡ read_from s (open_by x s at)
unfolding past_comments
header-reads (Err r) s at = refl
header-reads (Ok h) s at = go (leb h.comment_lines (length (lines_from s at)))
  where
    go : (b : Bool) →
        cond b (with_characters h (listing (format h) (length s) required_codes 0 (drop h.comment_lines (lines_from s at)))) (refuses (refusal missing_line (length s))) ≡
        read_from s (cond b (Ok (opening h (cursor (after h.comment_lines s at)))) (Err (refusal missing_line (length s))))
    go true = ap (λ (ls : List TextLine). with_characters h (listing (format h) (length s) required_codes 0 ls)) (sym (after_lines h.comment_lines s at))
    go false = refl

first_reads : (s : List ℕ) → on_lines (length s) (lines_from s 0) ≡ read_from s (first_line s)
unfolding first_line
first_reads s = go (ltb 0 (length s)) refl
  where
    go : (b : Bool) → ltb 0 (length s) ≡ b → on_lines (length s) (lines_from s 0) ≡ read_from s (cond b (open_by (read_header (text_at s 0)) s (next_start s 0)) (Err (refusal no_signature 0)))
    go true e = ap (on_lines (length s)) (lines_next s 0 (ltb-true 0 (length s) e)) ∙ header-reads (read_header (text_at s 0)) s (next_start s 0)
    go false e = ap (on_lines (length s)) (lines_none s 0 (ltb-false 0 (length s) e))

-- what a font says, from where it was opened
pub open_reads : (s : List ℕ) → reading s ≡ read_from s (open_at s)
unfolding reading open_at
open_reads s = go (ltb max_font_length (length s))
  where
    go : (b : Bool) → cond b (refuses (refusal font_too_long 0)) (on_lines (length s) (lines_from s 0)) ≡ read_from s (cond b (Err (refusal font_too_long 0)) (first_line s))
    go true = refl
    go false = first_reads s

-- The steps of the code, by cases.
module _ (h : Header) (s : List ℕ) (at : ℕ) (k : Skipped) (e : k ≡ skipped h.comment_lines s at) where
  pub comments_missing : 0 < k.missing → Err (refusal missing_line (length s)) ≡ past_comments h s at
  unfolding past_comments skipped
  comments_missing l = simp (lt-leb h.comment_lines (length (lines_from s at)) (omega (arith, ap (λ (x : Skipped). x.missing) e)))

  pub comments_passed : k.missing ≤ 0 → Ok (opening h k.next) ≡ past_comments h s at
  unfolding past_comments skipped
  comments_passed l =
      simp (le-leb h.comment_lines (length (lines_from s at)) (omega (arith, ap (λ (x : Skipped). x.missing) e)))
      (ap (λ (x : Skipped). Ok (opening h x.next)) e)

pub open_line : (s : List ℕ) (l : Line) (f : LineFound s 0 l) (x : Result Header Refusal) → x ≡ read_header (take (l.end - l.start) (drop l.start s)) → open_by x s l.next.at ≡ first_line s
unfolding first_line
open_line s l f x p =
    simp (lt-ltb 0 (length s) f.inside) (ap (open_by x s) f.further ∙ ap (λ (y : Result Header Refusal). open_by y s (next_start s 0)) (p ∙ ap read_header (line-part s 0 l f)))

pub open_empty : (s : List ℕ) → length s ≤ 0 → Err (refusal no_signature 0) ≡ first_line s
unfolding first_line
open_empty s h = simp (le-ltb 0 (length s) h)

pub open_long : (s : List ℕ) → max_font_length < length s → Err (refusal font_too_long 0) ≡ open_at s
unfolding open_at
open_long s h = simp (lt-ltb max_font_length (length s) h)

pub open_short : (s : List ℕ) (r : Result Opening Refusal) → length s ≤ max_font_length → r ≡ first_line s → r ≡ open_at s
unfolding open_at
open_short s r h e = simp (le-ltb max_font_length (length s) h) e
