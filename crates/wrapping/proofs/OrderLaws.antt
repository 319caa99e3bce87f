-- What wrapping comes to, by the order of its refusals; and what the lent areas then hold.
-- Assumes nothing.
use mathlib.Core.Path.{◌≡◌, refl, sym, ap, ◌∙◌, subst}
use mathlib.Core.Bool.{Bool, true, false, cond, ◌||◌}
use mathlib.Core.List.{List, [], map, ◌++◌}
use Prim.Native.Nat.{ℕ, ◌-◌, ◌≤◌, ◌<◌}
use native.Mathlib.Omega.{arith}
use lib.Dec.{ltb}
use lib.ListN.{length, take, length-take, length-map}
use borrow.Author.Tests.{lt-ltb, le-ltb, ltb-false}
use Rattle.ground.specs.Area.{zeros, padded}
use Rattle.ground.specs.Limits.{max_line_width, max_text, min_lines, min_scratch}
use Rattle.ground.specs.Refusals.{refusal, area_too_small, text_too_long, bad_shape, character_too_wide}
use Rattle.ground.specs.declared.refusals.Refusal.{Refusal}
use Rattle.ground.proofs.Areas.{padded_of}
use Rattle.ground.proofs.Tests.{or_left, or_right, or_none}
use Rattle.subchars.specs.declared.Mode.{Mode}
use Rattle.header.specs.declared.Header.{Header}
use Rattle.chars.specs.declared.Entry.{Entry}
use Rattle.font.specs.Font as font
use Rattle.source.specs.declared.Counts.{Counts}
use Rattle.source.specs.Source.{Source, font_source}
use Rattle.source.specs.Counting.{counts_of}
use Rattle.flc.specs.declared.Command.{Command}
use Rattle.flc.specs.Control as flc
use Rattle.drawing.specs.Drawing.{text_codes, mode_of, Lined, lined, unlined, lined_by, lined_of}
use Rattle.wrapping.specs.declared.WrapAnswer.{WrapAnswer}
use Rattle.wrapping.specs.declared.WrapAnswer.TheVariants.{Wrapped, Refused}
use Rattle.spans.specs.declared.LinesPut.{LinesPut}
use Rattle.breaks.specs.Breaking.{Span}
use Rattle.spans.specs.Spans.{line_by, first_wider}
use Rattle.wrapping.specs.Wrapping.{Wrap, wrapped, unwrapped, wrap_lines, wrap_text, bad_limit, wrap_tested, wrap_by, wrap_of, draw_wrapped, wrap_in, wrap_answer, wrap_spans, wrap_bytes, WrapOut}
use Rattle.spans.specs.Steps.{PutSo, PutAs}

-- The areas.
module _ (firstRoom endRoom room : ℕ) (a : WrapAnswer) (firsts ends out : List ℕ) where
  -- what comes to the same is the same
  pub out_same : (w v : Wrap) → wrap_in room w ≡ wrap_in room v → WrapOut v firstRoom endRoom room a firsts ends out → WrapOut w firstRoom endRoom room a firsts ends out
  out_same w v e x =
      record {
        answer = x.answer ∙ ap wrap_answer (sym e);
        listed-firsts = x.listed-firsts ∙ ap (λ (z : Wrap). padded (map (λ (p : Span). p.first) (wrap_spans z)) firstRoom) (sym e);
        listed-ends = x.listed-ends ∙ ap (λ (z : Wrap). padded (map (λ (p : Span). p.behind) (wrap_spans z)) endRoom) (sym e);
        output = x.output ∙ ap (λ (z : Wrap). padded (wrap_bytes z) room) (sym e);
      }

  pub out_as : (w v : Wrap) → w ≡ v → WrapOut v firstRoom endRoom room a firsts ends out → WrapOut w firstRoom endRoom room a firsts ends out
  out_as w v e x = out_same w v (ap (wrap_in room) e) x

  pub out_rooms : (w : Wrap) (f g r : ℕ) → f ≡ firstRoom → g ≡ endRoom → r ≡ room → WrapOut w f g r a firsts ends out → WrapOut w firstRoom endRoom room a firsts ends out
  out_rooms w f g r p q s x =
      subst (λ (j : ℕ). WrapOut w firstRoom endRoom j a firsts ends out) s
      (subst (λ (j : ℕ). WrapOut w firstRoom j r a firsts ends out) q (subst (λ (j : ℕ). WrapOut w j g r a firsts ends out) p x))

  -- 9 for the output
  pub out_small : (spans : List Span) (bytes : List ℕ) (counts : Counts) → room < length bytes → WrapOut (unwrapped (refusal area_too_small 0)) firstRoom endRoom room a firsts ends out → WrapOut (wrapped spans bytes counts) firstRoom endRoom room a firsts ends out
  unfolding wrap_in
  out_small spans bytes counts l x = out_same _ _ (ap (λ (t : Bool). cond t (unwrapped (refusal area_too_small 0)) (wrapped spans bytes counts)) (lt-ltb room (length bytes) l)) x

-- A refusal leaves zeros.
pub unwrapped_out : (r : Refusal) (firstRoom endRoom room : ℕ) (firsts ends out : List ℕ) → firsts ≡ zeros (firstRoom - 0) → ends ≡ zeros (endRoom - 0) → out ≡ zeros (room - 0) → WrapOut (unwrapped r) firstRoom endRoom room (Refused r) firsts ends out
unfolding wrap_in
unwrapped_out r firstRoom endRoom room firsts ends out a b c = record { answer = refl; listed-firsts = a; listed-ends = b; output = c }

-- Lines that were put, with zeros behind them.
module _ (spans : List Span) (bytes : List ℕ) (n m : ℕ) (firsts ends out : List ℕ) (so : PutSo spans bytes n m firsts ends out) where
  pub firsts-few : n ≤ length firsts
  firsts-few = omega (arith, length-take n firsts, ap length so.firsts_are, length-map spans (λ (x : Span). x.first), so.many)

  pub ends-few : n ≤ length ends
  ends-few = omega (arith, length-take n ends, ap length so.ends_are, length-map spans (λ (x : Span). x.behind), so.many)

  pub bytes-few : m ≤ length out
  bytes-few = omega (arith, length-take m out, ap length so.bytes_are, so.size)

  pub wrapped_out : (counts : Counts) (firsts' ends' out' : List ℕ) → firsts' ≡ take n firsts ++ zeros (length firsts - n) → ends' ≡ take n ends ++ zeros (length ends - n) → out' ≡ take m out ++ zeros (length out - m) → WrapOut (wrapped spans bytes counts) (length firsts) (length ends) (length out) (Wrapped n counts) firsts' ends' out'
  unfolding wrap_in
  wrapped_out counts firsts' ends' out' p q r =
      let e = ap (λ (t : Bool). cond t (unwrapped (refusal area_too_small 0)) (wrapped spans bytes counts)) (le-ltb (length out) (length bytes) (omega (arith, bytes-few, so.size))) in
      record {
        answer = ap (λ (j : ℕ). Wrapped j counts) so.many ∙ ap wrap_answer (sym e);
        listed-firsts = p ∙ padded_of (map (λ (x : Span). x.first) spans) firsts n (length firsts) so.firsts_are (length-map spans (λ (x : Span). x.first) ∙ sym so.many) refl ∙ ap (λ (z : Wrap). padded (map (λ (x : Span). x.first) (wrap_spans z)) (length firsts)) (sym e);
        listed-ends = q ∙ padded_of (map (λ (x : Span). x.behind) spans) ends n (length ends) so.ends_are (length-map spans (λ (x : Span). x.behind) ∙ sym so.many) refl ∙ ap (λ (z : Wrap). padded (map (λ (x : Span). x.behind) (wrap_spans z)) (length ends)) (sym e);
        output = r ∙ padded_of bytes out m (length out) so.bytes_are (sym so.size) refl ∙ ap (λ (z : Wrap). padded (wrap_bytes z) (length out)) (sym e);
      }

-- What was put, by cases of what putting answered.
module _ (spans : List Span) (drawn : List Span → List ℕ) (room : ℕ) (firsts ends out : List ℕ) where
  abbrev As : LinesPut → Type 0
  As l = PutAs spans drawn room l firsts ends out

  pub put_as : (l k : LinesPut) → l ≡ k → As l → As k
  put_as l k e x = subst As e x

  pub put_room : (l : LinesPut) (r : ℕ) → room ≡ r → As l → PutAs spans drawn r l firsts ends out
  put_room l r e x = subst (λ (j : ℕ). PutAs spans drawn j l firsts ends out) e x

-- 19, and then the lines.
module _ (y : Mode) (h : ℕ) (source : Source) (cs : List Command) (k limit : ℕ) (text : List ℕ) where
  abbrev first : ℕ
  first = first_wider source cs k limit text

  abbrev lines : Wrap
  lines = wrap_lines y h (line_by y h source cs k) limit text (counts_of source (text_codes cs k text))

  pub text-wider : first < length text → wrap_text y h source cs k limit text ≡ unwrapped (refusal character_too_wide first)
  unfolding wrap_text
  text-wider l = ap (λ (t : Bool). cond t (unwrapped (refusal character_too_wide first)) lines) (lt-ltb first (length text) l)

  pub text-fits : length text ≤ first → wrap_text y h source cs k limit text ≡ lines
  unfolding wrap_text
  text-fits l = ap (λ (t : Bool). cond t (unwrapped (refusal character_too_wide first)) lines) (le-ltb first (length text) l)

  -- 15, then 17
  abbrev limited : Wrap
  limited = cond (bad_limit limit) (unwrapped (refusal bad_shape 0)) (wrap_text y h source cs k limit text)

  pub tested_long : max_text < length text → wrap_tested y h source cs k limit text ≡ unwrapped (refusal text_too_long 0)
  unfolding wrap_tested
  tested_long l = ap (λ (t : Bool). cond t (unwrapped (refusal text_too_long 0)) limited) (lt-ltb max_text (length text) l)

  tested_short : length text ≤ max_text → wrap_tested y h source cs k limit text ≡ limited
  unfolding wrap_tested
  tested_short l = ap (λ (t : Bool). cond t (unwrapped (refusal text_too_long 0)) limited) (le-ltb max_text (length text) l)

  pub tested_limit : length text ≤ max_text → bad_limit limit ≡ true → wrap_tested y h source cs k limit text ≡ unwrapped (refusal bad_shape 0)
  tested_limit l e = tested_short l ∙ ap (λ (t : Bool). cond t (unwrapped (refusal bad_shape 0)) (wrap_text y h source cs k limit text)) e

  pub tested_text : length text ≤ max_text → bad_limit limit ≡ false → wrap_tested y h source cs k limit text ≡ wrap_text y h source cs k limit text
  tested_text l e = tested_short l ∙ ap (λ (t : Bool). cond t (unwrapped (refusal bad_shape 0)) (wrap_text y h source cs k limit text)) e

-- A limit in range.
pub limit_small : (limit : ℕ) → limit < 1 → true ≡ bad_limit limit
limit_small limit l = sym (or_left (ltb limit 1) (ltb max_line_width limit) (lt-ltb limit 1 l))

pub limit_large : (limit : ℕ) → 1 ≤ limit → ltb max_line_width limit ≡ bad_limit limit
limit_large limit l = sym (ap (λ (t : Bool). t || ltb max_line_width limit) (le-ltb limit 1 l))

pub limit_good : (limit : ℕ) → bad_limit limit ≡ false → limit ≤ max_line_width
limit_good limit e = ltb-false max_line_width limit (or_none (ltb limit 1) (ltb max_line_width limit) e).1

-- A text, by a font and a control file that are read; and by files that are refused.
module _ (s control : List ℕ) (limit : ℕ) (text : List ℕ) where
  pub read-wrapped : (h : Header) (es : List Entry) (cs : List Command) (k : ℕ) → font.reading s ≡ font.says h es → flc.control control ≡ flc.reads cs k → wrap_of s control limit text ≡ wrap_tested (mode_of h) h.height (font_source s es) cs k limit text
  unfolding wrap_of
  read-wrapped h es cs k f c = ap (λ (x : font.FontReading). wrap_by s x (flc.control control) limit text) f ∙ ap (λ (x : flc.ControlReading). wrap_by s (font.says h es) x limit text) c

  -- what a refusal of a line is
  abbrev refusal_of : Lined → Refusal
  refusal_of (lined y h l n) = refusal area_too_small 0
  refusal_of (unlined r) = r

  abbrev is-lined : Lined → ℕ
  is-lined (lined y h l n) = 1
  is-lined (unlined r) = 0

  pub files_refused : (r : Refusal) → ((t : List ℕ) → lined_of s control t ≡ unlined r) → wrap_of s control limit text ≡ unwrapped r
  unfolding wrap_of lined_of
  files_refused r e = by_font (font.reading s) (flc.control control) (e [])
    where
      by_font : (f : font.FontReading) (c : flc.ControlReading) → lined_by s f c [] ≡ unlined r → wrap_by s f c limit text ≡ unwrapped r
      by_font (font.refuses q) c p = ap (λ (l : Lined). unwrapped (refusal_of l)) p
      by_font (font.says h es) (flc.refuses q) p = ap (λ (l : Lined). unwrapped (refusal_of l)) p
      by_font (font.says h es) (flc.reads cs k) p = absurd (let z : 1 ≡ 0 = ap is-lined p in omega arith)

  -- "9 (firsts or ends under 1,024 entries, scratch under 32,000)"
  module _ (f g size : ℕ) where
    abbrev small : Bool
    small = ltb f min_lines || ltb g min_lines || ltb size min_scratch

    by_sizes : (t : Bool) → small ≡ t → draw_wrapped f g size s control limit text ≡ cond t (unwrapped (refusal area_too_small 0)) (wrap_of s control limit text)
    unfolding draw_wrapped
    by_sizes t e = ap (λ (x : Bool). cond x (unwrapped (refusal area_too_small 0)) (wrap_of s control limit text)) e

    pub firsts-small : f < min_lines → draw_wrapped f g size s control limit text ≡ unwrapped (refusal area_too_small 0)
    firsts-small l = by_sizes true (or_left (ltb f min_lines || ltb g min_lines) (ltb size min_scratch) (or_left (ltb f min_lines) (ltb g min_lines) (lt-ltb f min_lines l)))

    pub ends-small : g < min_lines → draw_wrapped f g size s control limit text ≡ unwrapped (refusal area_too_small 0)
    ends-small l = by_sizes true (or_left (ltb f min_lines || ltb g min_lines) (ltb size min_scratch) (or_right (ltb f min_lines) (ltb g min_lines) (lt-ltb g min_lines l)))

    pub scratch_small : size < min_scratch → draw_wrapped f g size s control limit text ≡ unwrapped (refusal area_too_small 0)
    scratch_small l = by_sizes true (or_right (ltb f min_lines || ltb g min_lines) (ltb size min_scratch) (lt-ltb size min_scratch l))

    pub areas_enough : min_lines ≤ f → min_lines ≤ g → min_scratch ≤ size → draw_wrapped f g size s control limit text ≡ wrap_of s control limit text
    areas_enough a b c = by_sizes false (none a b c)
      where
        none : min_lines ≤ f → min_lines ≤ g → min_scratch ≤ size → small ≡ false
        none a b c = rw (le-ltb f min_lines a, le-ltb g min_lines b, le-ltb size min_scratch c)
