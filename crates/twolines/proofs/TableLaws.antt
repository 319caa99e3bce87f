-- The rows of the refusal table for two lines: what each answer is given for, spelled out.
-- Assumes nothing.
use mathlib.Core.Path.{◌≡◌, refl, sym, ◌∙◌, ap, subst}
use mathlib.Core.Bool.{true, false, true≢false, false≢true}
use mathlib.Core.List.{List}
use mathlib.Core.Logic.{◌↔◌, ◌⊎◌, inl, inr, ⊎_elim}
use Prim.Native.Nat.{ℕ, ◌≤◌, ◌<◌}
use native.Mathlib.Omega.{arith}
use lib.ListN.{length}
use Rattle.ground.specs.Limits.{max_line_width, max_text, min_stacked_scratch}
use Rattle.ground.specs.Refusals.{number_of, refusal, too_many_characters, area_too_small, control_file_too_long, too_many_commands, text_too_long, line_too_wide}
use Rattle.ground.specs.declared.refusals.Reason.{Reason}
use Rattle.ground.specs.declared.refusals.Refusal.{Refusal}
use Rattle.blocks.specs.Block.{Block}
use Rattle.header.specs.declared.Header.{Header}
use Rattle.chars.specs.declared.Entry.{Entry}
use Rattle.font.specs.Font as font
use Rattle.font.proofs.ReadingLaws.{font_refusal}
use Rattle.flc.specs.declared.Command.{Command}
use Rattle.flc.specs.Control as flc
use Rattle.flc.proofs.RefusalLaws.{control-refusal}
use Rattle.std.specs.Prelude.{Err}
use Rattle.columns.specs.Stack.{Stack, stacked}
use Rattle.stack.specs.StackCall.{StackTold, stack_tells, stacking}
use Rattle.drawing.specs.Drawing.{font_line}
use Rattle.twolines.specs.TwoLines.{vertical_of, draw_lines, lines_size, lines_told}
use Rattle.twolines.proofs.Numbers.{same_refusal}
use Rattle.twolines.proofs.Answers as answers
use Rattle.twolines.proofs.Answers.{FilesRead, LinesFit, LinesTo, scratch_small, font_refused, control-refused, text_too_long_lem, line_too_wide_lem, output-small, stacks}

module _ (size : ℕ) (s control upper lower : List ℕ) (room : ℕ) where
  abbrev answer : StackTold
  answer = lines_told (draw_lines size s control upper lower) room

  abbrev Known : Type 0
  Known = FilesRead size s control upper lower room

  abbrev Due : StackTold → Type 0
  Due t = LinesTo size s control upper lower room t

  gives : (t : StackTold) → Due t → answer ≡ t
  gives = answers.gives size s control upper lower room

  -- The scratch is large enough, and the two files say this.
  abbrev Read : Header → List Entry → List Command → ℕ → Type 0
  Read h es cs k = (min_stacked_scratch ≤ size) × (font.reading s ≡ font.says h es) × (flc.control control ≡ flc.reads cs k)

  abbrev pub files : (h : Header) (es : List Entry) (cs : List Command) (k : ℕ) → Read h es cs k → Known
  files h es cs k r = record { scratch_enough = r.0; header = h; characters = es; font_read = r.1; commands = cs; stages = k; control-read = r.2 }

  read : (x : Known) → Read x.header x.characters x.commands x.stages
  read x = (x.scratch_enough, x.font_read, x.control-read)

  -- By these files: the two lines, and their stack.
  abbrev upper_for : Header → List Entry → List Command → ℕ → Block
  upper_for h es cs k = font_line s h es cs k upper

  abbrev lower_for : Header → List Entry → List Command → ℕ → Block
  lower_for h es cs k = font_line s h es cs k lower

  abbrev stack_for : Header → List Entry → List Command → ℕ → Stack
  stack_for h es cs k = stacked (vertical_of h.full_layout) h.hardblank.0 h.height (upper_for h es cs k) h.height (lower_for h es cs k)

  -- Neither 15 nor 16.
  abbrev Fit : Header → List Entry → List Command → ℕ → Type 0
  Fit h es cs k = (length upper ≤ max_text) × (length lower ≤ max_text) × ((upper_for h es cs k).width ≤ max_line_width) × ((lower_for h es cs k).width ≤ max_line_width)

  abbrev pub fits : (h : Header) (es : List Entry) (cs : List Command) (k : ℕ) (r : Read h es cs k) → Fit h es cs k → LinesFit size s control upper lower room (files h es cs k r)
  fits h es cs k r f = record { upper_short = f.0; lower_short = f.1; upper_narrow = f.2; lower_narrow = f.3 }

  fit : (x : Known) → LinesFit size s control upper lower room x → Fit x.header x.characters x.commands x.stages
  fit x f = (f.upper_short, f.lower_short, f.upper_narrow, f.lower_narrow)

  abbrev FontFor : Refusal → Type 0
  FontFor r = (min_stacked_scratch ≤ size) × (font.reading s ≡ font.refuses r)

  abbrev ControlFor : Refusal → Type 0
  ControlFor r = (min_stacked_scratch ≤ size) × (h : Header) × (es : List Entry) × (font.reading s ≡ font.says h es) × (flc.control control ≡ flc.refuses r)

  abbrev TooLong : ℕ → Type 0
  TooLong p = (p ≡ 0) × (h : Header) × (es : List Entry) × (cs : List Command) × (k : ℕ) × (Read h es cs k) × ((max_text < length upper) ⊎ (max_text < length lower))

  abbrev TooWide : ℕ → Type 0
  TooWide p =
      (p ≡ 0) × (h : Header) × (es : List Entry) × (cs : List Command) × (k : ℕ) × (Read h es cs k) × (length upper ≤ max_text) × (length lower ≤ max_text) ×
      ((max_line_width < (upper_for h es cs k).width) ⊎ (max_line_width < (lower_for h es cs k).width))

  abbrev TooSmall : ℕ → Type 0
  TooSmall p =
      (p ≡ 0) ×
      ((size < min_stacked_scratch) ⊎
      ((h : Header) × (es : List Entry) × (cs : List Command) × (k : ℕ) × (Read h es cs k) × (Fit h es cs k) × (room < lines_size (stack_for h es cs k))))

  abbrev StackedAs : ℕ → ℕ → ℕ → Type 0
  StackedAs o n w =
      (h : Header) × (es : List Entry) × (cs : List Command) × (k : ℕ) × (Read h es cs k) × (Fit h es cs k) × (lines_size (stack_for h es cs k) ≤ room) ×
      (o ≡ (stack_for h es cs k).overlap) × (n ≡ (stack_for h es cs k).height) × (w ≡ (stack_for h es cs k).block.width)

  -- What a refusal is given for, by its reason, and what a success tells.
  abbrev RefusedFor : Refusal → Type 0
  RefusedFor r =
      (number_of r.reason ≤ number_of too_many_characters → FontFor r) ×
      (number_of control_file_too_long ≤ number_of r.reason → number_of r.reason ≤ number_of too_many_commands → ControlFor r) ×
      (r.reason ≡ text_too_long → TooLong r.place) ×
      (r.reason ≡ line_too_wide → TooWide r.place) ×
      (r.reason ≡ area_too_small → TooSmall r.place)

  abbrev Told : StackTold → Type 0
  Told t = ((r : Refusal) → t ≡ stack_tells (Err r) → RefusedFor r) × (t.refused ≡ false → StackedAs t.overlap t.height t.width)

  abbrev refused_for : (t : StackTold) → ((r : Refusal) → t ≡ stack_tells (Err r) → RefusedFor r) → t.refused ≡ true → Told t
  refused_for t f d = (f, λ e. absurd (true≢false (sym d ∙ e)))

  told : (t : StackTold) → Due t → Told t
  told _ (scratch_small u) =
      refused_for _ (λ r d.
      let n = ap (λ (t : StackTold). t.number) d in
      (λ e. absurd (omega (arith, n)), λ e f. absurd (omega (arith, n)), λ e. absurd (omega (arith, n, ap number_of e)), λ e. absurd (omega (arith, n, ap number_of e)), λ e. (sym (ap (λ (t : StackTold). t.place) d), inl u))) refl
  told _ (font_refused u q f) =
      let b = font_refusal s q f in
      refused_for _ (λ r d.
      let same = same_refusal q r d in
      let n = ap (λ (t : StackTold). t.number) d in
      (λ e. (u, f ∙ ap font.refuses same), λ e g. absurd (omega (arith, n, b.1)), λ e. absurd (omega (arith, n, b.1, ap number_of e)), λ e. absurd (omega (arith, n, b.1, ap number_of e)), λ e. absurd (omega (arith, n, b.1, ap number_of e)))) refl
  told _ (control-refused u h es f q c) =
      let b = control-refusal control q c in
      refused_for _ (λ r d.
      let same = same_refusal q r d in
      let n = ap (λ (t : StackTold). t.number) d in
      (λ e. absurd (omega (arith, n, b.0)), λ e g. (u, h, es, f, c ∙ ap flc.refuses same), λ e. absurd (omega (arith, n, b.1, ap number_of e)), λ e. absurd (omega (arith, n, b.1, ap number_of e)), λ e. absurd (omega (arith, n, b.0, ap number_of e)))) refl
  told _ (text_too_long_lem x t) =
      refused_for _ (λ r d.
      let n = ap (λ (t : StackTold). t.number) d in
      (λ e. absurd (omega (arith, n)), λ e f. absurd (omega (arith, n)), λ e. (sym (ap (λ (t : StackTold). t.place) d), x.header, x.characters, x.commands, x.stages, read x, t), λ e. absurd (omega (arith, n, ap number_of e)), λ e. absurd (omega (arith, n, ap number_of e)))) refl
  told _ (line_too_wide_lem x u v w) =
      refused_for _ (λ r d.
      let n = ap (λ (t : StackTold). t.number) d in
      (λ e. absurd (omega (arith, n)), λ e f. absurd (omega (arith, n)), λ e. absurd (omega (arith, n, ap number_of e)), λ e. (sym (ap (λ (t : StackTold). t.place) d), x.header, x.characters, x.commands, x.stages, read x, u, v, w), λ e. absurd (omega (arith, n, ap number_of e)))) refl
  told _ (output-small x f m) =
      refused_for _ (λ r d.
      let n = ap (λ (t : StackTold). t.number) d in
      (λ e. absurd (omega (arith, n)), λ e g. absurd (omega (arith, n)), λ e. absurd (omega (arith, n, ap number_of e)), λ e. absurd (omega (arith, n, ap number_of e)), λ e. (sym (ap (λ (t : StackTold). t.place) d), inr (x.header, x.characters, x.commands, x.stages, read x, fit x f, m)))) refl
  told _ (stacks x f m) = (λ r d. absurd (false≢true (ap (λ (t : StackTold). t.refused) d)), λ d. (x.header, x.characters, x.commands, x.stages, read x, fit x f, m, refl, refl, refl))

  tells : (t : StackTold) → answer ≡ t → Told t
  tells t e = told t (subst (λ (x : StackTold). Due x) e (answers.one_of size s control upper lower room))

  refused-tells : (r : Refusal) → answer ≡ stack_tells (Err r) → RefusedFor r
  refused-tells r e = (tells (stack_tells (Err r)) e).0 r refl

  refused-at : (reason : Reason) (p : ℕ) → p ≡ 0 → answer ≡ stack_tells (Err (refusal reason 0)) → answer ≡ stack_tells (Err (refusal reason p))
  refused-at reason p e a = subst (λ (q : ℕ). answer ≡ stack_tells (Err (refusal reason q))) (sym e) a

  -- "9 (scratch under 64,000 ..), the font's,
  pub row_font : (r : Refusal) → number_of r.reason ≤ number_of too_many_characters → answer ≡ stack_tells (Err r) ↔ FontFor r
  row_font r u = (λ e. (refused-tells r e).0 u, λ w. gives _ (font_refused w.0 r w.1))

  -- the control file's,
  pub row-control : (r : Refusal) → number_of control_file_too_long ≤ number_of r.reason → number_of r.reason ≤ number_of too_many_commands → answer ≡ stack_tells (Err r) ↔ ControlFor r
  row-control r u v = (λ e. (refused-tells r e).1 u v, λ w. gives _ (control-refused w.0 w.1 w.2 w.3 r w.4))

  -- 15 (either text), ..
  pub row_15 : (p : ℕ) → answer ≡ stack_tells (Err (refusal text_too_long p)) ↔ TooLong p
  row_15 p = (λ e. (refused-tells _ e).2 refl, λ w. refused-at text_too_long p w.0 (gives _ (text_too_long_lem (files w.1 w.2 w.3 w.4 w.5) w.6)))

  -- 16 (either line),
  pub row_16 : (p : ℕ) → answer ≡ stack_tells (Err (refusal line_too_wide p)) ↔ TooWide p
  row_16 p = (λ e. (refused-tells _ e).3 refl, λ w. refused-at line_too_wide p w.0 (gives _ (line_too_wide_lem (files w.1 w.2 w.3 w.4 w.5) w.6 w.7 w.8)))

  -- 9 (out)."
  pub row_9 : (p : ℕ) → answer ≡ stack_tells (Err (refusal area_too_small p)) ↔ TooSmall p
  row_9 p = (
    λ e. (refused-tells _ e).4 refl,
    λ w. refused-at area_too_small p w.0
        (⊎_elim (λ u. gives _ (scratch_small u)) (λ v. gives _ (output-small (files v.0 v.1 v.2 v.3 v.4) (fits v.0 v.1 v.2 v.3 v.4 v.5) v.6)) w.1),
  )

  -- "Answer: overlap, height, width."
  pub row-stacked : (o n w : ℕ) → answer ≡ stack_tells (stacking o n w) ↔ StackedAs o n w
  row-stacked o n w = (λ e. (tells (stack_tells (stacking o n w)) e).1 refl, so)
    where
      as_told : (p m v : ℕ) → o ≡ p → n ≡ m → w ≡ v → stack_tells (stacking p m v) ≡ stack_tells (stacking o n w)
      as_told p m v a b c = rw (a, b, c) refl

      so : StackedAs o n w → answer ≡ stack_tells (stacking o n w)
      so v =
          gives _ (stacks (files v.0 v.1 v.2 v.3 v.4) (fits v.0 v.1 v.2 v.3 v.4 v.5) v.6) ∙
          as_told _ _ _ v.7 v.8 v.9
