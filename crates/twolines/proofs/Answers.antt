-- Each answer of two lines is given exactly when document 02 says so: the answer is one of those named here, and what is named for an answer gives it.
-- Assumes nothing.
use mathlib.Core.Path.{◌≡◌, refl, sym, ap, ap₂, ◌∙◌, subst}
use mathlib.Core.Bool.{Bool, true, false, cond, ◌||◌, true≢false}
use mathlib.Core.Logic.{◌⊎◌, inl, inr, ⊎_elim}
use mathlib.Core.List.{List}
use Prim.Native.Nat.{ℕ, ◌≤◌, ◌<◌, max}
use native.Mathlib.Omega.{arith}
use lib.Dec.{ltb}
use lib.ListN.{length}
use borrow.Author.Tests.{lt-ltb, le-ltb}
use Rattle.ground.specs.Limits.{max_font_length, max_height, max_line_width, max_stack_height, max_text, min_stacked_scratch}
use Rattle.ground.specs.Refusals.{number_of, refusal, font_too_long, area_too_small, text_too_long, line_too_wide, stack_too_high}
use Rattle.ground.specs.declared.refusals.Reason.{Reason}
use Rattle.ground.specs.declared.refusals.Refusal.{Refusal}
use Rattle.ground.proofs.Tests.{or_left, or_right, below_or_not}
use Rattle.blocks.specs.Block.{Block}
use Rattle.header.specs.declared.Header.{Header}
use Rattle.header.proofs.ParameterLaws.{High}
use Rattle.chars.specs.declared.Entry.{Entry}
use Rattle.font.specs.Font as font
use Rattle.font.proofs.ReadingLaws.{font_read, font_refusal}
use Rattle.flc.specs.declared.Command.{Command}
use Rattle.flc.specs.Control as flc
use Rattle.flc.proofs.RefusalLaws.{control-refusal}
use Rattle.std.specs.Prelude.{Err}
use Rattle.columns.specs.Stack.{Stack, stacked}
use Rattle.stack.specs.StackCall.{StackTold, stack_tells, stacking, no_stack, fit_told}
use Rattle.columns.proofs.Demand.{overlap_smaller}
use Rattle.source.specs.declared.Counts.{Counts}
use Rattle.source.specs.Counting.{no_counts}
use Rattle.drawing.specs.Drawing.{mode_of, font_line, font_counts, lined_by, lined_of, unlined}
use Rattle.twolines.specs.TwoLines.{vertical_of, TwoLines, two_lines, no_lines, both_counts, lines_of, draw_lines, lines_size, lines_told, lines_counts}
use Rattle.twolines.proofs.LinesLaws.{upper_refused, upper_long, lower_long, both_lined, lines_small, lines_enough}

module _ (size : ℕ) (s control upper lower : List ℕ) (room : ℕ) where
  -- Neither 9 for the scratch nor a refusal of a file.
  pub record FilesRead : Type 0 where
    pub scratch_enough : min_stacked_scratch ≤ size
    pub header : Header
    pub characters : List Entry
    pub font_read : font.reading s ≡ font.says header characters
    pub commands : List Command
    pub stages : ℕ
    pub control-read : flc.control control ≡ flc.reads commands stages

  -- "Both texts drawn as lines by the font's horizontal layout and direction,
  abbrev pub line_by : FilesRead → List ℕ → Block
  line_by x text = font_line s x.header x.characters x.commands x.stages text

  -- then stacked by its vertical layout."
  abbrev pub stack_by : FilesRead → Stack
  stack_by x = stacked (vertical_of x.header.full_layout) x.header.hardblank.0 x.header.height (line_by x upper) x.header.height (line_by x lower)

  -- The counts over both texts.
  abbrev pub counts_by : FilesRead → Counts
  counts_by x = both_counts (font_counts s x.characters x.commands x.stages upper) (font_counts s x.characters x.commands x.stages lower)

  -- Neither 15 nor 16.
  pub record LinesFit (x : FilesRead) : Type 0 where
    pub upper_short : length upper ≤ max_text
    pub lower_short : length lower ≤ max_text
    pub upper_narrow : (line_by x upper).width ≤ max_line_width
    pub lower_narrow : (line_by x lower).width ≤ max_line_width

  -- "9 (scratch under 64,000 ..), the font's, the control file's, 15 (either text), .. 16 (either line), 9 (out)", those without a place of their own at
  -- place 0; otherwise overlap, height and width.
  pub data LinesTo : StackTold → Type 0 where
    scratch_small : size < min_stacked_scratch → LinesTo (no_stack area_too_small)
    font_refused : min_stacked_scratch ≤ size → (r : Refusal) → font.reading s ≡ font.refuses r → LinesTo (stack_tells (Err r))
    control-refused : min_stacked_scratch ≤ size → (h : Header) (es : List Entry) → font.reading s ≡ font.says h es → (r : Refusal) → flc.control control ≡ flc.refuses r → LinesTo (stack_tells (Err r))
    text_too_long_lem : FilesRead → (max_text < length upper) ⊎ (max_text < length lower) → LinesTo (no_stack text_too_long)
    line_too_wide_lem : (x : FilesRead) → length upper ≤ max_text → length lower ≤ max_text → (max_line_width < (line_by x upper).width) ⊎ (max_line_width < (line_by x lower).width) → LinesTo (no_stack line_too_wide)
    output-small : (x : FilesRead) → LinesFit x → room < lines_size (stack_by x) → LinesTo (no_stack area_too_small)
    stacks : (x : FilesRead) → LinesFit x → lines_size (stack_by x) ≤ room → LinesTo (stack_tells (stacking (stack_by x).overlap (stack_by x).height (stack_by x).block.width))

  abbrev pub both : TwoLines
  both = draw_lines size s control upper lower

  abbrev pub answer : StackTold
  answer = lines_told both room

  refused-by : (r : Refusal) → both ≡ no_lines r → answer ≡ stack_tells (Err r)
  unfolding lines_told
  refused-by r e = ap (λ (t : TwoLines). lines_told t room) e

  -- a refusal of a file is that of the upper text
  file_refused : min_stacked_scratch ≤ size → (r : Refusal) → lined_of s control upper ≡ unlined r → answer ≡ stack_tells (Err r)
  file_refused u r e = refused-by r (lines_enough s control upper lower size u ∙ upper_refused s control upper lower r e)

  module _ (x : FilesRead) where
    enough : both ≡ lines_of s control upper lower
    enough = lines_enough s control upper lower size x.scratch_enough

    upper_is_long : max_text < length upper → both ≡ no_lines (refusal text_too_long 0)
    upper_is_long u = enough ∙ upper_long s control upper lower x.header x.characters x.commands x.stages x.font_read x.control-read u

    text_is_long : (max_text < length upper) ⊎ (max_text < length lower) → both ≡ no_lines (refusal text_too_long 0)
    text_is_long (inl u) = upper_is_long u
    text_is_long (inr v) =
        ⊎_elim upper_is_long
        (λ (u : length upper ≤ max_text). enough ∙ lower_long s control upper lower x.header x.characters x.commands x.stages x.font_read x.control-read u v)
        (below_or_not max_text (length upper))

    abbrev wide : Bool
    wide = ltb max_line_width (line_by x upper).width || ltb max_line_width (line_by x lower).width

    by_width : length upper ≤ max_text → length lower ≤ max_text → (t : Bool) → wide ≡ t → both ≡ cond t (no_lines (refusal line_too_wide 0)) (two_lines (stack_by x) (counts_by x))
    unfolding mode_of
    by_width u v t e =
        enough ∙ both_lined s control upper lower x.header x.characters x.commands x.stages x.font_read x.control-read u v
        ∙ ap (λ (b : Bool). cond b (no_lines (refusal line_too_wide 0)) (two_lines (stack_by x) (counts_by x))) e

    one-wide : (max_line_width < (line_by x upper).width) ⊎ (max_line_width < (line_by x lower).width) → wide ≡ true
    one-wide (inl u) = or_left (ltb max_line_width (line_by x upper).width) (ltb max_line_width (line_by x lower).width) (lt-ltb max_line_width (line_by x upper).width u)
    one-wide (inr v) = or_right (ltb max_line_width (line_by x upper).width) (ltb max_line_width (line_by x lower).width) (lt-ltb max_line_width (line_by x lower).width v)

    -- "18 cannot come (twice 32 rows)": the font's Height is at most 32.
    font_high : High x.header.height
    font_high = (font_read s x.header x.characters x.font_read).high

    pub few-rows : (stack_by x).height ≤ max_stack_height
    unfolding stacked
    few-rows = omega (arith, font_high.1)

    pub is-stacked : LinesFit x → both ≡ two_lines (stack_by x) (counts_by x)
    is-stacked f =
        by_width f.upper_short f.lower_short false
        (ap₂ ◌||◌ (le-ltb max_line_width (line_by x upper).width f.upper_narrow) (le-ltb max_line_width (line_by x lower).width f.lower_narrow))

    put_by : LinesFit x → answer ≡ fit_told (stack_by x) (lines_size (stack_by x)) room
    unfolding lines_told
    put_by f = ap (λ (t : TwoLines). lines_told t room) (is-stacked f)

    no_room : room < lines_size (stack_by x) → fit_told (stack_by x) (lines_size (stack_by x)) room ≡ no_stack area_too_small
    unfolding fit_told
    no_room m = rw (le-ltb max_stack_height (stack_by x).height few-rows, lt-ltb room (lines_size (stack_by x)) m)

    enough_room : lines_size (stack_by x) ≤ room → fit_told (stack_by x) (lines_size (stack_by x)) room ≡ stack_tells (stacking (stack_by x).overlap (stack_by x).height (stack_by x).block.width)
    unfolding fit_told
    enough_room m = rw (le-ltb max_stack_height (stack_by x).height few-rows, le-ltb room (lines_size (stack_by x)) m)

  -- Each of these gives its answer,
  pub gives : (t : StackTold) → LinesTo t → answer ≡ t
  unfolding lined_of
  gives _ (scratch_small u) = refused-by _ (lines_small s control upper lower size u)
  gives _ (font_refused u r f) = file_refused u r (ap (λ (x : font.FontReading). lined_by s x (flc.control control) upper) f)
  gives _ (control-refused u h es f r c) =
      file_refused u r (ap (λ (x : font.FontReading). lined_by s x (flc.control control) upper) f ∙ ap (λ (x : flc.ControlReading). lined_by s (font.says h es) x upper) c)
  gives _ (text_too_long_lem x t) = refused-by _ (text_is_long x t)
  gives _ (line_too_wide_lem x u v w) = refused-by _ (by_width x u v true (one-wide x w))
  gives _ (output-small x f m) = put_by x f ∙ no_room x m
  gives _ (stacks x f m) = put_by x f ∙ enough_room x m

  -- and the answer is one of them.
  pub one_of : LinesTo answer
  one_of = ⊎_elim (λ u. as_told _ (scratch_small u)) (λ u. by_font u (font.reading s) refl) (below_or_not size min_stacked_scratch)
    where
      as_told : (t : StackTold) → LinesTo t → LinesTo answer
      as_told t d = subst LinesTo (sym (gives t d)) d

      by-room : (x : FilesRead) → LinesFit x → LinesTo answer
      by-room x f = ⊎_elim (λ m. as_told _ (output-small x f m)) (λ m. as_told _ (stacks x f m)) (below_or_not room (lines_size (stack_by x)))

      by_widths : (x : FilesRead) → length upper ≤ max_text → length lower ≤ max_text → LinesTo answer
      by_widths x u v =
          ⊎_elim (λ w. as_told _ (line_too_wide_lem x u v (inl w)))
          (λ (w : (line_by x upper).width ≤ max_line_width).
          ⊎_elim (λ z. as_told _ (line_too_wide_lem x u v (inr z))) (λ z. by-room x (record { upper_short = u; lower_short = v; upper_narrow = w; lower_narrow = z }))
          (below_or_not max_line_width (line_by x lower).width))
          (below_or_not max_line_width (line_by x upper).width)

      by_texts : FilesRead → LinesTo answer
      by_texts x =
          ⊎_elim (λ u. as_told _ (text_too_long_lem x (inl u)))
          (λ (u : length upper ≤ max_text). ⊎_elim (λ v. as_told _ (text_too_long_lem x (inr v))) (λ v. by_widths x u v) (below_or_not max_text (length lower)))
          (below_or_not max_text (length upper))

      by-control : min_stacked_scratch ≤ size → (h : Header) (es : List Entry) → font.reading s ≡ font.says h es → (c : flc.ControlReading) → flc.control control ≡ c → LinesTo answer
      by-control u h es f (flc.refuses r) c = as_told _ (control-refused u h es f r c)
      by-control u h es f (flc.reads cs k) c = by_texts (record { scratch_enough = u; header = h; characters = es; font_read = f; commands = cs; stages = k; control-read = c })

      by_font : min_stacked_scratch ≤ size → (f : font.FontReading) → font.reading s ≡ f → LinesTo answer
      by_font u (font.refuses r) f = as_told _ (font_refused u r f)
      by_font u (font.says h es) f = by-control u h es f (flc.control control) refl

  -- What a refusal tells: a number from 1 to 16, at a place of the font or of the control file, or at the end of one.
  pub record RefusalWithin (t : StackTold) : Type 0 where
    pub number_from_1 : number_of font_too_long ≤ t.number
    pub number_to_16 : t.number ≤ number_of line_too_wide
    pub place_in_file : (t.place ≤ length s) ⊎ (t.place ≤ length control)
    pub place-small : t.place ≤ max_font_length

  pub refused-tells : answer.refused ≡ true → RefusalWithin answer
  refused-tells e = go answer one_of e
    where
      at_0 : (n : Reason) → number_of font_too_long ≤ number_of n → number_of n ≤ number_of line_too_wide → RefusalWithin (no_stack n)
      at_0 n u v = record { number_from_1 = u; number_to_16 = v; place_in_file = inl (omega arith); place-small = omega arith }

      go : (t : StackTold) → LinesTo t → t.refused ≡ true → RefusalWithin t
      go _ (scratch_small u) e = at_0 area_too_small (omega arith) (omega arith)
      go _ (font_refused u r f) e =
          let n = font_refusal s r f in
          record { number_from_1 = n.0; number_to_16 = omega (arith, n.1); place_in_file = inl n.2; place-small = n.3 }
      go _ (control-refused u h es f r c) e =
          let n = control-refusal control r c in
          record { number_from_1 = omega (arith, n.0); number_to_16 = omega (arith, n.1); place_in_file = inr n.2; place-small = omega (arith, n.3) }
      go _ (text_too_long_lem x t) e = at_0 text_too_long (omega arith) (omega arith)
      go _ (line_too_wide_lem x u v w) e = at_0 line_too_wide (omega arith) (omega arith)
      go _ (output-small x f m) e = at_0 area_too_small (omega arith) (omega arith)
      go _ (stacks x f m) e = absurd (true≢false (sym e))

  -- What a success tells: files that are read, lines that fit, and their stack in the room.
  pub record StackTells (t : StackTold) : Type 0 where
    pub files : FilesRead
    pub fit : LinesFit files
    pub room_enough : lines_size (stack_by files) ≤ room
    pub told : t ≡ stack_tells (stacking (stack_by files).overlap (stack_by files).height (stack_by files).block.width)

  pub success_tells : answer.refused ≡ false → StackTells answer
  success_tells e = go answer one_of e
    where
      go : (t : StackTold) → LinesTo t → t.refused ≡ false → StackTells t
      go _ (scratch_small u) e = absurd (true≢false e)
      go _ (font_refused u r f) e = absurd (true≢false e)
      go _ (control-refused u h es f r c) e = absurd (true≢false e)
      go _ (text_too_long_lem x t) e = absurd (true≢false e)
      go _ (line_too_wide_lem x u v w) e = absurd (true≢false e)
      go _ (output-small x f m) e = absurd (true≢false e)
      go _ (stacks x f m) e = record { files = x; fit = f; room_enough = m; told = refl }

  -- 02, Q-2: the counts over both texts beside a success; "a refusal tells 0 and 0".
  pub counts-told : (x : FilesRead) → LinesFit x → lines_size (stack_by x) ≤ room → lines_counts both room ≡ counts_by x
  unfolding lines_counts lines_told
  counts-told x f m =
      ap (λ (t : TwoLines). lines_counts t room) (is-stacked x f) ∙
      ap (λ (t : StackTold). cond t.refused no_counts (counts_by x)) (enough_room x m)

  pub counts-refused : answer.refused ≡ true → lines_counts both room ≡ no_counts
  unfolding lines_counts
  counts-refused e = go both refl
    where
      go : (t : TwoLines) → both ≡ t → lines_counts both room ≡ no_counts
      go (no_lines r) p = ap (λ (t : TwoLines). lines_counts t room) p
      go (two_lines s n) p =
          ap (λ (t : TwoLines). lines_counts t room) p ∙
          ap (λ (b : Bool). cond b no_counts n) (sym (ap (λ (t : TwoLines). (lines_told t room).refused) p) ∙ e)

  -- "18 cannot come."
  pub never_18 : answer.number ≡ number_of stack_too_high → ⊥
  never_18 e = go answer.refused refl
    where
      go : (b : Bool) → answer.refused ≡ b → ⊥
      go true r = omega (arith, e, (refused-tells r).number_to_16)
      go false r = omega (arith, e, ap (λ (t : StackTold). t.number) (success_tells r).told)

  -- The overlap is at most the greatest Height; the two lines are at most 64 rows high and 1,000 columns wide.
  pub lines_within : (o h w : ℕ) → stack_tells (stacking o h w) ≡ answer → (o ≤ max_height) × (h ≤ max_stack_height) × (w ≤ max_line_width)
  unfolding stacked
  lines_within o h w e =
      let is = success_tells (sym (ap (λ (t : StackTold). t.refused) e)) in
      let x = is.files in
      let n = x.header.height in
      let all = e ∙ is.told in
      let over : o ≡ (stack_by x).overlap = ap (λ (t : StackTold). t.overlap) all in
      let high : h ≡ (stack_by x).height = ap (λ (t : StackTold). t.height) all in
      let wide : w ≡ max (line_by x upper).width (line_by x lower).width = ap (λ (t : StackTold). t.width) all in
      let smaller = overlap_smaller x.header.hardblank.0 n (line_by x upper) n (line_by x lower) (vertical_of x.header.full_layout) in
      (omega (arith, over, smaller, (font_high x).1), omega (arith, high, few-rows x), omega (arith, wide, is.fit.upper_narrow, is.fit.lower_narrow))
