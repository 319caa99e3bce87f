-- Each answer of a drawing from a pack is given exactly when document 02, Q-6, says so: the answer is one of those named here, and what is named for an answer gives it.
-- Assumes nothing.
use mathlib.Core.Path.{◌≡◌, refl, sym, ap, ap₂, ◌∙◌, subst}
use mathlib.Core.Bool.{Bool, true, false, true≢false}
use mathlib.Core.List.{List}
use mathlib.Core.Logic.{◌↔◌, ◌⊎◌, inl, inr, ⊎_elim}
use Prim.Native.Nat.{ℕ, ◌+◌, ◌*◌, ◌≤◌, ◌<◌}
use native.Mathlib.Omega.{arith}
use lib.Dec.{ltb, leb}
use lib.ListN.{length}
use borrow.Author.Tests.{ltb-true, ltb-false, leb-true, leb-false}
use Rattle.ground.specs.Limits.{max_line_width, max_text, min_scratch, max_rules}
use Rattle.ground.specs.Refusals.{refusal, number_of, area_too_small, control_file_too_long, too_many_commands, text_too_long, line_too_wide, bad_shape, damaged_pack}
use Rattle.ground.specs.declared.refusals.Reason.{Reason}
use Rattle.ground.specs.declared.refusals.Refusal.{Refusal}
use Rattle.ground.proofs.Tests.{and_left, and_right, and_none, not_true_false, clash}
use Rattle.subchars.specs.declared.Direction.{Direction}
use Rattle.subchars.specs.declared.Layout.{Layout}
use Rattle.subchars.specs.declared.Layout.TheVariants.{FullWidth, Fitting, Smushing}
use Rattle.subchars.specs.declared.Smushing.TheVariants.{Universal, Controlled}
use Rattle.blocks.specs.Block.{Block}
use Rattle.join.specs.Shape.{good_kind, good_layout}
use Rattle.showing.specs.Output.{output_of}
use Rattle.showing.proofs.Showing.{too_wide, no_room, drawn}
use Rattle.records.specs.declared.Head.{Head}
use Rattle.heads.specs.Pack.{Pack, says, damaged, meaning}
use Rattle.flc.specs.declared.Command.{Command}
use Rattle.flc.specs.Control as flc
use Rattle.flc.proofs.RefusalLaws.{control-refusal}
use Rattle.source.specs.declared.Counts.{Counts}
use Rattle.source.specs.Source.{pack_source}
use Rattle.source.specs.Counting.{counts_of}
use Rattle.drawing.specs.declared.DrawAnswer.{DrawAnswer}
use Rattle.drawing.specs.declared.DrawAnswer.TheVariants.{Drawn, Refused}
use Rattle.drawing.specs.Drawing.{text_codes, line_of, Lined, unlined, lined_from, with_counts, lined_answer}
use Rattle.drawing.proofs.OutputLaws.{source-long, source-lined}
use Rattle.packdrawing.specs.PackDrawing.{pack_mode, pack_lined}
use Rattle.packdrawing.proofs.PackCases as cases

-- "A layout of bad shape": "rules outside 1 to 63 in controlled mode".
abbrev pub BadLayout : Layout → Type 0
BadLayout layout = (rules : ℕ) × (layout ≡ Smushing (Controlled rules)) × ((rules < 1) ⊎ (max_rules < rules))

layout_bad : (layout : Layout) → good_layout layout ≡ false → BadLayout layout
layout_bad FullWidth e = absurd (true≢false e)
layout_bad Fitting e = absurd (true≢false e)
layout_bad (Smushing Universal) e = absurd (true≢false e)
layout_bad (Smushing (Controlled rules)) e = (rules, refl, ⊎_elim (λ a. inl (leb-false 1 rules a)) (λ a. inr (leb-false rules max_rules a)) (and_none (leb 1 rules) _ e))

bad_layout : (layout : Layout) → BadLayout layout → good_layout layout ≡ true → ⊥
bad_layout layout x e = rules_good x.0 (sym (ap good_layout x.1) ∙ e) x.2
  where
    rules_good : (rules : ℕ) → good_kind (Controlled rules) ≡ true → (rules < 1) ⊎ (max_rules < rules) → ⊥
    rules_good rules e w =
        let low = leb-true 1 rules (and_left (leb 1 rules) _ e) in
        let high = leb-true rules max_rules (and_right (leb 1 rules) _ e) in
        ⊎_elim (λ a. omega arith) (λ a. omega arith) w

layout_good : (layout : Layout) → (BadLayout layout → ⊥) → good_layout layout ≡ true
layout_good layout n = go (good_layout layout) refl
  where
    go : (b : Bool) → good_layout layout ≡ b → b ≡ true
    go true e = refl
    go false e = absurd (n (layout_bad layout e))

module _ (size : ℕ) (t : List ℕ) (layout : Layout) (direction : Direction) (control text : List ℕ) (room : ℕ) where
  -- Neither 9 for the scratch, 20, 17, nor a refusal of the control file.
  pub record PackRead : Type 0 where
    pub scratch_enough : min_scratch ≤ size
    pub head : Head
    pub records : List (List ℕ)
    pub said : meaning t ≡ says head records
    pub shaped : BadLayout layout → ⊥
    pub commands : List Command
    pub stages : ℕ
    pub control-read : flc.control control ≡ flc.reads commands stages

  -- The line of the text by what was read, its counts, and the bytes that it takes.
  abbrev line_for : Head → List (List ℕ) → List Command → ℕ → Block
  line_for f rs cs k = line_of (pack_mode f layout direction) f.height (pack_source f rs) (text_codes cs k text)

  abbrev line_by : PackRead → Block
  line_by x = line_for x.head x.records x.commands x.stages

  abbrev counts_by : PackRead → Counts
  counts_by x = counts_of (pack_source x.head x.records) (text_codes x.commands x.stages text)

  abbrev bytes_by : PackRead → ℕ
  bytes_by x = x.head.height * ((line_by x).width + 1)

  -- "9 (scratch), 20, 17 (layout of bad shape), the control file's, 15, .. 16, 9 (out)"; otherwise the width and the counts.
  pub data DrawsTo : DrawAnswer → Type 0 where
    scratch_small : size < min_scratch → DrawsTo (Refused (refusal area_too_small 0))
    pack_damaged : min_scratch ≤ size → meaning t ≡ damaged → DrawsTo (Refused (refusal damaged_pack 0))
    layout_refused : min_scratch ≤ size → (f : Head) (rs : List (List ℕ)) → meaning t ≡ says f rs → BadLayout layout → DrawsTo (Refused (refusal bad_shape 0))
    control-refused : min_scratch ≤ size → (f : Head) (rs : List (List ℕ)) → meaning t ≡ says f rs → (BadLayout layout → ⊥) → (r : Refusal) → flc.control control ≡ flc.refuses r → DrawsTo (Refused r)
    text_too_long_lem : PackRead → max_text < length text → DrawsTo (Refused (refusal text_too_long 0))
    line_too_wide_lem : (x : PackRead) → length text ≤ max_text → max_line_width < (line_by x).width → DrawsTo (Refused (refusal line_too_wide 0))
    output-small : (x : PackRead) → length text ≤ max_text → (line_by x).width ≤ max_line_width → room < bytes_by x → DrawsTo (Refused (refusal area_too_small 0))
    draws : (x : PackRead) → length text ≤ max_text → (line_by x).width ≤ max_line_width → bytes_by x ≤ room → DrawsTo (Drawn (line_by x).width (counts_by x))

  abbrev pub answer : DrawAnswer
  answer = lined_answer (pack_lined size t layout direction control text) room

  refused-by : (r : Refusal) → pack_lined size t layout direction control text ≡ unlined r → answer ≡ Refused r
  unfolding lined_answer
  refused-by r e = ap (λ (x : Lined). lined_answer x room) e

  -- from a pack that says a head and records, by a layout that is not refused
  from_source : min_scratch ≤ size → (f : Head) (rs : List (List ℕ)) → meaning t ≡ says f rs → (BadLayout layout → ⊥) →
      pack_lined size t layout direction control text ≡ lined_from (pack_mode f layout direction) f.height (pack_source f rs) (flc.control control) text
  from_source u f rs m n = cases.scratch_enough t layout direction control text size u ∙ cases.of_good_layout t layout direction control text f rs m (layout_good layout n)

  by-source : (x : PackRead) → pack_lined size t layout direction control text ≡ lined_from (pack_mode x.head layout direction) x.head.height (pack_source x.head x.records) (flc.control control) text
  by-source x = from_source x.scratch_enough x.head x.records x.said x.shaped

  put_by : (x : PackRead) → length text ≤ max_text → answer ≡ with_counts (counts_by x) (output_of x.head.height (line_by x) room)
  unfolding lined_answer
  put_by x l =
      ap (λ (y : Lined). lined_answer y room)
      (by-source x ∙ source-lined (pack_mode x.head layout direction) x.head.height (pack_source x.head x.records) control text x.commands x.stages x.control-read l)

  -- Each of these gives its answer,
  pub gives : (a : DrawAnswer) → DrawsTo a → answer ≡ a
  gives _ (scratch_small u) = refused-by _ (cases.scratch_small t layout direction control text size u)
  gives _ (pack_damaged u e) = refused-by _ (cases.scratch_enough t layout direction control text size u ∙ cases.of_damaged t layout direction control text e)
  gives _ (layout_refused u f rs m x) =
      refused-by _ (cases.scratch_enough t layout direction control text size u ∙ cases.of_bad_layout t layout direction control text f rs m (not_true_false (good_layout layout) (bad_layout layout x)))
  gives _ (control-refused u f rs m n r c) =
      refused-by r (from_source u f rs m n ∙ ap (λ (x : flc.ControlReading). lined_from (pack_mode f layout direction) f.height (pack_source f rs) x text) c)
  gives _ (text_too_long_lem x l) =
      refused-by _ (by-source x ∙ source-long (pack_mode x.head layout direction) x.head.height (pack_source x.head x.records) control text x.commands x.stages x.control-read l)
  gives _ (line_too_wide_lem x l w) = put_by x l ∙ ap (with_counts (counts_by x)) (sym (too_wide 0 x.head.height (line_by x) room w))
  gives _ (output-small x l w m) = put_by x l ∙ ap (with_counts (counts_by x)) (sym (no_room 0 x.head.height (line_by x) room w m))
  gives _ (draws x l w m) = put_by x l ∙ ap (with_counts (counts_by x)) (sym (drawn 0 x.head.height (line_by x) room w m))

  -- and the answer is one of them.
  pub one_of : DrawsTo answer
  one_of = by_size (ltb size min_scratch) refl
    where
      as_told : (a : DrawAnswer) → DrawsTo a → DrawsTo answer
      as_told a d = subst DrawsTo (sym (gives a d)) d

      by-room : (x : PackRead) → length text ≤ max_text → (line_by x).width ≤ max_line_width → (b : Bool) → ltb room (bytes_by x) ≡ b → DrawsTo answer
      by-room x l w true e = as_told _ (output-small x l w (ltb-true room (bytes_by x) e))
      by-room x l w false e = as_told _ (draws x l w (ltb-false room (bytes_by x) e))

      by_width : (x : PackRead) → length text ≤ max_text → (b : Bool) → ltb max_line_width (line_by x).width ≡ b → DrawsTo answer
      by_width x l true e = as_told _ (line_too_wide_lem x l (ltb-true max_line_width (line_by x).width e))
      by_width x l false e = by-room x l (ltb-false max_line_width (line_by x).width e) (ltb room (bytes_by x)) refl

      by-text : PackRead → (b : Bool) → ltb max_text (length text) ≡ b → DrawsTo answer
      by-text x true e = as_told _ (text_too_long_lem x (ltb-true max_text (length text) e))
      by-text x false e = by_width x (ltb-false max_text (length text) e) (ltb max_line_width (line_by x).width) refl

      by-control : min_scratch ≤ size → (f : Head) (rs : List (List ℕ)) → meaning t ≡ says f rs → (BadLayout layout → ⊥) → (x : flc.ControlReading) → flc.control control ≡ x → DrawsTo answer
      by-control u f rs m n (flc.refuses r) c = as_told _ (control-refused u f rs m n r c)
      by-control u f rs m n (flc.reads cs k) c =
          by-text (record { scratch_enough = u; head = f; records = rs; said = m; shaped = n; commands = cs; stages = k; control-read = c }) (ltb max_text (length text)) refl

      by_layout : min_scratch ≤ size → (f : Head) (rs : List (List ℕ)) → meaning t ≡ says f rs → (b : Bool) → good_layout layout ≡ b → DrawsTo answer
      by_layout u f rs m true e = by-control u f rs m (λ x. bad_layout layout x e) (flc.control control) refl
      by_layout u f rs m false e = as_told _ (layout_refused u f rs m (layout_bad layout e))

      by_pack : min_scratch ≤ size → (p : Pack) → meaning t ≡ p → DrawsTo answer
      by_pack u damaged m = as_told _ (pack_damaged u m)
      by_pack u (says f rs) m = by_layout u f rs m (good_layout layout) refl

      by_size : (b : Bool) → ltb size min_scratch ≡ b → DrawsTo answer
      by_size true e = as_told _ (scratch_small (ltb-true size min_scratch e))
      by_size false e = by_pack (ltb-false size min_scratch e) (meaning t) refl

  -- Each answer by itself: what it is given for. The scratch is large enough, the pack says this and the layout is of good shape; and the control file says this.
  abbrev Opened : Head → List (List ℕ) → Type 0
  Opened f rs = (min_scratch ≤ size) × (meaning t ≡ says f rs) × (BadLayout layout → ⊥)

  abbrev Read : Head → List (List ℕ) → List Command → ℕ → Type 0
  Read f rs cs k = Opened f rs × (flc.control control ≡ flc.reads cs k)

  abbrev files : (f : Head) (rs : List (List ℕ)) (cs : List Command) (k : ℕ) → Read f rs cs k → PackRead
  files f rs cs k r = record { scratch_enough = r.0.0; head = f; records = rs; said = r.0.1; shaped = r.0.2; commands = cs; stages = k; control-read = r.1 }

  read : (x : PackRead) → Read x.head x.records x.commands x.stages
  read x = ((x.scratch_enough, x.said, x.shaped), x.control-read)

  abbrev ControlFor : Refusal → Type 0
  ControlFor r = (f : Head) × (rs : List (List ℕ)) × (Opened f rs) × (flc.control control ≡ flc.refuses r)

  abbrev Damaged : ℕ → Type 0
  Damaged p = (p ≡ 0) × (min_scratch ≤ size) × (meaning t ≡ damaged)

  abbrev BadShape : ℕ → Type 0
  BadShape p = (p ≡ 0) × (min_scratch ≤ size) × (f : Head) × (rs : List (List ℕ)) × (meaning t ≡ says f rs) × BadLayout layout

  abbrev TooLong : ℕ → Type 0
  TooLong p = (p ≡ 0) × (f : Head) × (rs : List (List ℕ)) × (cs : List Command) × (k : ℕ) × (Read f rs cs k) × (max_text < length text)

  abbrev TooWide : ℕ → Type 0
  TooWide p = (p ≡ 0) × (f : Head) × (rs : List (List ℕ)) × (cs : List Command) × (k : ℕ) × (Read f rs cs k) × (length text ≤ max_text) × (max_line_width < (line_for f rs cs k).width)

  abbrev TooSmall : ℕ → Type 0
  TooSmall p =
      (p ≡ 0) ×
      ((size < min_scratch) ⊎
      ((f : Head) × (rs : List (List ℕ)) × (cs : List Command) × (k : ℕ) × (Read f rs cs k) × (length text ≤ max_text) × ((line_for f rs cs k).width ≤ max_line_width) ×
      (room < f.height * ((line_for f rs cs k).width + 1))))

  abbrev DrawnAs : ℕ → Counts → Type 0
  DrawnAs w n =
      (f : Head) × (rs : List (List ℕ)) × (cs : List Command) × (k : ℕ) × (Read f rs cs k) × (length text ≤ max_text) × ((line_for f rs cs k).width ≤ max_line_width) ×
      (f.height * ((line_for f rs cs k).width + 1) ≤ room) × (w ≡ (line_for f rs cs k).width) × (n ≡ counts_of (pack_source f rs) (text_codes cs k text))

  abbrev Told : DrawAnswer → Type 0
  Told (Drawn w n) = DrawnAs w n
  Told (Refused r) =
      (r.reason ≡ damaged_pack → Damaged r.place) ×
      (r.reason ≡ bad_shape → BadShape r.place) ×
      (number_of control_file_too_long ≤ number_of r.reason → number_of r.reason ≤ number_of too_many_commands → ControlFor r) ×
      (r.reason ≡ text_too_long → TooLong r.place) ×
      (r.reason ≡ line_too_wide → TooWide r.place) ×
      (r.reason ≡ area_too_small → TooSmall r.place)

  told : (a : DrawAnswer) → DrawsTo a → Told a
  told _ (scratch_small u) = (λ e. clash (cc), λ e. clash (cc), λ e f. absurd (omega arith), λ e. clash (cc), λ e. clash (cc), λ e. (refl, inl u))
  told _ (pack_damaged u m) = (λ e. (refl, u, m), λ e. clash (cc), λ e f. absurd (omega arith), λ e. clash (cc), λ e. clash (cc), λ e. clash (cc))
  told _ (layout_refused u f rs m x) =
      (λ e. clash (cc), λ e. (refl, u, f, rs, m, x), λ e g. absurd (omega arith), λ e. clash (cc), λ e. clash (cc), λ e. clash (cc))
  told _ (control-refused u f rs m n r c) =
      let b = control-refusal control r c in (
        λ e. absurd (omega (arith, b.1, ap number_of e)),
        λ e. absurd (omega (arith, b.1, ap number_of e)),
        λ e g. (f, rs, (u, m, n), c),
        λ e. absurd (omega (arith, b.1, ap number_of e)),
        λ e. absurd (omega (arith, b.1, ap number_of e)),
        λ e. absurd (omega (arith, b.0, ap number_of e)),
      )
  told _ (text_too_long_lem x l) =
      (λ e. clash (cc), λ e. clash (cc), λ e f. absurd (omega arith), λ e. (refl, x.head, x.records, x.commands, x.stages, read x, l), λ e. clash (cc), λ e. clash (cc))
  told _ (line_too_wide_lem x l w) =
      (λ e. clash (cc), λ e. clash (cc), λ e f. absurd (omega arith), λ e. clash (cc), λ e. (refl, x.head, x.records, x.commands, x.stages, read x, l, w), λ e. clash (cc))
  told _ (output-small x l w m) =
      (λ e. clash (cc), λ e. clash (cc), λ e f. absurd (omega arith), λ e. clash (cc), λ e. clash (cc), λ e. (refl, inr (x.head, x.records, x.commands, x.stages, read x, l, w, m)))
  told _ (draws x l w m) = (x.head, x.records, x.commands, x.stages, read x, l, w, m, refl, refl)

  tells : (a : DrawAnswer) → answer ≡ a → Told a
  tells a e = told a (subst DrawsTo e one_of)

  refused-at : (why : Reason) (p : ℕ) → p ≡ 0 → answer ≡ Refused (refusal why 0) → answer ≡ Refused (refusal why p)
  refused-at why p e a = subst (λ (q : ℕ). answer ≡ Refused (refusal why q)) (sym e) a

  pub row_20 : (p : ℕ) → answer ≡ Refused (refusal damaged_pack p) ↔ Damaged p
  row_20 p = (λ e. (tells _ e).0 refl, λ w. refused-at damaged_pack p w.0 (gives _ (pack_damaged w.1 w.2)))

  pub row_17 : (p : ℕ) → answer ≡ Refused (refusal bad_shape p) ↔ BadShape p
  row_17 p = (λ e. (tells _ e).1 refl, λ w. refused-at bad_shape p w.0 (gives _ (layout_refused w.1 w.2 w.3 w.4 w.5)))

  pub row-control : (r : Refusal) → number_of control_file_too_long ≤ number_of r.reason → number_of r.reason ≤ number_of too_many_commands → answer ≡ Refused r ↔ ControlFor r
  row-control r u v = (λ e. (tells _ e).2 u v, λ w. gives _ (control-refused w.2.0 w.0 w.1 w.2.1 w.2.2 r w.3))

  pub row_15 : (p : ℕ) → answer ≡ Refused (refusal text_too_long p) ↔ TooLong p
  row_15 p = (λ e. (tells _ e).3 refl, λ w. refused-at text_too_long p w.0 (gives _ (text_too_long_lem (files w.1 w.2 w.3 w.4 w.5) w.6)))

  pub row_16 : (p : ℕ) → answer ≡ Refused (refusal line_too_wide p) ↔ TooWide p
  row_16 p = (λ e. (tells _ e).4 refl, λ w. refused-at line_too_wide p w.0 (gives _ (line_too_wide_lem (files w.1 w.2 w.3 w.4 w.5) w.6 w.7)))

  pub row_9 : (p : ℕ) → answer ≡ Refused (refusal area_too_small p) ↔ TooSmall p
  row_9 p = (
    λ e. (tells _ e).5 refl,
    λ w. refused-at area_too_small p w.0
        (⊎_elim (λ u. gives _ (scratch_small u)) (λ v. gives _ (output-small (files v.0 v.1 v.2 v.3 v.4) v.5 v.6 v.7)) w.1),
  )

  pub row_drawn : (w : ℕ) (n : Counts) → answer ≡ Drawn w n ↔ DrawnAs w n
  row_drawn w n = (λ e. tells _ e, λ v. gives _ (draws (files v.0 v.1 v.2 v.3 v.4) v.5 v.6 v.7) ∙ ap₂ Drawn (sym v.8) (sym v.9))
