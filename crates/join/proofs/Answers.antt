-- Each answer of a join is given exactly when document 01 says so: the answer is one of those named here, and what is named for an answer gives it.
-- Assumes nothing.
use mathlib.Core.Path.{◌≡◌, refl, sym, ap, ap₂, ◌∙◌, subst}
use mathlib.Core.Bool.{Bool, true, false, ◌&&◌, true≢false}
use mathlib.Core.Logic.{◌↔◌, ◌⊎◌, inl, inr, ⊎_elim}
use mathlib.Core.List.{List}
use Prim.Native.Nat.{ℕ, ◌*◌, ◌≤◌, ◌<◌}
use native.Mathlib.Omega.{arith}
use lib.Dec.{ltb, leb}
use lib.ListN.{length}
use borrow.Author.Tests.{lt-ltb, le-ltb, ltb-true, ltb-false, leb-true, leb-false}
use Rattle.ground.specs.Limits.{max_height, max_line_width, max_character_width, max_rules}
use Rattle.ground.specs.declared.refusals.Reason.{Reason}
use Rattle.ground.specs.Refusals.{number_of, area_too_small, line_too_wide, bad_shape, refusal}
use Rattle.ground.proofs.Tests.{and_none, and_left, and_right, never_both}
use Rattle.subchars.specs.declared.Layout.{Layout}
use Rattle.subchars.specs.declared.Layout.TheVariants.{FullWidth, Fitting, Smushing}
use Rattle.subchars.specs.declared.Smushing.TheVariants.{Universal, Controlled}
use Rattle.subchars.specs.declared.Mode.{Mode}
use Rattle.subchars.specs.Hardblank.{legal_hardblank}
use Rattle.blocks.specs.Block.{Block, exact_block, left_of, right_of}
use Rattle.overlap.specs.Join.{overlap, besides}
use Rattle.join.specs.Shape.{good_kind, good_layout, good_block, good_shape}
use Rattle.std.specs.Prelude.{Err}
use Rattle.join.specs.JoinCall.{JoinTold, join_tells, joining, refusing, told_of, join_told}
use Rattle.join.proofs.GoodShape.{block_good, block_bad}
use Rattle.overlap.proofs.Demand.{overlap_narrower}

-- 17: "height outside 1 to 32, line width over 1,000, character width over 199, rules outside 1 to 63 in controlled mode, a hardblank that 3
-- refuses, or blocks not exactly height times width long".
module _ (y : Mode) (h n : ℕ) (line : List ℕ) (m : ℕ) (character : List ℕ) where
  pub data BadShape : Type 0 where
    height_under : h < 1 → BadShape
    height_over : max_height < h → BadShape
    line_over : max_line_width < n → BadShape
    character_over : max_character_width < m → BadShape
    rules_outside : (rules : ℕ) → y.layout ≡ Smushing (Controlled rules) → (rules < 1) ⊎ (max_rules < rules) → BadShape
    hardblank-refused : legal_hardblank y.hardblank.0 ≡ false → BadShape
    line_not_exact : (length line ≡ h * n → ⊥) → BadShape
    character_not_exact : (length character ≡ h * m → ⊥) → BadShape

  -- the same in one sentence
  abbrev pub ShapeBad : Type 0
  ShapeBad =
      (h < 1) ⊎ (max_height < h) ⊎ (max_line_width < n) ⊎ (max_character_width < m) ⊎ ((rules : ℕ) × (y.layout ≡ Smushing (Controlled rules)) × ((rules < 1) ⊎ (max_rules < rules))) ⊎
      (legal_hardblank y.hardblank.0 ≡ false) ⊎ (length line ≡ h * n → ⊥) ⊎ (length character ≡ h * m → ⊥)

  shape_listed : BadShape ↔ ShapeBad
  shape_listed = (
    to,
    λ a. ⊎_elim height_under (λ b. ⊎_elim height_over (λ c. ⊎_elim line_over (λ d. ⊎_elim character_over (λ e. ⊎_elim (λ r. rules_outside r.0 r.1 r.2) (λ f. ⊎_elim hardblank-refused (λ g. ⊎_elim line_not_exact character_not_exact g) f) e) d) c) b) a,
  )
    where
      to : BadShape → ShapeBad
      to (height_under u) = inl u
      to (height_over u) = inr (inl u)
      to (line_over u) = inr (inr (inl u))
      to (character_over u) = inr (inr (inr (inl u)))
      to (rules_outside rules e u) = inr (inr (inr (inr (inl (rules, e, u)))))
      to (hardblank-refused u) = inr (inr (inr (inr (inr (inl u)))))
      to (line_not_exact u) = inr (inr (inr (inr (inr (inr (inl u))))))
      to (character_not_exact u) = inr (inr (inr (inr (inr (inr (inr u))))))

  abbrev shape : Bool
  shape = good_shape y h n (length line) m (length character)

  -- a block that is not good
  block_fails : (widest width bytes : ℕ) → good_block max_height h widest width bytes ≡ false → (widest < width → BadShape) → ((bytes ≡ h * width → ⊥) → BadShape) → BadShape
  block_fails widest width bytes e = block_bad max_height h widest width bytes e height_under height_over

  layout_bad : (layout : Layout) → y.layout ≡ layout → good_layout layout ≡ false → BadShape
  layout_bad FullWidth q e = absurd (true≢false e)
  layout_bad Fitting q e = absurd (true≢false e)
  layout_bad (Smushing Universal) q e = absurd (true≢false e)
  layout_bad (Smushing (Controlled rules)) q e = rules_outside rules q (⊎_elim (λ a. inl (leb-false 1 rules a)) (λ a. inr (leb-false rules max_rules a)) (and_none (leb 1 rules) _ e))

  pub shape_bad : shape ≡ false → BadShape
  unfolding good_shape
  shape_bad e =
      let l = good_block max_height h max_line_width n (length line) in
      let c = good_block max_height h max_character_width m (length character) in
      ⊎_elim
      (λ a. ⊎_elim (λ b. ⊎_elim (λ u. block_fails max_line_width n (length line) u line_over line_not_exact) (λ u. block_fails max_character_width m (length character) u character_over character_not_exact) (and_none l c b)) (λ b. layout_bad y.layout refl b) (and_none (l && c) _ a))
      hardblank-refused (and_none (l && c && good_layout y.layout) _ e)

  -- a good block, layout and hardblank are none of these
  good_is : shape ≡ true → BadShape → ⊥
  unfolding good_shape
  good_is e b =
      let l = good_block max_height h max_line_width n (length line) in
      let c = good_block max_height h max_character_width m (length character) in
      let e3 : (l && c && good_layout y.layout) ≡ true = and_left (l && c && good_layout y.layout) _ e in
      let e2 : (l && c) ≡ true = and_left (l && c) _ e3 in
      go (block_good max_height h max_line_width n (length line) (and_left l c e2)) (block_good max_height h max_character_width m (length character) (and_right l c e2)) (and_right (l && c) _ e3) (and_right (l && c && good_layout y.layout) _ e) b
    where
      rules_good : (rules : ℕ) → good_kind (Controlled rules) ≡ true → (rules < 1) ⊎ (max_rules < rules) → ⊥
      rules_good rules e w =
          let low = leb-true 1 rules (and_left (leb 1 rules) _ e) in
          let high = leb-true rules max_rules (and_right (leb 1 rules) _ e) in
          ⊎_elim (λ a. omega arith) (λ a. omega arith) w

      go : (1 ≤ h) × (h ≤ max_height) × (n ≤ max_line_width) × (length line ≡ h * n) → (1 ≤ h) × (h ≤ max_height) × (m ≤ max_character_width) × (length character ≡ h * m) → good_layout y.layout ≡ true → legal_hardblank y.hardblank.0 ≡ true → BadShape → ⊥
      go p q k b (height_under u) = omega (arith, p.0)
      go p q k b (height_over u) = omega (arith, p.1)
      go p q k b (line_over u) = omega (arith, p.2)
      go p q k b (character_over u) = omega (arith, q.2)
      go p q k b (rules_outside rules e u) = rules_good rules (sym (ap good_layout e) ∙ k) u
      go p q k b (hardblank-refused u) = never_both (legal_hardblank y.hardblank.0) b u
      go p q k b (line_not_exact u) = u p.3
      go p q k b (character_not_exact u) = u q.3

  module _ (room : ℕ) where
    abbrev left : Block
    left = left_of y.direction (exact_block n line) (exact_block m character)

    abbrev right : Block
    right = right_of y.direction (exact_block n line) (exact_block m character)

    abbrev width : ℕ
    width = (besides y h left right).width

    abbrev answer : JoinTold
    answer = join_told y h n line m character room

    -- "Join: 17, 16, 9", each at place 0; otherwise overlap and width.
    pub data JoinsTo : JoinTold → Type 0 where
      bad_shape_lem : BadShape → JoinsTo (refusing bad_shape)
      too_wide : (BadShape → ⊥) → max_line_width < width → JoinsTo (refusing line_too_wide)
      too_small : (BadShape → ⊥) → width ≤ max_line_width → room < h * width → JoinsTo (refusing area_too_small)
      joined : (BadShape → ⊥) → width ≤ max_line_width → h * width ≤ room → JoinsTo (join_tells (joining (overlap y h left right) width))

    shape_good : (BadShape → ⊥) → shape ≡ true
    shape_good f = go shape refl
      where
        go : (b : Bool) → shape ≡ b → shape ≡ true
        go true e = e
        go false e = absurd (f (shape_bad e))

    bad_shaped : BadShape → shape ≡ false
    bad_shaped b = go shape refl
      where
        go : (t : Bool) → shape ≡ t → shape ≡ false
        go true e = absurd (good_is e b)
        go false e = e

    -- Each of these gives its answer,
    pub gives : (t : JoinTold) → JoinsTo t → answer ≡ t
    unfolding join_told told_of
    gives _ (bad_shape_lem b) = rw (bad_shaped b)
    gives _ (too_wide f u) = rw (shape_good f, lt-ltb max_line_width width u)
    gives _ (too_small f u v) = rw (shape_good f, le-ltb max_line_width width u, lt-ltb room (h * width) v)
    gives _ (joined f u v) = rw (shape_good f, le-ltb max_line_width width u, le-ltb room (h * width) v)

    -- and the answer is one of them.
    pub one_of : JoinsTo answer
    one_of = by_shape shape refl
      where
        as_told : (t : JoinTold) → JoinsTo t → JoinsTo answer
        as_told t j = subst JoinsTo (sym (gives t j)) j

        by-room : (BadShape → ⊥) → width ≤ max_line_width → (b : Bool) → ltb room (h * width) ≡ b → JoinsTo answer
        by-room f u true e = as_told _ (too_small f u (ltb-true room (h * width) e))
        by-room f u false e = as_told _ (joined f u (ltb-false room (h * width) e))

        by_width : (BadShape → ⊥) → (b : Bool) → ltb max_line_width width ≡ b → JoinsTo answer
        by_width f true e = as_told _ (too_wide f (ltb-true max_line_width width e))
        by_width f false e = by-room f (ltb-false max_line_width width e) (ltb room (h * width)) refl

        by_shape : (b : Bool) → shape ≡ b → JoinsTo answer
        by_shape true e = by_width (good_is e) (ltb max_line_width width) refl
        by_shape false e = as_told _ (bad_shape_lem (shape_bad e))

    -- Each answer by itself: what it is given for.
    abbrev Good : Type 0
    Good = ShapeBad → ⊥

    abbrev Told : JoinTold → Type 0
    Told t =
        (t.number ≡ number_of bad_shape → (t.place ≡ 0) × ShapeBad) ×
        (t.number ≡ number_of line_too_wide → (t.place ≡ 0) × Good × (max_line_width < width)) ×
        (t.number ≡ number_of area_too_small → (t.place ≡ 0) × Good × (width ≤ max_line_width) × (room < h * width)) ×
        (t.refused ≡ false → Good × (width ≤ max_line_width) × (h * width ≤ room) × (t.overlap ≡ overlap y h left right) × (t.width ≡ width))

    good : (BadShape → ⊥) → Good
    good f b = f (shape_listed.1 b)

    told : (t : JoinTold) → JoinsTo t → Told t
    told _ (bad_shape_lem b) = (λ e. (refl, shape_listed.0 b), λ e. absurd (omega arith), λ e. absurd (omega arith), λ e. absurd (true≢false e))
    told _ (too_wide f u) = (λ e. absurd (omega arith), λ e. (refl, good f, u), λ e. absurd (omega arith), λ e. absurd (true≢false e))
    told _ (too_small f u v) = (λ e. absurd (omega arith), λ e. absurd (omega arith), λ e. (refl, good f, u, v), λ e. absurd (true≢false e))
    told _ (joined f u v) = (λ e. absurd (omega arith), λ e. absurd (omega arith), λ e. absurd (omega arith), λ e. (good f, u, v, refl, refl))

    tells : (t : JoinTold) → answer ≡ t → Told t
    tells t e = told t (subst JoinsTo e one_of)

    at_place : (reason : Reason) (p : ℕ) → p ≡ 0 → answer ≡ refusing reason → answer ≡ join_tells (Err (refusal reason p))
    at_place reason p e a = subst (λ (q : ℕ). answer ≡ join_tells (Err (refusal reason q))) (sym e) a

    pub row_17 : (p : ℕ) → answer ≡ join_tells (Err (refusal bad_shape p)) ↔ ((p ≡ 0) × ShapeBad)
    row_17 p = (λ e. (tells _ e).0 refl, λ w. at_place bad_shape p w.0 (gives _ (bad_shape_lem (shape_listed.1 w.1))))

    pub row_16 : (p : ℕ) → answer ≡ join_tells (Err (refusal line_too_wide p)) ↔ ((p ≡ 0) × Good × (max_line_width < width))
    row_16 p = (λ e. (tells _ e).1 refl, λ w. at_place line_too_wide p w.0 (gives _ (too_wide (λ b. w.1 (shape_listed.0 b)) w.2)))

    pub row_9 : (p : ℕ) → answer ≡ join_tells (Err (refusal area_too_small p)) ↔ ((p ≡ 0) × Good × (width ≤ max_line_width) × (room < h * width))
    row_9 p = (λ e. (tells _ e).2 refl, λ w. at_place area_too_small p w.0 (gives _ (too_small (λ b. w.1 (shape_listed.0 b)) w.2 w.3)))

    pub row-joined : (o w : ℕ) → answer ≡ join_tells (joining o w) ↔ (Good × (width ≤ max_line_width) × (h * width ≤ room) × (o ≡ overlap y h left right) × (w ≡ width))
    row-joined o w = (λ e. (tells _ e).3 refl, λ x. gives _ (joined (λ b. x.0 (shape_listed.0 b)) x.1 x.2) ∙ ap₂ (λ (i j : ℕ). join_tells (joining i j)) (sym x.3) (sym x.4))

    -- What a refusal tells: one of the three numbers, place 0.
    pub refused-tells : answer.refused ≡ true → (number_of area_too_small ≤ answer.number) × (answer.number ≤ number_of bad_shape) × (answer.place ≡ 0)
    refused-tells e = go answer one_of e
      where
        go : (t : JoinTold) → JoinsTo t → t.refused ≡ true → (number_of area_too_small ≤ t.number) × (t.number ≤ number_of bad_shape) × (t.place ≡ 0)
        go _ (bad_shape_lem b) e = (omega arith, omega arith, refl)
        go _ (too_wide f u) e = (omega arith, omega arith, refl)
        go _ (too_small f u v) e = (omega arith, omega arith, refl)
        go _ (joined f u v) e = absurd (true≢false (sym e))

    -- The result is at most 1,000 columns wide, and the overlap is not wider.
    pub joined-within : (o w : ℕ) → join_tells (joining o w) ≡ answer → (o ≤ w) × (w ≤ max_line_width)
    unfolding besides
    joined-within o w e = go answer one_of e
      where
        go : (t : JoinTold) → JoinsTo t → join_tells (joining o w) ≡ t → (o ≤ w) × (w ≤ max_line_width)
        go _ (bad_shape_lem b) e = absurd (true≢false (sym (ap (λ (t : JoinTold). t.refused) e)))
        go _ (too_wide f u) e = absurd (true≢false (sym (ap (λ (t : JoinTold). t.refused) e)))
        go _ (too_small f u v) e = absurd (true≢false (sym (ap (λ (t : JoinTold). t.refused) e)))
        go _ (joined f u v) e =
            let over : o ≡ overlap y h left right = ap (λ (t : JoinTold). t.overlap) e in
            let wide : w ≡ width = ap (λ (t : JoinTold). t.width) e in
            (omega (arith, over, wide, overlap_narrower h left right y), omega (arith, wide, u))
