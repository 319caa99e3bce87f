-- Each answer of a stack is given exactly when document 02 says so: the answer is one of those named here, and what is named for an answer gives it.
-- Assumes nothing.
use mathlib.Core.Path.{◌≡◌, refl, sym, ap, ◌∙◌, subst}
use mathlib.Core.Bool.{Bool, true, false, not, ◌&&◌, true≢false}
use mathlib.Core.Logic.{◌⊎◌, ◌↔◌, inl, inr, ⊎_elim}
use mathlib.Core.List.{List}
use Prim.Native.Nat.{ℕ, ◌*◌, ◌≤◌, ◌<◌, max}
use native.Mathlib.Omega.{arith}
use lib.Dec.{ltb}
use lib.ListN.{length}
use borrow.Author.Tests.{lt-ltb, le-ltb, ltb-true, ltb-false, not-true, not-false}
use Rattle.ground.specs.Limits.{max_height, max_line_width, max_stack_height}
use Rattle.ground.specs.Refusals.{number_of, area_too_small, bad_shape, stack_too_high}
use Rattle.ground.proofs.Tests.{and_none, and_left, and_right, not_true_false, never_both, below_or_not}
use Rattle.subchars.specs.declared.VerticalSmushing.TheVariants.{Universal, Controlled}
use Rattle.subchars.specs.declared.VerticalLayout.{VerticalLayout}
use Rattle.subchars.specs.declared.VerticalLayout.TheVariants.{FullHeight, Fitting, Smushing}
use Rattle.subchars.specs.Hardblank.{legal_hardblank}
use Rattle.vertical.specs.VerticalPair.{good_set, good_vertical}
use Rattle.vertical.proofs.GoodSets.{SumOfRules, good_sum, sum_good}
use Rattle.blocks.specs.Block.{exact_block}
use Rattle.join.specs.Shape.{good_block}
use Rattle.join.proofs.GoodShape.{block_good, block_bad}
use Rattle.columns.specs.Stack.{Stack, stacked}
use Rattle.stack.specs.StackCall.{StackTold, stack_tells, stacking, no_stack, good_stack, fit_told, stack_of, stack_size, stack_told}
use Rattle.columns.proofs.Demand.{overlap_smaller}

-- 17 "as in the join, but upper height to 64, both widths to 1,000 and the five rules": upper height outside 1 to 64, lower height outside 1 to 32, a
-- width over 1,000, a hardblank that 3 refuses, a controlled set that is no sum of one to five of the rules, a block not exactly height times width long.
module _ (layout : VerticalLayout) (hardblank n upperWidth : ℕ) (upper : List ℕ) (m lowerWidth : ℕ) (lower : List ℕ) where
  pub data BadStack : Type 0 where
    upper_height_under : n < 1 → BadStack
    upper_height_over : max_stack_height < n → BadStack
    lower_height_under : m < 1 → BadStack
    lower_height_over : max_height < m → BadStack
    upper_width_over : max_line_width < upperWidth → BadStack
    lower_width_over : max_line_width < lowerWidth → BadStack
    hardblank-refused : legal_hardblank hardblank ≡ false → BadStack
    no_sum_of_rules : (set : ℕ) → layout ≡ Smushing (Controlled set) → (SumOfRules set → ⊥) → BadStack
    upper_not_exact : (length upper ≡ n * upperWidth → ⊥) → BadStack
    lower_not_exact : (length lower ≡ m * lowerWidth → ⊥) → BadStack

  -- The same as a list of conditions.
  abbrev pub StackBad : Type 0
  StackBad =
      (n < 1) ⊎
      (max_stack_height < n) ⊎
      (m < 1) ⊎
      (max_height < m) ⊎
      (max_line_width < upperWidth) ⊎
      (max_line_width < lowerWidth) ⊎
      (legal_hardblank hardblank ≡ false) ⊎
      ((set : ℕ) × (layout ≡ Smushing (Controlled set)) × (SumOfRules set → ⊥)) ⊎
      (length upper ≡ n * upperWidth → ⊥) ⊎
      (length lower ≡ m * lowerWidth → ⊥)

  pub stack_listed : BadStack ↔ StackBad
  stack_listed = (to, from)
    where
      to : BadStack → StackBad
      to (upper_height_under u) = inl u
      to (upper_height_over u) = inr (inl u)
      to (lower_height_under u) = inr (inr (inl u))
      to (lower_height_over u) = inr (inr (inr (inl u)))
      to (upper_width_over u) = inr (inr (inr (inr (inl u))))
      to (lower_width_over u) = inr (inr (inr (inr (inr (inl u)))))
      to (hardblank-refused u) = inr (inr (inr (inr (inr (inr (inl u))))))
      to (no_sum_of_rules set e u) = inr (inr (inr (inr (inr (inr (inr (inl (set, e, u))))))))
      to (upper_not_exact u) = inr (inr (inr (inr (inr (inr (inr (inr (inl u))))))))
      to (lower_not_exact u) = inr (inr (inr (inr (inr (inr (inr (inr (inr u))))))))

      from : StackBad → BadStack
      from (inl u) = upper_height_under u
      from (inr (inl u)) = upper_height_over u
      from (inr (inr (inl u))) = lower_height_under u
      from (inr (inr (inr (inl u)))) = lower_height_over u
      from (inr (inr (inr (inr (inl u))))) = upper_width_over u
      from (inr (inr (inr (inr (inr (inl u)))))) = lower_width_over u
      from (inr (inr (inr (inr (inr (inr (inl u))))))) = hardblank-refused u
      from (inr (inr (inr (inr (inr (inr (inr (inl u)))))))) = no_sum_of_rules u.0 u.1 u.2
      from (inr (inr (inr (inr (inr (inr (inr (inr (inl u))))))))) = upper_not_exact u
      from (inr (inr (inr (inr (inr (inr (inr (inr (inr u))))))))) = lower_not_exact u

  abbrev above : Bool
  above = good_block max_stack_height n max_line_width upperWidth (length upper)

  abbrev below : Bool
  below = good_block max_height m max_line_width lowerWidth (length lower)

  abbrev shape : Bool
  shape = good_stack layout hardblank n upperWidth (length upper) m lowerWidth (length lower)

  layout_bad : (is : VerticalLayout) → layout ≡ is → good_vertical is ≡ false → BadStack
  layout_bad FullHeight q e = absurd (true≢false e)
  layout_bad Fitting q e = absurd (true≢false e)
  layout_bad (Smushing Universal) q e = absurd (true≢false e)
  layout_bad (Smushing (Controlled set)) q e = no_sum_of_rules set q λ s. never_both (good_set set) (sum_good set s) e

  shape_bad : shape ≡ false → BadStack
  unfolding good_stack
  shape_bad e =
      ⊎_elim
      (λ a. ⊎_elim (λ b. ⊎_elim upper_bad lower_bad (and_none above below b)) (layout_bad layout refl) (and_none (above && below) (good_vertical layout) a))
      hardblank-refused (and_none (above && below && good_vertical layout) (legal_hardblank hardblank) e)
    where
      upper_bad : above ≡ false → BadStack
      upper_bad e = block_bad max_stack_height n max_line_width upperWidth (length upper) e upper_height_under upper_height_over upper_width_over upper_not_exact

      lower_bad : below ≡ false → BadStack
      lower_bad e = block_bad max_height m max_line_width lowerWidth (length lower) e lower_height_under lower_height_over lower_width_over lower_not_exact

  -- a stack of good shape is none of these
  good_is : shape ≡ true → BadStack → ⊥
  unfolding good_stack
  good_is e =
      let e3 : (above && below && good_vertical layout) ≡ true = and_left (above && below && good_vertical layout) (legal_hardblank hardblank) e in
      let e2 : (above && below) ≡ true = and_left (above && below) (good_vertical layout) e3 in
      go (block_good max_stack_height n max_line_width upperWidth (length upper) (and_left above below e2))
      (block_good max_height m max_line_width lowerWidth (length lower) (and_right above below e2))
      (and_right (above && below) (good_vertical layout) e3)
      (and_right (above && below && good_vertical layout) (legal_hardblank hardblank) e)
    where
      go : (1 ≤ n) × (n ≤ max_stack_height) × (upperWidth ≤ max_line_width) × (length upper ≡ n * upperWidth) → (1 ≤ m) × (m ≤ max_height) × (lowerWidth ≤ max_line_width) × (length lower ≡ m * lowerWidth) → good_vertical layout ≡ true → legal_hardblank hardblank ≡ true → BadStack → ⊥
      go p q k b (upper_height_under u) = omega (arith, p.0)
      go p q k b (upper_height_over u) = omega (arith, p.1)
      go p q k b (lower_height_under u) = omega (arith, q.0)
      go p q k b (lower_height_over u) = omega (arith, q.1)
      go p q k b (upper_width_over u) = omega (arith, p.2)
      go p q k b (lower_width_over u) = omega (arith, q.2)
      go p q k b (hardblank-refused u) = never_both (legal_hardblank hardblank) b u
      go p q k b (no_sum_of_rules set e u) = u (good_sum set (sym (ap good_vertical e) ∙ k))
      go p q k b (upper_not_exact u) = u p.3
      go p q k b (lower_not_exact u) = u q.3

  shape_good : (BadStack → ⊥) → shape ≡ true
  shape_good f = not-false shape (not_true_false (not shape) λ e. f (shape_bad (not-true shape e)))

  bad_shaped : BadStack → shape ≡ false
  bad_shaped b = not_true_false shape λ e. good_is e b

  -- the two blocks as they are stacked
  abbrev result : Stack
  result = stack_of layout hardblank n upperWidth upper m lowerWidth lower

  module _ (room : ℕ) where
    abbrev answer : StackTold
    answer = stack_told layout hardblank n upperWidth upper m lowerWidth lower room

    -- "17 ..; 18, stack over 64 rows; 9", each at place 0; otherwise overlap, height and width.
    pub data StacksTo : StackTold → Type 0 where
      bad_shape_lem : BadStack → StacksTo (no_stack bad_shape)
      too_high : (BadStack → ⊥) → max_stack_height < result.height → StacksTo (no_stack stack_too_high)
      too_small : (BadStack → ⊥) → result.height ≤ max_stack_height → room < stack_size result → StacksTo (no_stack area_too_small)
      stacks : (BadStack → ⊥) → result.height ≤ max_stack_height → stack_size result ≤ room → StacksTo (stack_tells (stacking result.overlap result.height result.block.width))

    -- Each of these gives its answer,
    pub gives : (t : StackTold) → StacksTo t → answer ≡ t
    unfolding stack_told fit_told
    gives _ (bad_shape_lem b) = rw (bad_shaped b)
    gives _ (too_high f u) = rw (shape_good f, lt-ltb max_stack_height result.height u)
    gives _ (too_small f u v) = rw (shape_good f, le-ltb max_stack_height result.height u, lt-ltb room (stack_size result) v)
    gives _ (stacks f u v) = rw (shape_good f, le-ltb max_stack_height result.height u, le-ltb room (stack_size result) v)

    -- and the answer is one of them.
    pub one_of : StacksTo answer
    one_of = by_shape shape refl
      where
        as_told : (t : StackTold) → StacksTo t → StacksTo answer
        as_told t j = subst StacksTo (sym (gives t j)) j

        by-room : (BadStack → ⊥) → result.height ≤ max_stack_height → (b : Bool) → ltb room (stack_size result) ≡ b → StacksTo answer
        by-room f u true e = as_told _ (too_small f u (ltb-true room (stack_size result) e))
        by-room f u false e = as_told _ (stacks f u (ltb-false room (stack_size result) e))

        by_height : (BadStack → ⊥) → (b : Bool) → ltb max_stack_height result.height ≡ b → StacksTo answer
        by_height f true e = as_told _ (too_high f (ltb-true max_stack_height result.height e))
        by_height f false e = by-room f (ltb-false max_stack_height result.height e) (ltb room (stack_size result)) refl

        by_shape : (b : Bool) → shape ≡ b → StacksTo answer
        by_shape true e = by_height (good_is e) (ltb max_stack_height result.height) refl
        by_shape false e = as_told _ (bad_shape_lem (shape_bad e))

    abbrev number : StackTold → ℕ
    number t = t.number

    -- So each is given exactly when it is due: 17,
    pub exactly_17 : answer ≡ no_stack bad_shape ↔ BadStack
    exactly_17 = (go answer one_of, λ b. gives _ (bad_shape_lem b))
      where
        go : (t : StackTold) → StacksTo t → t ≡ no_stack bad_shape → BadStack
        go _ (bad_shape_lem b) e = b
        go _ (too_high f u) e = absurd (omega (arith, ap number e))
        go _ (too_small f u v) e = absurd (omega (arith, ap number e))
        go _ (stacks f u v) e = absurd (omega (arith, ap number e))

    -- 18,
    pub exactly_18 : answer ≡ no_stack stack_too_high ↔ ((BadStack → ⊥) × (max_stack_height < result.height))
    exactly_18 = (go answer one_of, λ d. gives _ (too_high d.0 d.1))
      where
        go : (t : StackTold) → StacksTo t → t ≡ no_stack stack_too_high → (BadStack → ⊥) × (max_stack_height < result.height)
        go _ (bad_shape_lem b) e = absurd (omega (arith, ap number e))
        go _ (too_high f u) e = (f, u)
        go _ (too_small f u v) e = absurd (omega (arith, ap number e))
        go _ (stacks f u v) e = absurd (omega (arith, ap number e))

    -- 9,
    pub exactly_9 : answer ≡ no_stack area_too_small ↔ ((BadStack → ⊥) × (result.height ≤ max_stack_height) × (room < stack_size result))
    exactly_9 = (go answer one_of, λ d. gives _ (too_small d.0 d.1 d.2))
      where
        go : (t : StackTold) → StacksTo t → t ≡ no_stack area_too_small → (BadStack → ⊥) × (result.height ≤ max_stack_height) × (room < stack_size result)
        go _ (bad_shape_lem b) e = absurd (omega (arith, ap number e))
        go _ (too_high f u) e = absurd (omega (arith, ap number e))
        go _ (too_small f u v) e = (f, u, v)
        go _ (stacks f u v) e = absurd (omega (arith, ap number e))

    -- and overlap, height and width.
    pub exactly_stacked : answer ≡ stack_tells (stacking result.overlap result.height result.block.width) ↔ ((BadStack → ⊥) × (result.height ≤ max_stack_height) × (stack_size result ≤ room))
    exactly_stacked = (go answer one_of, λ d. gives _ (stacks d.0 d.1 d.2))
      where
        go : (t : StackTold) → StacksTo t → t ≡ stack_tells (stacking result.overlap result.height result.block.width) → (BadStack → ⊥) × (result.height ≤ max_stack_height) × (stack_size result ≤ room)
        go _ (bad_shape_lem b) e = absurd (omega (arith, ap number e))
        go _ (too_high f u) e = absurd (omega (arith, ap number e))
        go _ (too_small f u v) e = absurd (omega (arith, ap number e))
        go _ (stacks f u v) e = (f, u, v)

    -- What a refusal tells: one of the three numbers, place 0.
    pub refused-tells : answer.refused ≡ true → ((answer.number ≡ number_of bad_shape) ⊎ ((answer.number ≡ number_of stack_too_high) ⊎ (answer.number ≡ number_of area_too_small))) × (answer.place ≡ 0)
    refused-tells e = go answer one_of e
      where
        go : (t : StackTold) → StacksTo t → t.refused ≡ true → ((t.number ≡ number_of bad_shape) ⊎ ((t.number ≡ number_of stack_too_high) ⊎ (t.number ≡ number_of area_too_small))) × (t.place ≡ 0)
        go _ (bad_shape_lem b) e = (inl refl, refl)
        go _ (too_high f u) e = (inr (inl refl), refl)
        go _ (too_small f u v) e = (inr (inr refl), refl)
        go _ (stacks f u v) e = absurd (true≢false (sym e))

    -- The overlap is at most the lower block's greatest height; the result is at most 64 rows high and 1,000 columns wide.
    pub stacked-within : (o h w : ℕ) → stack_tells (stacking o h w) ≡ answer → (o ≤ max_height) × (h ≤ max_stack_height) × (w ≤ max_line_width)
    unfolding stacked
    stacked-within o h w e = go answer one_of e
      where
        -- what does not exceed its limit, since that would be bad shape
        at_most : (most k : ℕ) → (most < k → BadStack) → (BadStack → ⊥) → k ≤ most
        at_most most k over f = ⊎_elim (λ u. absurd (f (over u))) (λ u. u) (below_or_not most k)

        go : (t : StackTold) → StacksTo t → stack_tells (stacking o h w) ≡ t → (o ≤ max_height) × (h ≤ max_stack_height) × (w ≤ max_line_width)
        go _ (bad_shape_lem b) e = absurd (true≢false (sym (ap (λ (t : StackTold). t.refused) e)))
        go _ (too_high f u) e = absurd (true≢false (sym (ap (λ (t : StackTold). t.refused) e)))
        go _ (too_small f u v) e = absurd (true≢false (sym (ap (λ (t : StackTold). t.refused) e)))
        go _ (stacks f u v) e =
            let over : o ≡ result.overlap = ap (λ (t : StackTold). t.overlap) e in
            let high : h ≡ result.height = ap (λ (t : StackTold). t.height) e in
            let wide : w ≡ max upperWidth lowerWidth = ap (λ (t : StackTold). t.width) e in
            let upper_fits = at_most max_line_width upperWidth upper_width_over f in
            let lower-fits = at_most max_line_width lowerWidth lower_width_over f in
            let smaller = overlap_smaller hardblank n (exact_block upperWidth upper) m (exact_block lowerWidth lower) layout in
            (omega (arith, over, smaller, at_most max_height m lower_height_over f), omega (arith, high, u), omega (arith, wide, upper_fits, lower-fits))
