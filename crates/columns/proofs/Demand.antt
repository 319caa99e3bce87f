-- Demand 3 for blocks one above the other, sentence by sentence: "upper for left, lower for right, height and width exchanged, rows and columns too,
-- supersmushing apart". What each sentence states over lanes and positions, and its proof, stand in crates/lanes/proofs/Demand.antt; here a lane is a
-- column, and the statements are about the overlap and the stack that the contract of the call `stack` cites, for any two blocks a, above, and b.
-- Then the sentences of Q-1 about supersmushing.
-- Assumes nothing.
use mathlib.Core.Path.{◌≡◌, refl, sym, ◌∙◌, subst}
use mathlib.Core.Bool.{Bool, true, false, cond}
use Prim.Native.Nat.{ℕ, ◌≤◌, ◌<◌, min, max}
use native.Mathlib.Omega.{arith}
use lib.Dec.{eqb, ltb}
use borrow.Author.Tests.{lt-ltb, le-ltb, eqb-true}
use Rattle.ground.proofs.Tests.{or_elim}
use Rattle.subchars.specs.declared.VerticalSmushing.TheVariants.{Universal, Controlled}
use Rattle.subchars.specs.declared.VerticalLayout.{VerticalLayout}
use Rattle.subchars.specs.declared.VerticalLayout.TheVariants.{FullHeight, Fitting, Smushing}
use Rattle.subchars.specs.Hardblank.{blank}
use Rattle.lanes.specs.Blocks.{Cells}
use Rattle.lanes.specs.Overlap.{has_blank, furthest, fitting, smushing}
use Rattle.lanes.proofs.Demand as lanes
use Rattle.lanes.proofs.Demand.{Free, Furthest, Fits, Smushes, Pairing, Taken, JoinedLanes}
use Rattle.blocks.specs.Block.{Block}
use Rattle.vertical.specs.VerticalPair.{VerticalLine, set_has, merges, merged_byte, barred, other_rules, EveryVerticalRuleOf}
use Rattle.vertical.proofs.VerticalRules.{upper_blank, lower_blank, upper_blank_merges, lower_blank_merges, upper_blank_barred, lower_blank_barred, more-rules, others_without_4096, other_rules_merge, barred-merges}
use Rattle.columns.specs.Stack.{upright, supersmushing, columns_overlap, wider, stack_overlap, stacked_at, Stack, stacked}

-- a pair with a blank joins in every layout, and is no other pair to supersmushing
pub blank-merges : (layout : VerticalLayout) (u l : ℕ) → has_blank u l ≡ true → merges layout u l ≡ true
unfolding has_blank
blank-merges layout u l e = or_elim (eqb u blank) (eqb l blank) e (λ p. upper_blank_merges layout u l (eqb-true u blank p)) (λ p. lower_blank_merges layout u l (eqb-true l blank p))

pub blank-barred : (u l : ℕ) → has_blank u l ≡ true → barred u l ≡ true
unfolding has_blank
blank-barred u l e = or_elim (eqb u blank) (eqb l blank) e (λ p. upper_blank_barred u l (eqb-true u blank p)) (λ p. lower_blank_barred u l (eqb-true l blank p))

-- the pair decision of a layout
abbrev pub pairing : VerticalLayout → Pairing
pairing layout =
    record { joins = merges layout; becomes = merged_byte layout; blank-joins = blank-merges layout; left_blank = upper_blank layout; right_blank = lower_blank layout }

abbrev pub ruled : ℕ → VerticalLayout
ruled set = Smushing (Controlled set)

-- ---------------------------------------------------------------- columns

-- w columns of n rows in the upper block and of m in the lower
module _ (w n m : ℕ) (a b : Cells) where
  abbrev fit : ℕ
  fit = fitting w n m a b

  abbrev far : ℕ
  far = furthest barred w n m a b

  -- without 4096 a set is smushing by its rules
  pub ruled_smushing : (set : ℕ) → set_has set VerticalLine ≡ false → columns_overlap (ruled set) w n m a b ≡ smushing (merges (ruled set)) w n m a b
  unfolding columns_overlap
  ruled_smushing set e = simp e

  pub ruled_super : (set : ℕ) → set_has set VerticalLine ≡ true → columns_overlap (ruled set) w n m a b ≡ supersmushing set w n m a b
  unfolding columns_overlap
  ruled_super set e = simp e

  pub super_far : (set : ℕ) → fit < far → supersmushing set w n m a b ≡ far
  unfolding supersmushing
  super_far set l = simp (lt-ltb fit far l)

  pub super_else : (set : ℕ) → far ≤ fit → supersmushing set w n m a b ≡ smushing (merges (ruled (other_rules set))) w n m a b
  unfolding supersmushing
  super_else set l = simp (le-ltb fit far l)

  -- what is taken by a pairing can be taken by one that joins more
  taken_more : (p q : ℕ → ℕ → Bool) → ((u l : ℕ) → p u l ≡ true → q u l ≡ true) → (o : ℕ) → Taken p w n m a b o → Taken q w n m a b o
  taken_more p q f o t = record { overlap_narrower = t.overlap_narrower; pairs_join = λ c i u v. f _ _ (t.pairs_join c i u v) }

  taken_super : (set : ℕ) → set_has set VerticalLine ≡ true → Taken (merges (ruled set)) w n m a b (supersmushing set w n m a b)
  unfolding supersmushing
  taken_super set e = go (ltb fit far)
    where
      go : (t : Bool) → Taken (merges (ruled set)) w n m a b (cond t far (smushing (merges (ruled (other_rules set))) w n m a b))
      go true = lanes.taken_furthest (pairing (ruled set)) w n m a b barred λ u l x. barred-merges set u l e x
      go false =
          taken_more (merges (ruled (other_rules set))) (merges (ruled set)) (other_rules_merge set) (smushing (merges (ruled (other_rules set))) w n m a b)
          (lanes.taken_smushing (pairing (ruled (other_rules set))) w n m a b)

  -- at the overlap taken, in any layout, every facing pair joins
  pub columns_taken : (layout : VerticalLayout) → Taken (merges layout) w n m a b (columns_overlap layout w n m a b)
  unfolding columns_overlap
  columns_taken FullHeight = lanes.taken_none (pairing FullHeight) w n m a b
  columns_taken Fitting = lanes.taken_fitting (pairing Fitting) w n m a b
  columns_taken (Smushing Universal) = lanes.taken_smushing (pairing (Smushing Universal)) w n m a b
  columns_taken (Smushing (Controlled set)) = go (set_has set VerticalLine) refl
    where
      go : (t : Bool) → set_has set VerticalLine ≡ t → Taken (merges (ruled set)) w n m a b (cond t (supersmushing set w n m a b) (smushing (merges (ruled set)) w n m a b))
      go true e = taken_super set e
      go false e = lanes.taken_smushing (pairing (ruled set)) w n m a b

-- ---------------------------------------------------------------- blocks

module _ (hardblank n : ℕ) (a : Block) (m : ℕ) (b : Block) where
  abbrev upper : Cells
  upper = upright hardblank a

  abbrev lower : Cells
  lower = upright hardblank b

  abbrev width : ℕ
  width = wider a b

  abbrev by : VerticalLayout → ℕ
  by layout = stack_overlap layout hardblank n a m b

  -- "An overlap, at most the smaller height, is free if every facing pair of sub-characters has a blank in it."
  pub free : Free width n upper lower
  free = lanes.free-is width n m upper lower

  -- "Full height overlaps nothing."
  pub full_height_nothing : by FullHeight ≡ 0
  unfolding stack_overlap columns_overlap
  full_height_nothing = refl

  -- "Fitting takes an overlap that is free together with all smaller ones, and every other such overlap is smaller."
  pub fits : Fits width n m upper lower (by Fitting)
  unfolding stack_overlap columns_overlap
  fits = lanes.fits width n m upper lower

  -- "Smushing either takes exactly one row more than fitting or stays at fitting's overlap. It stays exactly when the smaller height is used up
  -- there, or when with that row more some column faces a pair that the layout cannot join."
  pub universal : Smushes (merges (Smushing Universal)) width n m upper lower (by Fitting) (by (Smushing Universal))
  unfolding stack_overlap columns_overlap
  universal = lanes.smushes width n m upper lower (merges (Smushing Universal))

  pub controlled : (set : ℕ) → set_has set VerticalLine ≡ false → Smushes (merges (ruled set)) width n m upper lower (by Fitting) (by (ruled set))
  unfolding stack_overlap columns_overlap
  controlled set e =
      subst (Smushes (merges (ruled set)) width n m upper lower (fitting width n m upper lower)) (sym (ruled_smushing width n m upper lower set e))
      (lanes.smushes width n m upper lower (merges (ruled set)))

  -- "If one controlled set has every rule of another, it never gives the same blocks a smaller overlap."
  pub more_rules_no_less : (p q : ℕ) → set_has p VerticalLine ≡ false → set_has q VerticalLine ≡ false → EveryVerticalRuleOf p q → by (ruled p) ≤ by (ruled q)
  unfolding stack_overlap
  more_rules_no_less p q e f every =
      let x = ruled_smushing width n m upper lower p e in
      let y = ruled_smushing width n m upper lower q f in
      omega (arith, x, y, lanes.more_joins_no_less width n m upper lower (merges (ruled p)) (merges (ruled q)) (more-rules p q every))

  -- "With supersmushing, take the largest overlap, at most the smaller height, that together with all smaller ones faces only pairs with a blank or of
  -- two bars";
  abbrev pub bars_overlap : ℕ
  bars_overlap = furthest barred width n m upper lower

  pub bars_furthest : Furthest barred width n m upper lower bars_overlap
  bars_furthest = lanes.reaches width n m upper lower barred

  -- it is never below fitting's;
  pub bars_no_less : by Fitting ≤ bars_overlap
  unfolding stack_overlap columns_overlap
  bars_no_less = lanes.furthest-more width n m upper lower blank-barred

  -- "if it exceeds the fitting overlap it is the answer,
  pub super_exceeds : (set : ℕ) → set_has set VerticalLine ≡ true → by Fitting < bars_overlap → by (ruled set) ≡ bars_overlap
  unfolding stack_overlap columns_overlap
  super_exceeds set e l = ruled_super width n m upper lower set e ∙ super_far width n m upper lower set l

  -- else the other rules are tried one row further": the answer is that of the set without 4096.
  pub super_others : (set : ℕ) → set_has set VerticalLine ≡ true → bars_overlap ≤ by Fitting → by (ruled set) ≡ by (ruled (other_rules set))
  unfolding stack_overlap columns_overlap
  super_others set e l =
      ruled_super width n m upper lower set e ∙ (super_else width n m upper lower set l ∙ sym (ruled_smushing width n m upper lower (other_rules set) (others_without_4096 set)))

  module _ (layout : VerticalLayout) where
    abbrev result : Stack
    result = stacked layout hardblank n a m b

    pub taken : Taken (merges layout) width n m upper lower (by layout)
    unfolding stack_overlap
    taken = columns_taken width n m upper lower layout

    -- "At most the smaller height."
    pub overlap_smaller : by layout ≤ min n m
    overlap_smaller = taken.overlap_narrower

    -- "Unpaired sub-characters stay; a blank yields to its partner; every other pair becomes its joint"; and the height of the result is the sum of both
    -- heights less the overlap.
    pub stack_cells : JoinedLanes (merges layout) (merged_byte layout) width n m upper lower (by layout) result.height (λ c r. result.block.cells r c)
    unfolding stacked stacked_at
    stack_cells = lanes.joined (pairing layout) width n m upper lower (by layout) taken

    -- The width of the result is the greater one.
    pub stack_width : result.block.width ≡ max a.width b.width
    unfolding stacked
    stack_width = refl

    pub stack_overlap_lem : result.overlap ≡ by layout
    unfolding stacked
    stack_overlap_lem = refl
