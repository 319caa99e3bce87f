-- `checking::check_line` meets its contract: the refusals in their order, then what the overlaps and the bytes came to.
use mathlib.Core.List.{List}
use mathlib.Core.Path.{◌≡◌, refl, sym, ◌∙◌, ap, ap₂}
use Prim.Native.Nat.{ℕ, ◌-◌, ◌≤◌}
use lib.ListN.{length}
use Rattle.ground.specs.Limits.{max_line_width}
use Rattle.blocks.specs.Block.{Block}
use Rattle.showing.specs.Output.{shown}
use Rattle.showing.specs.Scratch.{scratch_line}
use Rattle.checking.specs.declared.Verdict.{Verdict}
use Rattle.std.specs.Prelude.{Option, Some, None, Result, Ok, Err}
use Rattle.ground.specs.declared.refusals.Refusal.{Refusal}
use Rattle.checking.specs.Difference.{first_difference}
use Rattle.checking.specs.Steps.{tallied}
use Rattle.checking.specs.Verdict.{named, line_checked}
use Rattle.checking.proofs.VerdictLaws.{too_wide, not_too_wide}
use Rattle.checking.proofs.TallyLaws.{tally_25, tally_judged}
use Rattle.checking.proofs.check_line.Goals.{Start}
use Rattle.checking.proofs.check_line.Goals as goal

abbrev line_of : Start → Block
line_of s = scratch_line s.args.mode.direction s.args.w s.args.area.now

abbrev drawing : Start → List ℕ
drawing s = shown s.args.mode.hardblank.0 s.args.h (line_of s)

-- the trace is the one that was tallied, if the line is within 1,000 columns
abbrev Traced : Start → List ℕ → Type 0
Traced s trace = s.args.w ≤ max_line_width → s.args.tally ≡ tallied s.args.overlaps.now trace

abbrev checked : Start → List ℕ → Result Verdict Refusal
checked s trace = let a = s.args in line_checked a.mode.hardblank.0 a.h (line_of s) trace a.overlaps.now a.figure.now

-- how the overlaps and the bytes compare, in a list of the right length
judged : (s : Start) (trace : List ℕ) → Traced s trace → s.args.w ≤ max_line_width → length s.args.overlaps.now ≡ s.args.tally.drawn - 1 → Ok (named s.args.tally.wrong (first_difference (drawing s) s.args.figure.now)) ≡ checked s trace
judged s trace so l e =
    let a = s.args in
    tally_judged trace a.overlaps.now (drawing s) a.figure.now a.tally (so l) e ∙ sym (not_too_wide a.mode.hardblank.0 a.h (line_of s) trace a.overlaps.now a.figure.now l)

pub returns-then-w-gt-MAX_LINE_WIDTH : goal.returns-then-w-gt-MAX_LINE_WIDTH
returns-then-w-gt-MAX_LINE_WIDTH c = λ trace so.
    let a = c.args in
    ap Err c.of.ensures ∙ sym (too_wide a.mode.hardblank.0 a.h (line_of (goal.at.returns-then-w-gt-MAX_LINE_WIDTH c).Start) trace a.overlaps.now a.figure.now c.if-w-gt-MAX_LINE_WIDTH.true)

pub returns-then-overlaps-saturating_sub : goal.returns-then-overlaps-saturating_sub
returns-then-overlaps-saturating_sub c = λ trace so.
    let a = c.args in
    let l = c.if-w-gt-MAX_LINE_WIDTH.false in
    ap Err c.of-then-overlaps-saturating_sub.ensures ∙ tally_25 trace a.overlaps.now (drawing (goal.at.returns-then-overlaps-saturating_sub c).Start) a.figure.now a.tally (so l) (λ e. c.if-overlaps-saturating_sub.true (e ∙ sym c.saturating_sub.ensures))
    ∙ sym (not_too_wide a.mode.hardblank.0 a.h (line_of (goal.at.returns-then-overlaps-saturating_sub c).Start) trace a.overlaps.now a.figure.now l)

-- the same of what is known of both
module _ (s : Start) (trace : List ℕ) (so : Traced s trace) (l : s.args.w ≤ max_line_width) (e : length s.args.overlaps.now ≡ s.args.tally.drawn - 1) where
  found : (wrong bytes : Option ℕ) → s.args.tally.wrong ≡ wrong → bytes ≡ first_difference (drawing s) s.args.figure.now → Ok (named wrong bytes) ≡ checked s trace
  found wrong bytes p q = ap₂ (λ (a b : Option ℕ). Ok (named a b)) (sym p) q ∙ judged s trace so l e

pub returns-in-Some : goal.returns-in-Some
returns-in-Some c = λ trace so.
    found (goal.at.returns-in-Some c).Start trace so c.if-w-gt-MAX_LINE_WIDTH.false (c.if-overlaps-saturating_sub.false ∙ c.saturating_sub.ensures) (Some c.in-Some.k) _ c.in-Some.is refl

pub returns-in-Some-compare_line : goal.returns-in-Some-compare_line
returns-in-Some-compare_line c = λ trace so.
    found (goal.at.returns-in-Some-compare_line c).Start trace so c.if-w-gt-MAX_LINE_WIDTH.false (c.if-overlaps-saturating_sub.false ∙ c.saturating_sub.ensures) None (Some c.in-Some-compare_line.place) c.in_default.is (sym c.in-Some-compare_line.is ∙ c.compare_line.ensures)

pub returns-in-None : goal.returns-in-None
returns-in-None c = λ trace so.
    found (goal.at.returns-in-None c).Start trace so c.if-w-gt-MAX_LINE_WIDTH.false (c.if-overlaps-saturating_sub.false ∙ c.saturating_sub.ensures) None None c.in_default.is (sym c.in-None.is ∙ c.compare_line.ensures)
