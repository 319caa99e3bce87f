-- `lines::words::first_word` meets its contract.
use mathlib.Core.Path.{◌≡◌, ap, ◌∙◌}
use mathlib.Core.List.{List}
use Prim.Native.Nat.{ℕ, ◌+◌, ◌-◌, ◌≤◌}
use native.Mathlib.Omega.{arith}
use borrow.Author.Rules.{rules}
use lib.ListN.{length, drop, take}
use Rattle.ground.specs.Runs.{run}
use Rattle.ground.proofs.Runs.{rest-is}
use Rattle.lines.specs.Words.{is_blank, not_blank, word_start, word_end}
use Rattle.lines.proofs.WordLaws.{start_le, word_le}
use Rattle.lines.proofs.words.first_word.Goals.{After-run_length-start, After-run_length-n}
use Rattle.lines.proofs.words.first_word.Goals as goal

module _ (t : List ℕ) (start : ℕ) (e : start ≡ word_start t) where
  start_in : start ≤ length t
  start_in = omega (arith, start_le t)

  module _ (n : ℕ) (q : n ≡ run not_blank (take (length t - start) (drop start t))) where
    end_is : start + n ≡ word_end t
    end_is = ap (λ (k : ℕ). start + k) (q ∙ ap (run not_blank) (rest-is t start)) ∙ ap (λ (k : ℕ). k + run not_blank (drop k t)) e

    end_in : start + n ≤ length t
    end_in = omega (arith, end_is, word_le t)

-- what the two calls count
blanks : (c : After-run_length-start) → c.run_length-start.result ≡ word_start c.args.t.now
blanks c = c.run_length-start.ensures is_blank λ x r k. search rules

letters : (c : After-run_length-n) → c.run_length-n.result ≡ run not_blank (take (length c.args.t.now - c.run_length-start.result) (drop c.run_length-start.result c.args.t.now))
unfolding not_blank
letters c = c.run_length-n.ensures not_blank λ x r k. search rules

pub slice_bounds-run_length-count : goal.slice_bounds-run_length-count
slice_bounds-run_length-count c = start_in c.args.t.now _ (blanks c)

pub slice_bounds-run_length-start : goal.slice_bounds-run_length-start
slice_bounds-run_length-start c = start_in c.args.t.now _ (blanks c)

pub overflow_add-result : goal.overflow_add-result
overflow_add-result c = omega (arith, end_in c.args.t.now _ (blanks (goal.at.overflow_add-result c).After-run_length-start) _ (letters c))

pub returns : goal.returns
returns c = let b = blanks (goal.at.returns c).After-run_length-start in (b, end_is c.args.t.now c.run_length-start.result b _ (letters c))
