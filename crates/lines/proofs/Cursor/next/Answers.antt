-- `lines::Cursor::next` meets its contract: what its two calls find are the line's end and the next line's start.
use mathlib.Core.Path.{◌≡◌, ap, ◌∙◌}
use mathlib.Core.List.{List}
use Prim.Native.Nat.{ℕ, ◌+◌, ◌-◌, ◌≤◌, ◌<◌}
use native.Mathlib.Omega.{arith}
use borrow.Author.Rules.{rules}
use borrow.Author.Tests.{lt-ltb, le-ltb}
use lib.ListN.{length, drop, take}
use Rattle.std.specs.Prelude.{Some}
use Rattle.ground.specs.Runs.{run}
use Rattle.ground.proofs.Runs.{rest-is}
use Rattle.lines.specs.Lines.{not_end, end_length, line_end, next_start, next_line}
use Rattle.lines.proofs.LineLaws.{line_end_le, next_le}
use Rattle.lines.proofs.Cursor.next.Goals.{After-run_length-n}
use Rattle.lines.proofs.Cursor.next.Goals as goal

-- how many bytes from the place on are in the line
counted : (c : After-run_length-n) → c.run_length-n.result ≡ run not_end (drop c.args.self.at c.args.s.now)
unfolding not_end
counted c = (c.run_length-n.ensures not_end λ x r k. search rules) ∙ ap (run not_end) (rest-is c.args.s.now c.args.self.at)

line-is : (s : List ℕ) (at e k : ℕ) → at < length s → e ≡ line_end s at → k ≡ next_start s at → Some (record { start = at; end = e; next = record { at = k } }) ≡ next_line s at
unfolding next_line
line-is s at e k h p q = simp (lt-ltb at (length s) h, p, q)

module _ (s : List ℕ) (at n : ℕ) (h : at < length s) (e : n ≡ run not_end (drop at s)) where
  end_is : at + n ≡ line_end s at
  end_is = ap (λ (k : ℕ). at + k) e

  end_le : at + n ≤ length s
  end_le = omega (arith, end_is, line_end_le s at (omega arith))

  module _ (m : ℕ) (q : m ≡ end_length (take (length s - (at + n)) (drop (at + n) s))) where
    next_is : at + n + m ≡ next_start s at
    next_is = ap (λ (k : ℕ). at + n + k) (q ∙ ap end_length (rest-is s (at + n))) ∙ ap (λ (k : ℕ). k + end_length (drop k s)) end_is

    next_in : at + n + m ≤ length s
    next_in = omega (arith, next_is, next_le s at (omega arith))

    answer : Some (record { start = at; end = at + n; next = record { at = at + n + m } }) ≡ next_line s at
    answer = line-is s at (at + n) (at + n + m) h end_is next_is

pub returns-then-s-start : goal.returns-then-s-start
unfolding next_line
returns-then-s-start c = simp (le-ltb _ _ c.if-s-start.true)

pub overflow_add-end : goal.overflow_add-end
overflow_add-end c = omega (arith, end_le c.args.s.now _ _ c.if-s-start.false (counted c))

pub slice_bounds-end_length-count : goal.slice_bounds-end_length-count
slice_bounds-end_length-count c = end_le c.args.s.now _ _ c.if-s-start.false (counted c)

pub slice_bounds-end_length-start : goal.slice_bounds-end_length-start
slice_bounds-end_length-start c = end_le c.args.s.now _ _ c.if-s-start.false (counted c)

pub overflow_add-result : goal.overflow_add-result
overflow_add-result c =
    omega (arith, next_in c.args.s.now _ c.run_length-n.result c.if-s-start.false (counted (goal.at.overflow_add-result c).After-run_length-n) _ c.end_length-m.ensures)

pub returns : goal.returns
returns c = answer c.args.s.now _ c.run_length-n.result c.if-s-start.false (counted (goal.at.returns c).After-run_length-n) _ c.end_length-m.ensures
