-- `header::reading::next_number` meets its contract: what it reads is the first word, and what it leaves stands behind that.
use mathlib.Core.Path.{◌≡◌, sym, ap, ◌∙◌}
use mathlib.Core.List.{List}
use Prim.Native.Nat.{ℕ, ◌-◌}
use borrow.Author.Rules.{rules}
use lib.ListN.{length, drop, take}
use Rattle.ground.proofs.Runs.{rest-is}
use Rattle.lines.specs.Words.{word_end, after_word}
use Rattle.lines.specs.Numbers.{header_number}
use Rattle.lines.proofs.WordLaws.{found_within, found_word, word_rest}
use Rattle.header.proofs.reading.next_number.Goals as goal

behind-word : (t : List ℕ) (end : ℕ) → end ≡ word_end t → take (length t - end) (drop end t) ≡ after_word t
behind-word t end e = rest-is t end ∙ ap (λ (j : ℕ). drop j t) e ∙ word_rest t

pub slice_bounds-header_number-end : goal.slice_bounds-header_number-end
slice_bounds-header_number-end c = let w = c.first_word-word.ensures in found_within c.args.text.now.now _ _ w.0 w.1

pub returns-in_default-clause-number : goal.returns-in_default-clause-number
returns-in_default-clause-number c =
    let w = c.first_word-word.ensures in
    sym c.in_default.is ∙ c.header_number.ensures ∙ ap header_number (found_word c.args.text.now.now _ _ w.0 w.1)

pub slice_bounds-text-count : goal.slice_bounds-text-count
slice_bounds-text-count c = let w = c.first_word-word.ensures in found_within c.args.text.now.now _ _ w.0 w.1

pub slice_bounds-text-start : goal.slice_bounds-text-start
slice_bounds-text-start c = let w = c.first_word-word.ensures in found_within c.args.text.now.now _ _ w.0 w.1

pub returns-clause-number : goal.returns-clause-number
returns-clause-number c =
    let w = c.first_word-word.ensures in
    search rules ∙ sym c.in-Some.is ∙ c.header_number.ensures ∙ ap header_number (found_word c.args.text.now.now _ _ w.0 w.1)

pub returns-clause-rest : goal.returns-clause-rest
returns-clause-rest c = behind-word c.args.text.now.now _ c.first_word-word.ensures.1
