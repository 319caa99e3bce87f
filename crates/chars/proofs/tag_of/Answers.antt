-- `chars::tag_of` meets its contract: the code of the line's first word.
use mathlib.Core.Path.{◌≡◌, sym, ap, ◌∙◌}
use mathlib.Core.List.{List}
use Prim.Native.Nat.{ℕ, ◌-◌}
use lib.IntN.{negsuc}
use lib.ListN.{drop, take}
use Rattle.std.specs.Prelude.{Option}
use Rattle.subchars.specs.declared.Code.{Code}
use Rattle.lines.specs.Words.{first_word, word_start, word_end}
use Rattle.lines.specs.Numbers.{code_number}
use Rattle.lines.proofs.WordLaws.{found_within, found_word}
use Rattle.chars.proofs.CodeLaws.{int_same, tag_none, tag_bad, tag_good}
use Rattle.chars.proofs.tag_of.Goals as goal

number_is : (t : List ℕ) (start end : ℕ) (m : Option Code) → start ≡ word_start t → end ≡ word_end t → m ≡ code_number (take (end - start) (drop start t)) → m ≡ code_number (first_word t)
number_is t start end m p q e = e ∙ ap code_number (found_word t start end p q)

pub slice_bounds-code_number-end : goal.slice_bounds-code_number-end
slice_bounds-code_number-end c = found_within _ _ _ c.first_word-word.ensures.0 c.first_word-word.ensures.1

pub returns-in_err-code : goal.returns-in_err-code
returns-in_err-code c =
    let w = c.first_word-word.ensures in
    rw c.from_residual.ensures (tag_none _ _ (number_is c.args.t.now _ _ _ w.0 w.1 c.code_number.ensures) c.in_err-code.was)

pub returns-then-eq : goal.returns-then-eq
returns-then-eq c =
    let w = c.first_word-word.ensures in
    tag_bad _ _ (number_is c.args.t.now _ _ _ w.0 w.1 c.code_number.ensures) _ c.in_ok-code.was (sym (c.if-eq.ensures ∙ int_same c.in_ok-code.code.0 (negsuc 0)))

pub returns : goal.returns
returns c =
    let w = c.first_word-word.ensures in
    tag_good _ _ (number_is c.args.t.now _ _ _ w.0 w.1 c.code_number.ensures) _ c.in_ok-code.was (sym (c.if-eq.ensures ∙ int_same c.in_ok-code.code.0 (negsuc 0)))
