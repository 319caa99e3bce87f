-- `lines::words::run_length` meets its contract: the run ends before the first byte that does not pass.
use mathlib.Core.Path.{◌≡◌, refl, sym, ◌∙◌}
use mathlib.Core.Bool.{Bool, true, false}
use mathlib.Core.List.{List, [], ◌∷◌}
use Prim.Native.Nat.{ℕ, ◌+◌}
use native.Mathlib.Numerals.{add-one}
use borrow.Author.Rules.{rules}
use borrow.Author.Tests.{tests}
use Rattle.std.proofs.lemmas.Iterator.{YieldsList-from_slice, IsFirst-from_position, index_from_first}
use Rattle.ground.specs.Runs.{run}
use Rattle.lines.proofs.words.run_length.Goals as goal

module _ (p : ℕ → Bool) where
  none : run p [] ≡ 0
  unfolding run
  none = refl

  hit : (x : ℕ) (xs : List ℕ) → p x ≡ false → run p (x ∷ xs) ≡ 0
  unfolding run
  hit x xs e = simp e

  miss : (x : ℕ) (xs : List ℕ) → p x ≡ true → run p (x ∷ xs) ≡ run p xs + 1
  unfolding run
  miss x xs e = simp e (sym (add-one (run p xs)))

pub returns : goal.returns
returns g c = λ p t.
    c.unwrap_or.ensures ∙
    sym (index_from_first (run p) (λ x. p x ≡ false) (λ x. p x ≡ true) (none p) (hit p) (miss p) c.args.t.now _
    (IsFirst-from_position _ _ _ (λ x. p x ≡ false) (λ x. p x ≡ true) c.position.ensures.ran (YieldsList-from_slice c.args.t.now cc)
    (λ x q k. search (t, rules, tests)) (λ x q k. search (t, rules, tests))))
