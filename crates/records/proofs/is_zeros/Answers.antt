-- `records::is_zeros` meets its contract.
use mathlib.Core.Path.{◌≡◌, ◌∙◌, refl, ap}
use mathlib.Core.Bool.{Bool, ◌&&◌}
use mathlib.Core.List.{List, [], ◌∷◌}
use Prim.Native.Nat.{ℕ}
use borrow.Author.Rules.{rules}
use borrow.Author.Tests.{tests}
use Rattle.std.specs.List.{list_all}
use Rattle.std.proofs.lemmas.Iterator.{YieldsList-from_slice}
use Rattle.std.proofs.lemmas.Iterator.Search.{all_from_yields_List}
use Rattle.ground.specs.Runs.{all}
use Rattle.records.specs.Records.{is_zero}
use Rattle.records.proofs.is_zeros.Goals as goal

all_is : (p : ℕ → Bool) (t : List ℕ) → list_all p t ≡ all p t
unfolding all
all_is p [] = refl
all_is p (x ∷ t) = ap (λ (b : Bool). p x && b) (all_is p t)

pub returns : goal.returns
returns c = all_from_yields_List is_zero _ _ c.all.result c.all.ensures.ran (YieldsList-from_slice c.args.t.now cc) (λ x b q k. search (rules, tests)) ∙ all_is is_zero c.args.t.now
