-- Bytes of a text looked up one after another: whether one is too wide, and where the first such one stands.
-- Assumes nothing.
use mathlib.Core.Path.{◌≡◌, sym, ap, ◌∙◌}
use mathlib.Core.Bool.{Bool, true, false, not, ◌&&◌}
use mathlib.Core.List.{List}
use Prim.Native.Nat.{ℕ, ◌+◌, ◌≤◌, ◌<◌}
use native.Mathlib.Omega.{arith}
use lib.Dec.{ltb}
use lib.ListN.{length, get_or}
use borrow.Author.Tests.{le-ltb, eq-eqb, ne_eqb}
use Rattle.ground.proofs.Tests.{and_right_false, and_left_false}
use Rattle.ground.proofs.Runs as runs
use Rattle.source.specs.declared.Chosen.{Chosen}
use Rattle.source.specs.declared.Chosen.TheVariants.{Character, Nothing}
use Rattle.source.specs.Source.{Choice, found, stood_in, nothing, Source}
use Rattle.source.specs.Steps.{ChosenAs}
use Rattle.flc.specs.declared.Command.{Command}
use Rattle.drawing.specs.Drawing.{byte_choice}
use Rattle.breaks.specs.Words.{in_word}
use Rattle.spans.specs.Spans.{choice_width, too_wide, first_wider}

-- What was chosen has the width of what the source has.
module _ (s starts : List ℕ) (h : ℕ) (r : Chosen) where
  chosen_width : (m : ℕ) (b : Bool) → r ≡ Character m b → (x : Choice) → ChosenAs s starts h r x → m ≡ choice_width x
  chosen_width m b e x z = go b x (rw e at z)
    where
      go : (b : Bool) (x : Choice) → ChosenAs s starts h (Character m b) x → m ≡ choice_width x
      go true (found c) z = z.like.width
      go true (stood_in c) z = absurd z
      go true nothing z = absurd z
      go false (found c) z = absurd z
      go false (stood_in c) z = z.like.width
      go false nothing z = absurd z

  nothing-width : r ≡ Nothing → (x : Choice) → ChosenAs s starts h r x → 0 ≡ choice_width x
  nothing-width e x z = go x (rw e at z)
    where
      go : (x : Choice) → ChosenAs s starts h Nothing x → 0 ≡ choice_width x
      go (found c) z = absurd z
      go (stood_in c) z = absurd z
      go nothing z = λ i. 0

  module _ (limit byte : ℕ) (x : Choice) (z : ChosenAs s starts h r x) where
    pub wide-blank : byte ≡ 32 → false ≡ too_wide limit byte x
    wide-blank e = sym (and_left_false (in_word byte) (ltb limit (choice_width x)) (ap not (eq-eqb byte 32 e)))

    pub wide-letter : (byte ≡ 32 → ⊥) → (m : ℕ) (b : Bool) → r ≡ Character m b → ltb limit m ≡ too_wide limit byte x
    wide-letter n m b e = ap (ltb limit) (chosen_width m b e x z) ∙ sym (ap (λ (t : Bool). t && ltb limit (choice_width x)) (ap not (ne_eqb byte 32 n)))

    pub wide-nothing : r ≡ Nothing → false ≡ too_wide limit byte x
    wide-nothing e = sym (and_right_false (in_word byte) (ltb limit (choice_width x)) (le-ltb limit (choice_width x) (omega (arith, nothing-width e x z))))

module _ (source : Source) (cs : List Command) (k limit : ℕ) (text : List ℕ) where
  abbrev passes : ℕ → Bool
  passes x = not (too_wide limit x (byte_choice source cs k x))

  -- the first i bytes are not too wide
  abbrev pub Passed : ℕ → Type 0
  Passed i = runs.Counted passes text i

  pub passed_first : Passed 0
  passed_first = runs.counted_none passes text

  module _ (i : ℕ) (so : Passed i) where
    pub passed_end : length text ≤ i → i ≡ first_wider source cs k limit text
    unfolding first_wider
    passed_end l = runs.counted-end passes text i l so

    module _ (u : i < length text) (t : Bool) (told : t ≡ too_wide limit (get_or text i 0) (byte_choice source cs k (get_or text i 0))) where
      tested : passes (get_or text i 0) ≡ not t
      tested = ap not (sym told)

      pub passed_next : t ≡ false → Passed (i + 1)
      passed_next e = runs.counted-more passes text i u (tested ∙ ap not e) so

      pub passed_stop : t ≡ true → i ≡ first_wider source cs k limit text
      unfolding first_wider
      passed_stop e = runs.counted_stop passes text i u (tested ∙ ap not e) so
