-- Counting the letters that were replaced: one code more, and the groups together.
-- Assumes nothing.
use mathlib.Core.Path.{◌≡◌, refl, sym, ap, ◌∙◌}
use mathlib.Core.Bool.{Bool, true, false}
use mathlib.Core.List.{List, [], ◌∷◌, ◌++◌}
use Prim.Native.Nat.{ℕ, ◌+◌, ◌≤◌}
use native.Mathlib.Omega.{arith}
use native.Mathlib.Nat.{zero-add}
use mathlib.Core.Logic.{◌⊎◌, inl, inr}
use lib.IntN.{pos}
use lib.ListN.{length}
use Rattle.subchars.specs.declared.Code.{Code}
use Rattle.chars.specs.declared.Entry.{Entry}
use Rattle.std.specs.Prelude.{Option, Some, None}
use Rattle.reader.specs.Reader.{last_of, which_of, looked_up}
use Rattle.source.specs.declared.Chosen.{Chosen}
use Rattle.source.specs.declared.Chosen.TheVariants as chosen
use Rattle.source.specs.declared.Counts.{Counts}
use Rattle.records.specs.declared.Head.{Head}
use Rattle.records.specs.Letters.{Letter, letter, no_letter}
use Rattle.source.specs.Source.{Choice, found, stood_in, nothing, Source, choice_of, font_source, pack_letter, of_letters, pack_source}
use Rattle.source.specs.Counting.{is_stood_in, is_nothing, is_missing, one, how_many, counts_of, counted, StandsIn}
use Rattle.source.specs.Steps.{ChosenAs}

-- Two counts, each known.
abbrev counts : ℕ → ℕ → Counts
counts a b = record { stood_in = a; nothing_drawn = b }

same-counts : (a b c d : ℕ) → a ≡ c → b ≡ d → counts a b ≡ counts c d
same-counts a b c d p q = λ i. counts (p i) (q i)

-- What was chosen tells whether the code is missing.
module _ (s at : List ℕ) (h : ℕ) (r : Chosen) (n : ℕ) (x : Choice) (is : ChosenAs s at h r x) where
  pub count_own : (w : ℕ) (b : Bool) → r ≡ chosen.Character w b → b ≡ true → n ≡ n + one (is_missing x)
  count_own w b e f = go x (rw (e, f) at is)
    where
      go : (x : Choice) → ChosenAs s at h (chosen.Character w true) x → n ≡ n + one (is_missing x)
      go (found c) z = omega arith
      go (stood_in c) z = absurd z
      go nothing z = absurd z

  pub count-other : (w : ℕ) (b : Bool) → r ≡ chosen.Character w b → b ≡ false → n + 1 ≡ n + one (is_missing x)
  count-other w b e f = go x (rw (e, f) at is)
    where
      go : (x : Choice) → ChosenAs s at h (chosen.Character w false) x → n + 1 ≡ n + one (is_missing x)
      go (found c) z = absurd z
      go (stood_in c) z = refl
      go nothing z = absurd z

  pub count-nothing : r ≡ chosen.Nothing → n + 1 ≡ n + one (is_missing x)
  count-nothing e = go x (rw e at is)
    where
      go : (x : Choice) → ChosenAs s at h chosen.Nothing x → n + 1 ≡ n + one (is_missing x)
      go (found c) z = absurd z
      go (stood_in c) z = absurd z
      go nothing z = refl

module _ (source : Source) where
  -- the counts of a text and of another behind it
  pub many-append : (group : Choice → Bool) (cs ds : List Code) → how_many group source (cs ++ ds) ≡ how_many group source cs + how_many group source ds
  unfolding how_many
  many-append group [] ds = sym (zero-add _)
  many-append group (c ∷ cs) ds = omega (arith, many-append group cs ds)

  -- the counts of a text and of one code more
  one-many : (group : Choice → Bool) (c : Code) → how_many group source (c ∷ []) ≡ one (group (source c))
  unfolding how_many
  one-many group c = omega arith

  pub counts-more : (cs : List Code) (c : Code) → counts_of source (cs ++ (c ∷ [])) ≡ counted (source c) (counts_of source cs)
  unfolding counts_of
  counts-more cs c =
      same-counts _ _ _ _ (omega (arith, many-append is_stood_in cs (c ∷ []), one-many is_stood_in c)) (omega (arith, many-append is_nothing cs (c ∷ []), one-many is_nothing c))

  -- a code that is missing is in one of the two groups
  missing-one : (x : Choice) → one (is_missing x) ≡ one (is_stood_in x) + one (is_nothing x)
  missing-one (found c) = refl
  missing-one (stood_in c) = refl
  missing-one nothing = refl

  missing_both : (cs : List Code) → how_many is_missing source cs ≡ how_many is_stood_in source cs + how_many is_nothing source cs
  unfolding how_many
  missing_both [] = refl
  missing_both (c ∷ cs) = omega (arith, missing-one (source c), missing_both cs)

  -- a source that stands in for all that it lacks, or for none
  pub all_stood_in : (n : ℕ) (cs : List Code) → n ≡ how_many is_missing source cs → how_many is_nothing source cs ≡ 0 → counts n 0 ≡ counts_of source cs
  unfolding counts_of
  all_stood_in n cs e z = same-counts _ _ _ _ (omega (arith, e, z, missing_both cs)) (sym z)

  pub none_stood_in : (n : ℕ) (cs : List Code) → n ≡ how_many is_missing source cs → how_many is_stood_in source cs ≡ 0 → counts 0 n ≡ counts_of source cs
  unfolding counts_of
  none_stood_in n cs e z = same-counts _ _ _ _ (sym z) (omega (arith, e, z, missing_both cs))

  -- a group that no code is in
  pub none_of : (group : Choice → Bool) → ((c : Code) → group (source c) ≡ false) → (cs : List Code) → how_many group source cs ≡ 0
  unfolding how_many
  none_of group never [] = refl
  none_of group never (c ∷ cs) = omega (arith, ap one (never c), none_of group never cs)

  -- each code is in one group at the most
  one_group : (x : Choice) → one (is_stood_in x) + one (is_nothing x) ≤ 1
  one_group (found c) = omega arith
  one_group (stood_in c) = omega arith
  one_group nothing = omega arith

  pub few_replaced : (cs : List Code) → (counts_of source cs).stood_in + (counts_of source cs).nothing_drawn ≤ length cs
  unfolding counts_of how_many
  few_replaced [] = omega arith
  few_replaced (c ∷ cs) = omega (arith, one_group (source c), few_replaced cs)

  pub few-missing : (cs : List Code) → how_many is_missing source cs ≤ length cs
  unfolding counts_of
  few-missing cs = omega (arith, missing_both cs, few_replaced cs)

-- Of a font's text at most one of the two counts is not 0: a font has a code 0, which stands in for all that it lacks, or has none.
module _ (s : List ℕ) (es : List Entry) where
  abbrev zeroth : Option Entry
  zeroth = last_of (pos 0) es

  no_stand_in : (own : Option Entry) → is_stood_in (choice_of s (which_of own None)) ≡ false
  no_stand_in (Some e) = refl
  no_stand_in None = refl

  no_gap : (own : Option Entry) (e : Entry) → is_nothing (choice_of s (which_of own (Some e))) ≡ false
  no_gap (Some d) e = refl
  no_gap None e = refl

  pub without_code_0 : zeroth ≡ None → (cs : List Code) → how_many is_stood_in (font_source s es) cs ≡ 0
  unfolding font_source looked_up
  without_code_0 p = none_of (font_source s es) is_stood_in (λ c. ap (λ (z : Option Entry). is_stood_in (choice_of s (which_of (last_of c.0 es) z))) p ∙ no_stand_in (last_of c.0 es))

  pub with_code_0 : (e : Entry) → zeroth ≡ Some e → (cs : List Code) → how_many is_nothing (font_source s es) cs ≡ 0
  unfolding font_source looked_up
  with_code_0 e p = none_of (font_source s es) is_nothing (λ c. ap (λ (z : Option Entry). is_nothing (choice_of s (which_of (last_of c.0 es) z))) p ∙ no_gap (last_of c.0 es) e)

  pub never_both : (cs : List Code) → ((counts_of (font_source s es) cs).stood_in ≡ 0) ⊎ ((counts_of (font_source s es) cs).nothing_drawn ≡ 0)
  unfolding counts_of
  never_both cs = go zeroth refl
    where
      go : (z : Option Entry) → zeroth ≡ z → (how_many is_stood_in (font_source s es) cs ≡ 0) ⊎ (how_many is_nothing (font_source s es) cs ≡ 0)
      go None p = inl (without_code_0 p cs)
      go (Some e) p = inr (with_code_0 e p cs)

-- The same of a pack's text: a pack has a letter with code 0, or has none.
module _ (f : Head) (rs : List (List ℕ)) where
  no_zeroth : (own : Letter) → is_stood_in (of_letters own no_letter) ≡ false
  no_zeroth (letter w rows) = refl
  no_zeroth no_letter = refl

  some_zeroth : (own : Letter) (w : ℕ) (rows : List ℕ) → is_nothing (of_letters own (letter w rows)) ≡ false
  some_zeroth (letter v q) w rows = refl
  some_zeroth no_letter w rows = refl

  pub pack_without_0 : pack_letter f rs (pos 0) ≡ no_letter → StandsIn false (pack_source f rs)
  unfolding pack_source
  pack_without_0 e = none_of (pack_source f rs) is_stood_in (λ c. ap (λ (z : Letter). is_stood_in (of_letters (pack_letter f rs c.0) z)) e ∙ no_zeroth (pack_letter f rs c.0))

  pub pack_with_0 : (w : ℕ) (rows : List ℕ) → pack_letter f rs (pos 0) ≡ letter w rows → StandsIn true (pack_source f rs)
  unfolding pack_source
  pack_with_0 w rows e = none_of (pack_source f rs) is_nothing (λ c. ap (λ (z : Letter). is_nothing (of_letters (pack_letter f rs c.0) z)) e ∙ some_zeroth (pack_letter f rs c.0) w rows)
