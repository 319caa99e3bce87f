-- The code's table of sixteen by sixteen kinds says what the rules say: one computed test over all of it, and the law that turns the test
-- into the rules of each pair.
-- Assumes nothing.
use mathlib.Core.Path.{◌≡◌, refl, sym, ◌∙◌, ap, subst}
use mathlib.Core.Bool.{Bool, true, false, cond, not, ◌&&◌, ◌||◌}
use mathlib.Core.List.{List, [], ◌∷◌, ◌++◌}
use mathlib.Core.Logic.{◌⊎◌, inl, inr}
use Rattle.std.specs.Prelude.{Option, Some, None}
use Prim.Native.Nat.{ℕ, suc, ◌+◌, ◌-◌, ◌<◌}
use native.Mathlib.Omega.{arith}
use lib.Dec.{eqb}
use lib.ListN.{length, get_or}
use borrow.Author.Tests.{eq-eqb, ne_eqb, eqb-true, eqb-false, not-true}
use Rattle.ground.specs.Text.{byte, among}
use Rattle.ground.specs.Count.{every}
use Rattle.ground.proofs.Tests.{and_left, and_right, or_elim, same_test, never_both}
use Rattle.ground.proofs.Counting.{every-at}
use Rattle.subchars.specs.Hardblank.{blank}
use Rattle.rules.specs.Rules.{joined_if, or_else, is_some, equal_character, yields, underscore, class_of, earlier, hierarchy, reads, opposite, opposite_pair, big_x}
use Rattle.kinds.specs.Kinds.{rules_joining, twelve, place_from, kind_of, rule_entry}

-- ------------------------------------------------------------------ the kind of a sub-character

-- the kind of one that is not the hardblank
abbrev pub visible_kind : ℕ → ℕ
visible_kind x = cond (eqb x blank) 0 (place_from 2 twelve x)

module _ (h x : ℕ) where
  pub kind_hardblank : x ≡ h → 1 ≡ kind_of h x
  unfolding kind_of
  kind_hardblank e = rw (eq-eqb x h e)

  pub kind_visible : (x ≡ h → ⊥) → visible_kind x ≡ kind_of h x
  unfolding kind_of
  kind_visible n = rw (ne_eqb x h n)

  -- the kind of a given byte
  pub kind_of_byte : (x ≡ h → ⊥) → (y k : ℕ) → x ≡ y → visible_kind y ≡ k → k ≡ kind_of h x
  kind_of_byte n y k e v = sym v ∙ (ap visible_kind (sym e) ∙ kind_visible n)

  -- the kind of any other
  pub kind_other : (x ≡ h → ⊥) → (x ≡ blank → ⊥) → (x ≡ byte "_" → ⊥) → (x ≡ byte "|" → ⊥) → (x ≡ byte "/" → ⊥) → (x ≡ byte "\\" → ⊥) → (x ≡ byte "[" → ⊥) → (x ≡ byte "]" → ⊥) → (x ≡ byte "{" → ⊥) → (x ≡ byte "}" → ⊥) → (x ≡ byte "(" → ⊥) → (x ≡ byte ")" → ⊥) → (x ≡ byte "<" → ⊥) → (x ≡ byte ">" → ⊥) → 14 ≡ kind_of h x
  unfolding kind_of
  kind_other n n0 n1 n2 n3 n4 n5 n6 n7 n8 n9 n10 n11 n12 = rw (ne_eqb x h n, ne_eqb x _ n0, ne_eqb x _ n1, ne_eqb x _ n2, ne_eqb x _ n3, ne_eqb x _ n4, ne_eqb x _ n5, ne_eqb x _ n6, ne_eqb x _ n7, ne_eqb x _ n8, ne_eqb x _ n9, ne_eqb x _ n10, ne_eqb x _ n11, ne_eqb x _ n12)

-- a sub-character has a place in a list, or is not in it
placed : (ys : List ℕ) (k x : ℕ) → ((i : ℕ) × (i < length ys) × (get_or ys i 0 ≡ x) × (place_from k ys x ≡ k + i)) ⊎ ((among ys x ≡ false) × (place_from k ys x ≡ k + length ys))
placed [] k x = inr (refl, omega arith)
placed (y ∷ ys) k x = go (eqb x y) refl (placed ys (suc k) x)
  where
    go : (t : Bool) → eqb x y ≡ t → ((i : ℕ) × (i < length ys) × (get_or ys i 0 ≡ x) × (place_from (suc k) ys x ≡ suc k + i)) ⊎ ((among ys x ≡ false) × (place_from (suc k) ys x ≡ suc k + length ys))
        → ((i : ℕ) × (i < suc (length ys)) × (get_or (y ∷ ys) i 0 ≡ x) × (cond t k (place_from (suc k) ys x) ≡ k + i)) ⊎ (((t || among ys x) ≡ false) × (cond t k (place_from (suc k) ys x) ≡ k + suc (length ys)))
    go true e w = inl (0, omega arith, sym (eqb-true x y e), omega arith)
    go false e (inl w) = inl (suc w.0, omega (arith, w.1), w.2, omega (arith, w.3))
    go false e (inr w) = inr (w.0, omega (arith, w.1))

-- ------------------------------------------------------------------ the rules' tests

some_if : (t : Bool) (x : ℕ) → is_some (joined_if t x) ≡ t
unfolding is_some joined_if
some_if true x = refl
some_if false x = refl

some_or : (a b : Option ℕ) → is_some (or_else a b) ≡ (is_some a || is_some b)
unfolding is_some or_else
some_or (Some x) b = refl
some_or None b = refl

some_either : (s t : Bool) (x y : ℕ) → is_some (or_else (joined_if s x) (joined_if t y)) ≡ (s || t)
some_either s t x y = some_or (joined_if s x) (joined_if t y) ∙ rw (some_if s x, some_if t y)

-- a rule's number where its test holds
abbrev worth : Bool → ℕ → ℕ
worth t n = cond t n 0

-- the sum of the rules that join two visible sub-characters, by their tests
abbrev tested : ℕ → ℕ → ℕ
tested l r =
    worth (eqb l r) 1
    + (worth (yields l r || yields r l) 2
    + (worth (earlier l r || earlier r l) 4
    + (worth (opposite l r) 8 + (worth (reads "/\\" l r || (reads "\\/" l r || reads "><" l r)) 16 + 0))))

module _ (l r : ℕ) where
  some-equal : is_some (equal_character l r) ≡ eqb l r
  unfolding equal_character
  some-equal = some_if (eqb l r) l

  some-underscore : is_some (underscore l r) ≡ (yields l r || yields r l)
  unfolding underscore
  some-underscore = some_either (yields l r) (yields r l) r l

  some-hierarchy : is_some (hierarchy l r) ≡ (earlier l r || earlier r l)
  unfolding hierarchy
  some-hierarchy = some_either (earlier l r) (earlier r l) r l

  some-opposite : is_some (opposite_pair l r) ≡ opposite l r
  unfolding opposite_pair
  some-opposite = some_if (opposite l r) (byte "|")

  some_big_x : is_some (big_x l r) ≡ (reads "/\\" l r || (reads "\\/" l r || reads "><" l r))
  unfolding big_x
  some_big_x =
      some_or (joined_if (reads "/\\" l r) (byte "|")) (or_else (joined_if (reads "\\/" l r) (byte "Y")) (joined_if (reads "><" l r) (byte "X")))
      ∙ rw (some_if (reads "/\\" l r) (byte "|"), some_either (reads "\\/" l r) (reads "><" l r) (byte "Y") (byte "X"))

sum_tested : (h l r : ℕ) → rules_joining h l r ≡ cond (eqb l h) (worth (eqb r h) 32) (cond (eqb r h) 0 (tested l r))
unfolding rules_joining is_some joined_if
sum_tested h l r = go (eqb l h) (eqb r h)
  where
    go : (a b : Bool)
        → worth (is_some (cond (a || b) None (equal_character l r))) 1
        + (worth (is_some (cond (a || b) None (underscore l r))) 2
        + (worth (is_some (cond (a || b) None (hierarchy l r))) 4
        + (worth (is_some (cond (a || b) None (opposite_pair l r))) 8
        + (worth (is_some (cond (a || b) None (big_x l r))) 16
        + (worth (is_some (cond (a && b) (Some h) None)) 32 + 0)))))
        ≡ cond a (worth b 32) (cond b 0 (tested l r))
    go true true = refl
    go true false = refl
    go false true = refl
    go false false = rw (some-equal l r, some-underscore l r, some-hierarchy l r, some-opposite l r, some_big_x l r)

-- two visible pairs that pass the same tests are joined by the same rules
tested_alike : (l r l' r' : ℕ) → ((c : ℕ) → among twelve c ≡ true → eqb l c ≡ eqb l' c) → ((c : ℕ) → among twelve c ≡ true → eqb r c ≡ eqb r' c) → eqb l r ≡ eqb l' r' → tested l r ≡ tested l' r'
unfolding class_of opposite
tested_alike l r l' r' nl nr e = rw (e, nl 95 refl, nl 124 refl, nl 47 refl, nl 92 refl, nl 91 refl, nl 93 refl, nl 123 refl, nl 125 refl, nl 40 refl, nl 41 refl, nl 60 refl, nl 62 refl, nr 95 refl, nr 124 refl, nr 47 refl, nr 92 refl, nr 91 refl, nr 93 refl, nr 123 refl, nr 125 refl, nr 40 refl, nr 41 refl, nr 60 refl, nr 62 refl)

-- ------------------------------------------------------------------ a sub-character for each kind

-- a dollar sign is the hardblank, and an a is any other
abbrev dollar : ℕ
dollar = byte "$"

abbrev one_of : ℕ → ℕ
one_of i = get_or (blank ∷ dollar ∷ twelve ++ (byte "a" ∷ [])) i 0

-- each has its own kind, from that of the hardblank on
own_kind : ℕ → Bool
own_kind i = eqb i 0 || eqb (kind_of dollar (one_of i)) i

own_kinds : every own_kind 15 ≡ true
unfolding every own_kind kind_of
own_kinds = refl

its_kind : (i : ℕ) → 0 < i → i < 15 → kind_of dollar (one_of i) ≡ i
unfolding own_kind
its_kind i a b =
    or_elim (eqb i 0) (eqb (kind_of dollar (one_of i)) i) (every-at own_kind 15 own_kinds i b)
    (λ t. absurd (omega (arith, eqb-true i 0 t)))
    (eqb-true (kind_of dollar (one_of i)) i)

-- those of kinds 2 to 13 are the twelve, and none of them is the dollar sign
twelve_test : ℕ → Bool
twelve_test i = eqb (one_of (2 + i)) (get_or twelve i 0) && (among twelve (one_of (2 + i)) && not (eqb (one_of (2 + i)) dollar))

twelve_right : every twelve_test 12 ≡ true
unfolding every twelve_test
twelve_right = refl

module _ (i : ℕ) (b : i < 12) where
  the_twelfth : one_of (2 + i) ≡ get_or twelve i 0
  unfolding twelve_test
  the_twelfth = eqb-true _ _ (and_left (eqb (one_of (2 + i)) (get_or twelve i 0)) _ (every-at twelve_test 12 twelve_right i b))

  in_twelve : (among twelve (one_of (2 + i)) && not (eqb (one_of (2 + i)) dollar)) ≡ true
  unfolding twelve_test
  in_twelve = and_right (eqb (one_of (2 + i)) (get_or twelve i 0)) _ (every-at twelve_test 12 twelve_right i b)

one_of_twelve : (k : ℕ) → (k ≡ 1 → ⊥) → (k ≡ 14 → ⊥) → 0 < k → k < 15 → among twelve (one_of k) ≡ true
one_of_twelve k m n a b =
    let i = k - 2 in
    let e : 2 + i ≡ k = omega arith in
    subst (λ (j : ℕ). among twelve (one_of j) ≡ true) e (and_left (among twelve (one_of (2 + i))) _ (in_twelve i (omega arith)))

-- x passes with the hardblank h the tests that y passes with the dollar sign
record Like (h x y : ℕ) : Type 0 where
  own : eqb x h ≡ eqb y dollar
  named : eqb x h ≡ false → (c : ℕ) → among twelve c ≡ true → eqb x c ≡ eqb y c

-- one that is not among the twelve is none of them
none_of : (x c : ℕ) → among twelve x ≡ false → among twelve c ≡ true → eqb x c ≡ false
none_of x c a m = ne_eqb x c λ e. never_both (among twelve c) m (sym (ap (among twelve) e) ∙ a)

-- the kind of one that is no blank, and that it passes the tests that the one of its kind passes
record Kind (h x k : ℕ) : Type 0 where
  above : 0 < k
  below : k < 15
  like : Like h x (one_of k)

place_is_kind : (h x : ℕ) → (x ≡ blank → ⊥) → eqb x h ≡ false → place_from 2 twelve x ≡ kind_of h x
unfolding kind_of
place_is_kind h x seen t = rw (t, ne_eqb x blank seen)

kind : (h x : ℕ) → (x ≡ blank → ⊥) → Kind h x (kind_of h x)
kind h x seen = go (eqb x h) refl (placed twelve 2 x)
  where
    go : (t : Bool) → eqb x h ≡ t → ((i : ℕ) × (i < 12) × (get_or twelve i 0 ≡ x) × (place_from 2 twelve x ≡ 2 + i)) ⊎ ((among twelve x ≡ false) × (place_from 2 twelve x ≡ 14)) → Kind h x (kind_of h x)
    go true t w =
        subst (Kind h x) (kind_hardblank h x (eqb-true x h t))
        (record { above = omega arith; below = omega arith; like = record { own = t; named = λ f. absurd (never_both (eqb x h) t f) } })
    go false t (inl w) =
        let same : one_of (2 + w.0) ≡ x = the_twelfth w.0 w.1 ∙ w.2 in
        let no-dollar = not-true (eqb (one_of (2 + w.0)) dollar) (and_right (among twelve (one_of (2 + w.0))) _ (in_twelve w.0 w.1)) in
        subst (Kind h x) (sym w.3 ∙ place_is_kind h x seen t)
        (record { above = omega arith; below = omega (arith, w.1); like = record { own = t ∙ sym no-dollar; named = λ f c m. ap (λ (y : ℕ). eqb y c) (sym same) } })
    go false t (inr w) =
        subst (Kind h x) (sym w.1 ∙ place_is_kind h x seen t)
        (record { above = omega arith; below = omega arith; like = record { own = t; named = λ f c m. none_of x c w.0 m ∙ sym (none_of (byte "a") c refl m) } })

-- what joins a pair joins a pair that passes the same tests
alike : (h l r l' r' : ℕ) → Like h l l' → Like h r r' → eqb l r ≡ eqb l' r' → rules_joining h l r ≡ rules_joining dollar l' r'
alike h l r l' r' a b e = sum_tested h l r ∙ (go (eqb l h) refl (eqb r h) refl ∙ sym (sum_tested dollar l' r' ∙ rw (sym a.own, sym b.own)))
  where
    go : (s : Bool) → eqb l h ≡ s → (t : Bool) → eqb r h ≡ t → cond s (worth t 32) (cond t 0 (tested l r)) ≡ cond s (worth t 32) (cond t 0 (tested l' r'))
    go true p t q = refl
    go false p true q = refl
    go false p false q = tested_alike l r l' r' (a.named p) (b.named q) e

-- ------------------------------------------------------------------ the table

-- what an entry is due to be: the sum of the rules that join the two of its kinds; none where a kind is the blank's or free
abbrev unruled : ℕ → Bool
unruled i = eqb i 0 || eqb i 15

abbrev due : ℕ → ℕ → ℕ
due i j = cond (unruled i || unruled j) 0 (rules_joining dollar (one_of i) (one_of j))

entry_test : ℕ → ℕ → Bool
entry_test i j = eqb (rule_entry i j) (due i j)

row_test : ℕ → Bool
row_test i = every (entry_test i) 16

table_right : every row_test 16 ≡ true
unfolding every row_test entry_test rules_joining is_some joined_if or_else equal_character underscore class_of hierarchy opposite opposite_pair big_x
table_right = refl

entry_right : (i j : ℕ) → 0 < i → i < 15 → 0 < j → j < 15 → rule_entry i j ≡ rules_joining dollar (one_of i) (one_of j)
unfolding row_test entry_test
entry_right i j a b c d =
    eqb-true _ _ (every-at (entry_test i) 16 (every-at row_test 16 table_right i (omega arith)) j (omega arith))
    ∙ rw (ne_eqb i 0 (λ e. omega arith), ne_eqb i 15 (λ e. omega arith), ne_eqb j 0 (λ e. omega arith), ne_eqb j 15 (λ e. omega arith))

-- one more of the kind of any other, with those of all kinds
apart_test : ℕ → Bool
apart_test i = eqb i 0 || (not (eqb (one_of i) (byte "b")) && eqb (rules_joining dollar (one_of i) (byte "b")) 0)

apart_right : every apart_test 15 ≡ true
unfolding every apart_test rules_joining is_some joined_if or_else equal_character underscore class_of hierarchy opposite opposite_pair big_x
apart_right = refl

apart : (i : ℕ) → 0 < i → i < 15 → (eqb (one_of i) (byte "b") ≡ false) × (rules_joining dollar (one_of i) (byte "b") ≡ 0)
unfolding apart_test
apart i a b =
    or_elim (eqb i 0) _ (every-at apart_test 15 apart_right i b)
    (λ t. absurd (omega (arith, eqb-true i 0 t)))
    (λ t. (not-true (eqb (one_of i) (byte "b")) (and_left (not (eqb (one_of i) (byte "b"))) _ t), eqb-true _ 0 (and_right (not (eqb (one_of i) (byte "b"))) _ t)))

module _ (h l r : ℕ) (left-seen : l ≡ blank → ⊥) (right-seen : r ≡ blank → ⊥) where
  left : Kind h l (kind_of h l)
  left = kind h l left-seen

  right : Kind h r (kind_of h r)
  right = kind h r right-seen

  -- two of one kind are equal, but for two others
  one_kind : kind_of h l ≡ kind_of h r → (kind_of h r ≡ 14 → l ≡ r) → l ≡ r
  one_kind e others = go (eqb l h) refl (eqb (kind_of h l) 14) refl
    where
      right_own : eqb r h ≡ eqb l h
      right_own = right.like.own ∙ (ap (λ (i : ℕ). eqb (one_of i) dollar) (sym e) ∙ sym left.like.own)

      go : (t : Bool) → eqb l h ≡ t → (s : Bool) → eqb (kind_of h l) 14 ≡ s → l ≡ r
      go true t s u = eqb-true l h t ∙ sym (eqb-true r h (right_own ∙ t))
      go false t true u = others (sym e ∙ eqb-true (kind_of h l) 14 u)
      go false t false u =
          let m = one_of_twelve (kind_of h l) (λ q. never_both (eqb l h) (left.like.own ∙ ap (λ (i : ℕ). eqb (one_of i) dollar) q) t) (eqb-false (kind_of h l) 14 u) left.above left.below in
          let own : eqb (one_of (kind_of h l)) (one_of (kind_of h l)) ≡ true = eq-eqb (one_of (kind_of h l)) (one_of (kind_of h l)) refl in
          let a = left.like.named t (one_of (kind_of h l)) m ∙ own in
          let b = right.like.named (right_own ∙ t) (one_of (kind_of h l)) m ∙ (ap (λ (i : ℕ). eqb (one_of i) (one_of (kind_of h l))) (sym e) ∙ own) in
          eqb-true l (one_of (kind_of h l)) a ∙ sym (eqb-true r (one_of (kind_of h l)) b)

  same_pair : (kind_of h r ≡ 14 → l ≡ r) → eqb l r ≡ eqb (one_of (kind_of h l)) (one_of (kind_of h r))
  same_pair others =
      same_test _ _
      (λ t. eq-eqb _ _ (ap (λ (y : ℕ). one_of (kind_of h y)) (eqb-true l r t)))
      (λ t. let k = its_kind (kind_of h l) left.above left.below in
      let m = its_kind (kind_of h r) right.above right.below in
      eq-eqb l r (one_kind (sym k ∙ (ap (kind_of dollar) (eqb-true (one_of (kind_of h l)) (one_of (kind_of h r)) t) ∙ m)) others))

  -- The table's entry of two kinds is the sum of the rules that join the pair, with equality beside it for two others.
  pub pair_entry : (kind_of h r ≡ 14 → l ≡ r) → rule_entry (kind_of h l) (kind_of h r) ≡ rules_joining h l r
  pair_entry others =
      entry_right (kind_of h l) (kind_of h r) left.above left.below right.above right.below
      ∙ sym (alike h l r (one_of (kind_of h l)) (one_of (kind_of h r)) left.like right.like (same_pair others))

  pub pair_apart : kind_of h r ≡ 14 → (l ≡ r → ⊥) → 0 ≡ rules_joining h l r
  pair_apart o differ =
      let w = subst (λ (i : ℕ). Like h r (one_of i)) o right.like in
      let z = apart (kind_of h l) left.above left.below in
      let like-b : Like h r (byte "b") = record { own = w.own; named = λ f c m. w.named f c m ∙ (none_of (byte "a") c refl m ∙ sym (none_of (byte "b") c refl m)) } in
      sym (alike h l r (one_of (kind_of h l)) (byte "b") left.like like-b (ne_eqb l r differ ∙ sym z.0) ∙ z.1)

  pub kind_below : kind_of h r < 16
  kind_below = omega (arith, right.below)
