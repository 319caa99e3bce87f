-- The rules of a set: controlled smushing joins by exactly those.
-- Assumes nothing.
use mathlib.Core.Path.{◌≡◌, refl, sym, ◌∙◌, ap}
use mathlib.Core.Bool.{Bool, true, false, cond, true≢false, false≢true}
use mathlib.Core.List.{List, [], ◌∷◌}
use mathlib.Core.Logic.{◌⊎◌, inl, inr, ⊎_elim}
use Rattle.std.specs.Prelude.{Option, Some, None}
use Prim.Native.Nat.{ℕ}
use Rattle.ground.proofs.Tests.{clash}
use Rattle.subchars.specs.declared.SubCharacter.{SubCharacter}
use Rattle.rules.specs.declared.Rule.{Rule}
use Rattle.rules.specs.declared.Rule.TheVariants.{EqualCharacter, Underscore, Hierarchy, OppositePair, BigX, Hardblank}
use Rattle.rules.specs.Rules.{by_rule, rules}
use Rattle.rules.proofs.Rules.{is-some, only, joined_by_only, one_rule}
use Rattle.pairs.specs.declared.Joint.{Joint}
use Rattle.pairs.specs.declared.Joint.TheVariants.{ByRule, Unjoinable}
use Rattle.pairs.specs.Pair.{joined_by, first_rule, in_set, controlled, is_joined, EveryRuleOf}
use Rattle.pairs.specs.Steps.{its_rule, kept_by_set}

-- a rule of a list
pub Listed : Rule → List Rule → Type 0
Listed p [] = ⊥
Listed p (q ∷ qs) = (p ≡ q) ⊎ Listed p qs

pub listed : (p : Rule) → Listed p rules
unfolding Listed
listed EqualCharacter = inl refl
listed Underscore = inr (inl refl)
listed Hierarchy = inr (inr (inl refl))
listed OppositePair = inr (inr (inr (inl refl)))
listed BigX = inr (inr (inr (inr (inl refl))))
listed Hardblank = inr (inr (inr (inr (inr (inl refl)))))

-- a joint by a rule
abbrev pub by : Rule → ℕ → Joint
by rule x = ByRule rule (record { 0 = x })

-- What trying the rules of a list gives: a wanted one joins the pair, or none does.
pub data Tried (wanted : Rule → Bool) (h l r : ℕ) (more : List Rule) (j : Joint) : Type 0 where
  joined : (p : Rule) (x : ℕ) → wanted p ≡ true → by_rule p h l r ≡ Some x → j ≡ by p x → Tried wanted h l r more j
  unjoined : ((p : Rule) → Listed p more → wanted p ≡ true → by_rule p h l r ≡ None) → j ≡ Unjoinable → Tried wanted h l r more j

module _ (wanted : Rule → Bool) (h l r : ℕ) where
  -- a rule that does not join, before the others
  behind : (q : Rule) (more : List Rule) (j : Joint) → (wanted q ≡ true → by_rule q h l r ≡ None) → Tried wanted h l r more j → Tried wanted h l r (q ∷ more) j
  unfolding Listed
  behind q more j f (joined p x w e i) = joined p x w e i
  behind q more j f (unjoined n i) =
      unjoined (λ p m w. ⊎_elim (λ s. ap (λ (t : Rule). by_rule t h l r) s ∙ f (sym (ap wanted s) ∙ w)) (λ v. n p v w) m) i

  tried : (more : List Rule) → Tried wanted h l r more (first_rule wanted more h l r)
  unfolding Listed
  tried [] = unjoined (λ p m w. absurd m) refl
  tried (q ∷ more) = go (wanted q) refl (by_rule q h l r) refl (tried more)
    where
      go : (t : Bool) → wanted q ≡ t → (o : Option ℕ) → by_rule q h l r ≡ o → Tried wanted h l r more (first_rule wanted more h l r) → Tried wanted h l r (q ∷ more) (joined_by q (cond t o None) (first_rule wanted more h l r))
      go true w (Some x) e rest = joined q x w e refl
      go true w None e rest = behind q more _ (λ v. e) rest
      go false w o e rest = behind q more _ (λ v. absurd (true≢false (sym v ∙ w))) rest

module _ (set h l r : ℕ) where
  by-set : Tried (in_set set) h l r rules (controlled set h l r)
  unfolding controlled
  by-set = tried (in_set set) h l r rules

  -- "What its rule in the set gives": a pair that controlled smushing joins, it joins by a rule of the set.
  pub controlled_in : (rule : Rule) (x : ℕ) → controlled set h l r ≡ by rule x → (in_set set rule ≡ true) × (by_rule rule h l r ≡ Some x)
  controlled_in rule x e = go by-set
    where
      go : Tried (in_set set) h l r rules (controlled set h l r) → (in_set set rule ≡ true) × (by_rule rule h l r ≡ Some x)
      go (joined p y w b i) =
          let same : p ≡ rule = cc in
          let sub : ◌≡◌ {A = SubCharacter} (record { 0 = y }) (record { 0 = x }) = cc in
          let byte : y ≡ x = ap (λ (s : SubCharacter). s.0) sub in
          (sym (ap (in_set set) same) ∙ w, sym (ap (λ (q : Rule). by_rule q h l r) same) ∙ (b ∙ ap Some byte))
      go (unjoined n i) = clash cc

  -- "A pair without a blank has as joint what .. its rule in the set gives": a rule of the set that joins the pair gives its byte.
  pub controlled-by : (rule : Rule) (x : ℕ) → in_set set rule ≡ true → by_rule rule h l r ≡ Some x → controlled set h l r ≡ by rule x
  controlled-by rule x w b = go by-set
    where
      go : Tried (in_set set) h l r rules (controlled set h l r) → controlled set h l r ≡ by rule x
      go (joined p y v c i) =
          let same : p ≡ rule = one_rule h l r p rule y x c b in
          let value : Some y ≡ Some x = sym c ∙ (ap (λ (q : Rule). by_rule q h l r) same ∙ b) in
          let byte : y ≡ x = cc in
          i ∙ (ap (λ (q : Rule). by q y) same ∙ ap (by rule) byte)
      go (unjoined n i) = let never : Some x ≡ None = sym b ∙ n rule (listed rule) w in clash cc

  -- "With no such rule controlled cannot join it": a pair that it cannot join, no rule of the set joins.
  pub controlled_out : controlled set h l r ≡ Unjoinable → (rule : Rule) → in_set set rule ≡ true → by_rule rule h l r ≡ None
  controlled_out e rule w = go by-set
    where
      go : Tried (in_set set) h l r rules (controlled set h l r) → by_rule rule h l r ≡ None
      go (joined p y v b i) = clash cc
      go (unjoined n i) = n rule (listed rule) w

-- ------------------------------------------------------------------ the rule of a pair

abbrev pub every_rule : Rule → Bool
every_rule rule = true

module _ (h l r : ℕ) where
  pub by_any : Tried every_rule h l r rules (its_rule h l r)
  unfolding its_rule
  by_any = tried every_rule h l r rules

  never : (p : Rule) (x : ℕ) → by_rule p h l r ≡ Some x → by_rule p h l r ≡ None → ⊥
  never p x a b = clash cc

  -- the only rule that can join a pair decides
  pub found : (p : Rule) (o : Option ℕ) → only h l r ≡ p → by_rule p h l r ≡ o → its_rule h l r ≡ joined_by p o Unjoinable
  found p o e b = go by_any
    where
      go : Tried every_rule h l r rules (its_rule h l r) → its_rule h l r ≡ joined_by p o Unjoinable
      go (joined q x w c i) =
          let same : q ≡ p = joined_by_only h l r q (is-some _ x c) ∙ e in
          let value : Some x ≡ o = sym c ∙ (ap (λ (t : Rule). by_rule t h l r) same ∙ b) in
          i ∙ (ap (λ (t : Rule). by t x) same ∙ ap (λ (v : Option ℕ). joined_by p v Unjoinable) value)
      go (unjoined n i) =
          let value : None ≡ o = sym (n p (listed p) refl) ∙ b in
          i ∙ ap (λ (v : Option ℕ). joined_by p v Unjoinable) value

  -- it is found without the set, which is asked of it afterwards
  pub kept-all : (set : ℕ) → controlled set h l r ≡ kept_by_set set (its_rule h l r)
  unfolding kept_by_set
  kept-all set = go (by-set set h l r) by_any
    where
      asked : (q : Rule) (y : ℕ) (t : Bool) → in_set set q ≡ t → (in_set set q ≡ true → ⊥) → Unjoinable ≡ cond t (by q y) Unjoinable
      asked q y true e n = absurd (n e)
      asked q y false e n = refl

      go : Tried (in_set set) h l r rules (controlled set h l r) → Tried every_rule h l r rules (its_rule h l r) → controlled set h l r ≡ kept_by_set set (its_rule h l r)
      go (joined p x w b i) any =
          let its = found p (Some x) (sym (joined_by_only h l r p (is-some _ x b))) b in
          i ∙ sym (ap (kept_by_set set) its ∙ rw w)
      go (unjoined n i) (joined q y v c k) = i ∙ (asked q y (in_set set q) refl (λ w. never q y c (n q (listed q) w)) ∙ sym (ap (kept_by_set set) k))
      go (unjoined n i) (unjoined m k) = i ∙ sym (ap (kept_by_set set) k)

-- a set that has every rule of another joins every pair that the other joins
pub controlled-more : (p q : ℕ) → EveryRuleOf p q → (h l r : ℕ) → is_joined (controlled p h l r) ≡ true → is_joined (controlled q h l r) ≡ true
controlled-more p q w h l r e = go (by-set p h l r) (by-set q h l r)
  where
    go : Tried (in_set p) h l r rules (controlled p h l r) → Tried (in_set q) h l r rules (controlled q h l r) → is_joined (controlled q h l r) ≡ true
    go (joined rule x v b i) (joined other y u c k) = ap is_joined k
    go (joined rule x v b i) (unjoined n k) = absurd (never h l r rule x b (n rule (listed rule) (w rule v)))
    go (unjoined n i) any = absurd (false≢true (sym (ap is_joined i) ∙ e))
