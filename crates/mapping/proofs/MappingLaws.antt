-- What a code maps to: the laws of a stage, that new codes are within signed 32 bits, and that one pass over the commands goes through all stages.
-- Assumes nothing.
use mathlib.Core.Path.{◌≡◌, refl, sym, ap, ◌∙◌, subst}
use mathlib.Core.Bool.{Bool, true, false, cond}
use mathlib.Core.List.{List, [], ◌∷◌, ◌++◌}
use Prim.Native.Nat.{ℕ, zero, suc, ◌+◌, ◌-◌, ◌≤◌, ◌<◌}
use native.Mathlib.Omega.{arith}
use native.Mathlib.Decide.{dec_lt}
use native.Mathlib.Numerals.{add-one}
use native.Mathlib.Nat.{zero-add, add-zero}
use lib.Dec.{eqb}
use mir.Syntax.{w32}
use mir.Val.{SFits}
use borrow.Author.Tests.{eq-eqb, ne_eqb, le-leb, lt-leb}
use Rattle.subchars.specs.declared.Code.{Code}
use Rattle.flc.specs.declared.Command.{Command}
use Rattle.mapping.specs.declared.Passing.{Passing}
use Rattle.mapping.specs.Mapping.{fits, new_code, through_stage, of_stage, map_stages}
use Rattle.mapping.specs.Passing.{AllSound, Rising, at-end, more, none, pass_all, pass_command, passing, rises}

-- No command of a list fits a code.
pub data NoneFits (z : Code) : List Command → Type 0 where
  no_command : NoneFits z []
  unfit : {c : Command} {cs : List Command} → fits c z ≡ false → NoneFits z cs → NoneFits z (c ∷ cs)

-- A code that no command of a stage fits passes through.
pub passes_through : (cs : List Command) (z : Code) → NoneFits z cs → through_stage cs z ≡ z
unfolding through_stage
passes_through [] z no_command = refl
passes_through (c ∷ cs) z (unfit e n) = simp e (passes_through cs z n)

-- At most one command acts in a stage: the first that fits, whatever stands behind it.
pub first_acts : (before : List Command) (c : Command) (bs : List Command) (z : Code) → NoneFits z before → fits c z ≡ true → through_stage (before ++ (c ∷ bs)) z ≡ new_code c z
unfolding through_stage
first_acts [] c bs z no_command e = simp e
first_acts (a ∷ before) c bs z (unfit f n) e = simp f (first_acts before c bs z n e)

-- New codes are within signed 32 bits.
stage_within : (cs : List Command) (z : Code) → AllSound cs → SFits w32 z.0 → SFits w32 (through_stage cs z).0
unfolding through_stage
stage_within [] z none f = f
stage_within (c ∷ cs) z (more s a) f = go (fits c z) refl (stage_within cs z a f)
  where
    go : (b : Bool) → fits c z ≡ b → SFits w32 (through_stage cs z).0 → SFits w32 (cond b (new_code c z) (through_stage cs z)).0
    go true e g = s.within z e
    go false e g = g

stage_sound : (k : ℕ) (cs : List Command) → AllSound cs → AllSound (of_stage k cs)
unfolding of_stage
stage_sound k [] none = none
stage_sound k (c ∷ cs) (more s a) = go (eqb c.stage k) (stage_sound k cs a)
  where
    go : (b : Bool) → AllSound (of_stage k cs) → AllSound (cond b (c ∷ of_stage k cs) (of_stage k cs))
    go true g = more s g
    go false g = g

pub mapped_within : (cs : List Command) (k n : ℕ) (z : Code) → AllSound cs → SFits w32 z.0 → SFits w32 (map_stages cs k n z).0
unfolding map_stages
mapped_within cs k zero z a f = f
mapped_within cs k (suc n) z a f = mapped_within cs (suc k) n (through_stage (of_stage k cs) z) a (stage_within (of_stage k cs) z (stage_sound k cs a) f)

-- A stage by its first command.
stage_with : (c : Command) (cs : List Command) (z : Code) → through_stage (of_stage c.stage (c ∷ cs)) z ≡ cond (fits c z) (new_code c z) (through_stage (of_stage c.stage cs) z)
unfolding through_stage of_stage
stage_with c cs z = simp (eq-eqb c.stage c.stage refl)

stage_without : (c : Command) (cs : List Command) (k : ℕ) → c.stage < k → of_stage k (c ∷ cs) ≡ of_stage k cs
unfolding of_stage
stage_without c cs k h = simp (ne_eqb c.stage k λ e. omega arith)

-- a command of a stage that is over
pub over : (c : Command) (cs : List Command) (k n : ℕ) (z : Code) → c.stage < k → map_stages (c ∷ cs) k n z ≡ map_stages cs k n z
unfolding map_stages
over c cs k zero z h = refl
over c cs k (suc n) z h = ap (λ (l : List Command). map_stages (c ∷ cs) (suc k) n (through_stage l z)) (stage_without c cs k h) ∙ over c cs (suc k) n (through_stage (of_stage k cs) z) (omega arith)

-- stages before the first command's
no_stage : {stages s : ℕ} (cs : List Command) (k : ℕ) → k < s → Rising stages s cs → of_stage k cs ≡ []
unfolding of_stage
no_stage [] k h (at-end l) = refl
no_stage (c ∷ cs) k h (rises l r) = simp (ne_eqb c.stage k λ e. omega arith) (no_stage cs k (omega arith) r)

empty-stages : {stages s : ℕ} (cs : List Command) (d k n : ℕ) (z : Code) → k + d ≤ s → Rising stages s cs → map_stages cs k (d + n) z ≡ map_stages cs (k + d) n z
unfolding map_stages through_stage
empty-stages cs zero k n z h r = rw (zero-add n, add-zero k)
empty-stages {stages} {s} cs (suc d) k n z h r =
    let e : suc d + n ≡ suc (d + n) = omega arith in
    let f : suc k + d ≡ k + suc d = omega arith in
    ap (λ (j : ℕ). map_stages cs k j z) e ∙ ap (λ (l : List Command). map_stages cs (suc k) (d + n) (through_stage l z)) (no_stage cs k (omega arith) r) ∙
    empty-stages cs d (suc k) n z (omega arith) r ∙ ap (λ (j : ℕ). map_stages cs j n z) f

rising-below : {stages k : ℕ} (cs : List Command) → Rising stages k cs → k < stages
rising-below [] (at-end l) = l
rising-below (c ∷ cs) (rises l r) = omega (arith, rising-below cs r)

-- all stages from k on, where the first command's is s
to_stage : {stages s : ℕ} (cs : List Command) (k n : ℕ) (z : Code) → k ≤ s → s < k + n → Rising stages s cs → map_stages cs k n z ≡ map_stages cs s (suc (k + n - suc s)) z
to_stage {stages} {s} cs k n z h l r =
    let e : n ≡ s - k + suc (k + n - suc s) = omega arith in
    let f : k + (s - k) ≡ s = omega arith in
    ap (λ (j : ℕ). map_stages cs k j z) e ∙ empty-stages cs (s - k) k (suc (k + n - suc s)) z (omega arith) r ∙ ap (λ (j : ℕ). map_stages cs j (suc (k + n - suc s)) z) f

one_more : (cs : List Command) (k n : ℕ) (z : Code) → map_stages cs k (suc n) z ≡ map_stages cs (suc k) n (through_stage (of_stage k cs) z)
unfolding map_stages
one_more cs k n z = refl

-- The pass, by what one command does.
module _ (c : Command) (cs : List Command) (k : ℕ) (z : Code) where
  pass_over : c.stage < k → pass_all (c ∷ cs) (passing k z) ≡ pass_all cs (passing k z)
  unfolding pass_all pass_command
  pass_over h = ap (pass_all cs) (simp (lt-leb k c.stage h))

  pass_act : k ≤ c.stage → fits c z ≡ true → pass_all (c ∷ cs) (passing k z) ≡ pass_all cs (passing (suc c.stage) (new_code c z))
  unfolding pass_all pass_command
  pass_act h e = ap (pass_all cs) (simp (le-leb k c.stage h, e) (ap (λ (j : ℕ). passing j (new_code c z)) (add-one c.stage)))

  pass_on : k ≤ c.stage → fits c z ≡ false → pass_all (c ∷ cs) (passing k z) ≡ pass_all cs (passing k z)
  unfolding pass_all pass_command
  pass_on h e = ap (pass_all cs) (simp (le-leb k c.stage h, e))

pass_none : (k n : ℕ) (z : Code) → map_stages [] k n z ≡ z
unfolding map_stages through_stage of_stage
pass_none k zero z = refl
pass_none k (suc n) z = pass_none (suc k) n z

-- One pass over rising commands goes through all stages, one after another.
pub pass_stages : (cs : List Command) (j k n : ℕ) (z : Code) → Rising (k + n) j cs → (pass_all cs (passing k z)).code ≡ map_stages cs k n z
unfolding pass_all
pass_stages [] j k n z (at-end l) = sym (pass_none k n z)
pass_stages (c ∷ cs) j k n z (rises l r) =
    elim (dec_lt c.stage k) [
      | yes h ↦ ap (λ (p : Passing). p.code) (pass_over c cs k z h) ∙ pass_stages cs c.stage k n z r ∙ sym (over c cs k n z h)
      | no q ↦ go (fits c z) refl (omega arith) (pass_stages cs c.stage (suc c.stage) (k + n - suc c.stage)) (pass_stages cs c.stage k n z r)
    ]
  where
    go : (b : Bool) → fits c z ≡ b → k ≤ c.stage → ((y : Code) → Rising (suc c.stage + (k + n - suc c.stage)) c.stage cs → (pass_all cs (passing (suc c.stage) y)).code ≡ map_stages cs (suc c.stage) (k + n - suc c.stage) y) → (pass_all cs (passing k z)).code ≡ map_stages cs k n z → (pass_all (c ∷ cs) (passing k z)).code ≡ map_stages (c ∷ cs) k n z
    go true e h acts on =
        let s = c.stage in
        let m = k + n - suc s in
        let b = rising-below cs r in
        let w : k + n ≡ suc s + m = omega arith in
        ap (λ (p : Passing). p.code) (pass_act c cs k z h e) ∙ acts (new_code c z) (subst (λ (t : ℕ). Rising t s cs) w r) ∙
        sym
        (to_stage (c ∷ cs) k n z h b (rises (omega arith) r) ∙ one_more (c ∷ cs) s m z ∙ ap (map_stages (c ∷ cs) (suc s) m) (stage_with c cs z ∙ ap (λ (t : Bool). cond t (new_code c z) (through_stage (of_stage s cs) z)) e) ∙
        over c cs (suc s) m (new_code c z) (omega arith))
    go false e h acts on =
        let s = c.stage in
        let m = k + n - suc s in
        let b = rising-below cs r in
        let y = through_stage (of_stage s cs) z in
        ap (λ (p : Passing). p.code) (pass_on c cs k z h e) ∙ on ∙ to_stage cs k n z h b r ∙ one_more cs s m z ∙
        sym
        (to_stage (c ∷ cs) k n z h b (rises (omega arith) r) ∙ one_more (c ∷ cs) s m z ∙ ap (map_stages (c ∷ cs) (suc s) m) (stage_with c cs z ∙ ap (λ (t : Bool). cond t (new_code c z) y) e) ∙ over c cs (suc s) m y (omega arith))
