-- A loop that counts i from 0 up to n, by a walk: `At i` is what is had where the loop's test is reached with i.
--     more     a turn at i < n that goes on: it ends in whatever `At (suc i)` gives
--     ends     the turn at n leaves the loop
--     counts   so from `At 0` the loop runs to what `Left` says
-- Assumes `Logic`.
use mathlib.Core.Path.{◌≡◌, sym, ◌∙◌, subst}
use Prim.Native.Nat.{ℕ, zero, suc, ◌+◌, ◌<◌}
use native.Mathlib.Nat.{add-zero, zero-add, lt-suc_self}
use native.Mathlib.Omega.{arith}
use lib.WfN.{lt-wf_rel}
use seplogic.Ra.Ura.{Ura}
use mir.Syntax.{Body, loop}
use base.Logic.{SProp, ent, ex, guard, via, ex_i, ex_e, guard_i, guard_e}
use prog.Wp.{Out, Env, Wp, after_turn, Tables}
use types.Logic.{Logic}
use sound.Loop.{loop_rule}

module _ {M : Type 1} {𝓤 : Ura M} (𝓛 : Logic 𝓤) (𝓣 : Tables 𝓤 𝓛.H) (E : Env 𝓤 𝓛.H) (turn : Body) (Left : Out → SProp 𝓤) (n : ℕ) (At : ℕ → SProp 𝓤)
    (more : (i : ℕ) (X : SProp 𝓤) → i < n → ent 𝓤 (At (suc i)) X → ent 𝓤 (At i) (Wp 𝓤 𝓛.H 𝓣.C 𝓣.Λ E turn (after_turn 𝓤 𝓛.H X Left)))
    (ends : (X : SProp 𝓤) → ent 𝓤 (At n) (Wp 𝓤 𝓛.H 𝓣.C 𝓣.Λ E turn (after_turn 𝓤 𝓛.H X Left))) where
  -- the invariant, where t turns are left
  open 𝓛 use {H}

  abbrev Inv : ℕ → SProp 𝓤
  Inv t = ex 𝓤 (λ (i : ℕ). guard 𝓤 (i + t ≡ n) (At i))

  abbrev Below : ℕ → SProp 𝓤
  Below t = ex 𝓤 (λ (u : ℕ). guard 𝓤 (u < t) (Inv u))

  into : (t i : ℕ) → i + t ≡ n → ent 𝓤 (At i) (Inv t)
  into t i e = via 𝓤 (guard 𝓤 (i + t ≡ n) (At i)) (guard_i 𝓤 (i + t ≡ n) (At i) e) (ex_i 𝓤 (λ (j : ℕ). guard 𝓤 (j + t ≡ n) (At j)) i)

  below : (t i : ℕ) → suc i + t ≡ n → ent 𝓤 (At (suc i)) (Below (suc t))
  below t i e =
      via 𝓤 (Inv t) (into t (suc i) e)
      (via 𝓤 (guard 𝓤 (t < suc t) (Inv t)) (guard_i 𝓤 (t < suc t) (Inv t) (lt-suc_self t)) (ex_i 𝓤 (λ (u : ℕ). guard 𝓤 (u < suc t) (Inv u)) t))

  turn_at : (t i : ℕ) → i + t ≡ n → ent 𝓤 (At i) (Wp 𝓤 H 𝓣.C 𝓣.Λ E turn (after_turn 𝓤 H (Below t) Left))
  turn_at zero i e = subst (λ (k : ℕ). ent 𝓤 (At k) (Wp 𝓤 H 𝓣.C 𝓣.Λ E turn (after_turn 𝓤 H (Below zero) Left))) (sym e ∙ add-zero i) (ends (Below zero))
  turn_at (suc t) i e = more i (Below (suc t)) (omega (arith, e)) (below t i (omega (arith, e)))

  pub counts : ent 𝓤 (At 0) (Wp 𝓤 H 𝓣.C 𝓣.Λ E (loop turn) Left)
  counts =
      via 𝓤 (Inv n) (into n 0 (zero-add n))
      (loop_rule 𝓤 H 𝓛.laws 𝓣 ◌<◌ lt-wf_rel.wf E turn Left Inv
      (λ t. ex_e 𝓤 (λ (i : ℕ). guard 𝓤 (i + t ≡ n) (At i)) (λ i. guard_e 𝓤 (i + t ≡ n) (At i) (λ e. turn_at t i e))) n)
