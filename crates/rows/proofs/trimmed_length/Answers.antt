use mathlib.Core.Path.{◌≡◌, sym, ◌∙◌, subst}
use mathlib.Core.Bool.{true}
use Prim.Native.Nat.{ℕ, ◌-◌}
use native.Mathlib.Omega.{arith}
use lib.ListN.{length, drop, get_or}
use Rattle.ground.specs.Runs.{all}
use Rattle.ground.proofs.Runs.{all_end}
use Rattle.lines.specs.Words.{is_blank}
use Rattle.rows.proofs.TrimLaws.{high-other, blank_less, trimmed_here, trimmed-all}
use Rattle.rows.proofs.trimmed_length.Goals as goal

pub returns-then-n-eq0 : goal.returns-then-n-eq0
returns-then-n-eq0 c =
    let t = c.args.t.now in
    trimmed-all t (all_end is_blank t 0 (omega (arith, c.if-n-eq0.true)))

pub returns-then-t-n-gt32 : goal.returns-then-t-n-gt32
returns-then-t-n-gt32 c =
    let t = c.args.t.now in
    trimmed_here t (length t) (omega arith) (omega arith) (high-other (get_or t (length t - 1) 0) c.if-t-n-gt32.true) (all_end is_blank t (length t) (omega arith))

pub loop-n-init : goal.loop-n-init
loop-n-init c =
    let t = c.args.t.now in
    (omega arith, all_end is_blank t (length t) (omega arith))

pub loop-n-preserved : goal.loop-n-preserved
loop-n-preserved c =
    let t = c.args.t.now in
    (omega arith, blank_less t c.loop-n.n c.loop-n.invariant.0 c.loop-n-test.true (sym c.is_blank.ensures ∙ c.if-is_blank.true) c.loop-n.invariant.1)

pub returns-else-is_blank : goal.returns-else-is_blank
returns-else-is_blank c =
    let t = c.args.t.now in
    trimmed_here t c.loop-n.n c.loop-n.invariant.0 c.loop-n-test.true (sym c.is_blank.ensures ∙ c.if-is_blank.false) c.loop-n.invariant.1

pub returns : goal.returns
returns c =
    let t = c.args.t.now in
    let e : c.loop-n.n ≡ 0 = omega arith in
    e ∙ trimmed-all t (subst (λ (k : ℕ). all is_blank (drop k t) ≡ true) e c.loop-n.invariant.1)
