use mathlib.Core.Path.{◌≡◌, refl, sym, ap, ◌∙◌}
use Prim.Native.Nat.{ℕ, ◌≤◌, ◌+◌, ◌*◌, ◌^◌, min}
use native.Mathlib.Omega.{arith}
use lib.ListN.{take, get_or}
use lib.Seq.{take_all}
use Rattle.lines.specs.Numbers.{digit_of, value}
use Rattle.lines.proofs.NumberLaws.{digit_small, value_step, limit_step, product_small}
use Rattle.lines.proofs.numbers.value_of.Goals as goal

again : (b v d m e : ℕ) → 1 ≤ b → m ≡ min v (2 ^ 32) → e ≡ d → min (m * b + e) (2 ^ 32) ≡ min (v * b + d) (2 ^ 32)
again b v d m e hb hm he = simp (hm, he) (limit_step b v d (2 ^ 32) hb)

pub loop-b-init : goal.loop-b-init
unfolding value
loop-b-init c = refl

pub overflow_mul-v : goal.overflow_mul-v
overflow_mul-v c = omega (arith, c.loop-b.invariant, product_small c.loop-b.v c.args.base (omega arith) (omega arith))

pub overflow_add-v : goal.overflow_add-v
overflow_add-v c = omega (arith, c.loop-b.invariant, product_small c.loop-b.v c.args.base (omega arith) (omega arith), c.digit.ensures, digit_small (get_or c.args.digits.now c.loop-b.b-index 0))

pub loop-b-preserved : goal.loop-b-preserved
loop-b-preserved c =
    let b = c.args.base in
    let w = c.args.digits.now in
    let i = c.loop-b.b-index in
    let d = c.digit in
    let s = again b (value b (take i w)) (digit_of (get_or w i 0)) c.loop-b.v d.result c.requires.0 c.loop-b.invariant d.ensures in
    c.min-v.ensures ∙ s ∙ sym (ap (λ (x : ℕ). min x (2 ^ 32)) (value_step b w i (omega arith)))

pub returns : goal.returns
returns c = c.loop-b.invariant ∙ ap (λ w. min (value c.args.base w) (2 ^ 32)) (take_all c.loop-b.b-index c.args.digits.now (omega arith))
