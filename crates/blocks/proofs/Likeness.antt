-- Blocks that are alike.
-- Assumes nothing.
use mathlib.Core.Path.{refl, ◌∙◌}
use Prim.Native.Nat.{ℕ}
use native.Mathlib.Omega.{arith}
use Rattle.blocks.specs.Block.{Block}
use Rattle.blocks.specs.Writing.{Like}

pub like-same : (h : ℕ) (a : Block) → Like h a a
like-same h a = record { width = refl; cells = λ r k u v. refl }

pub like_trans : (h : ℕ) (a b c : Block) → Like h a b → Like h b c → Like h a c
like_trans h a b c p q = record { width = p.width ∙ q.width; cells = λ r k u v. p.cells r k u v ∙ q.cells r k u (omega (arith, p.width)) }
