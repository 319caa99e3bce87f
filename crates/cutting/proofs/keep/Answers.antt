-- `cutting::keep` meets its contract: what is copied stands behind the bytes that are kept, as far as there is room.
use mathlib.Core.Path.{◌≡◌, ◌∙◌, ap}
use mathlib.Core.List.{List, ◌++◌}
use Prim.Native.Nat.{ℕ, ◌+◌, ◌-◌}
use native.Mathlib.Omega.{arith}
use lib.ListN.{length, take}
use lib.Seq.{length-take-le}
use borrow.Rule.Slice.PartMut.{post_of}
use Rattle.cutting.proofs.StepLaws.{copied-behind, clipped-behind}
use Rattle.cutting.proofs.keep.Goals as goal

pub returns : goal.returns
returns c =
    let a = c.args in
    let l = a.line.now in
    let p = take a.held l in
    let s = a.part.now in
    let n = c.min-n.result in
    let m = c.min-n.ensures in
    let w = c.copy_from_slice.new.self in
    let few : length p ≡ a.held = length-take-le a.held l (omega arith) in
    let many : length w ≡ n = ap length c.copy_from_slice.ensures.after ∙ length-take-le n s (omega arith) in (
      omega arith,
      copied-behind p w (post_of a.held (a.held + n - a.held) l) a.held n few many
          ∙ ap (λ (t : List ℕ). p ++ t) (c.copy_from_slice.ensures.after ∙ ap (λ (k : ℕ). take k s) m)
          ∙ clipped-behind p s a.held a.end few (omega arith),
    )
