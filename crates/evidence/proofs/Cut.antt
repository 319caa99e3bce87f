-- A row of elements is cut in two, so that its first part can be lent, and put together again.
-- Assumes nothing.
use Prim.Native.Nat.{ℕ, zero, suc, ◌+◌}
use mathlib.Core.List.{List, [], ◌∷◌, ◌++◌}
use lib.ListN.{length, take, drop}
use seplogic.Ra.Ura.{Ura}
use base.Logic.{SProp, ent, sep, emp, via, mono_r, snd∗, emp∗, assoc∗, assoc'}
use base.Fml.{Share}
use types.Logic.{Logic, sem}
use denote.RattleType.{RattleType}
use denote.Memory.{mem, part_at}
use denote.Index.{row}

module _ {M : Type 1} {𝓤 : Ura M} (𝓛 : Logic 𝓤) (R : RattleType) (q : Share) (b : ℕ) where
  -- where element k lies
  abbrev pub behind : ℕ → ℕ → ℕ
  behind zero o = o
  behind (suc k) o = behind k (o + (mem R).size)

  abbrev Row : List R.Denot → ℕ → SProp 𝓤
  Row xs o = sem 𝓛 (row R q xs b o)

  pub cut : (k : ℕ) (xs : List R.Denot) (o : ℕ) → ent 𝓤 (Row xs o) (sep 𝓤 (Row (take k xs) o) (Row (drop k xs) (behind k o)))
  cut zero xs o = emp∗ 𝓤 (Row xs o)
  cut (suc k) [] o = emp∗ 𝓤 (emp 𝓤)
  cut (suc k) (x ∷ xs) o =
      let P = sem 𝓛 (part_at R q x b o) in
      let X = Row (take k xs) (o + (mem R).size) in
      let Y = Row (drop k xs) (behind k (o + (mem R).size)) in
      via 𝓤 (sep 𝓤 P (sep 𝓤 X Y)) (mono_r 𝓤 P (cut k xs (o + (mem R).size))) (assoc' 𝓤 P X Y)

  pub glue : (xs ys : List R.Denot) (o : ℕ) → ent 𝓤 (sep 𝓤 (Row xs o) (Row ys (behind (length xs) o))) (Row (xs ++ ys) o)
  glue [] ys o = snd∗ 𝓤 (emp 𝓤) (Row ys o)
  glue (x ∷ xs) ys o =
      let P = sem 𝓛 (part_at R q x b o) in
      let X = Row xs (o + (mem R).size) in
      let Y = Row ys (behind (length xs) (o + (mem R).size)) in
      via 𝓤 (sep 𝓤 P (sep 𝓤 X Y)) (assoc∗ 𝓤 P X Y) (mono_r 𝓤 P (glue xs ys (o + (mem R).size)))
