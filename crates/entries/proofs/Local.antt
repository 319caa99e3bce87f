-- A local array `[T; n]` as a row of elements (`Denote/Index.antt`'s `row`), which are taken out and put back one by one.
--     lies_row     the local as it was written whole is a row
--     row_room     a row is room for the array: what the function's end asks to free the local
-- Assumes `Logic`.
use mathlib.Core.Path.{◌≡◌, refl}
use Prim.Native.Nat.{ℕ}
use mathlib.Core.List.{List, [], ◌∷◌}
use lib.ListN.{length}
use seplogic.Ra.Ura.{Ura}
use base.Fraction.{full_share}
use mir.Syntax.{ty_array}
use mir.Val.{Val}
use base.Logic.{ent}
use base.Fml.{fsep, fat, froom}
use types.Logic.{Logic, sem}
use types.Kit.{‵, ◌$◌, ◌∵◌, !, qed, move, use1, drop, rewrite, fsplit, fjoin, fpick, fpack, feq_i, done}
use types.Share.{arr_parts}
use denote.RattleType.{RattleType}
use denote.Memory.{cell_at, lone, part_at, shares, part_of}
use denote.Laws.{Is, Tells, Makes, shows}
use denote.Array.{Array, array_vals, Array-Tells, Array-Makes}
use denote.ArrayMemory.{Single, Array-apart, Array-whole}
use denote.Index.{row}
use denote.Steps.{peeks, only, owned}

module _ {M : Type 1} {𝓤 : Ura M} (𝓛 : Logic 𝓤) (R : RattleType) (n b o : ℕ) where
  open 𝓛 use {H}

  pub lies_row : Single R.mir → Makes 𝓛 R (Is R) → (xs : List R.Denot) (u : Val) → Is (Array R n) xs (u ∷ [])
      → ent 𝓤 (H.at full_share (ty_array (lone R.mir) n) b o u) (sem 𝓛 (row R full_share xs b o))
  unfolding part_of
  lies_row s mk xs u g =
      qed 𝓛 (‵ (fat full_share (ty_array (lone R.mir) n) b o u) ∷ []) ∵
      use1 𝓛 (‵ (cell_at full_share (Array R n).mir (u ∷ []) b o)) (𝓛.laws.at_raw full_share (ty_array (lone R.mir) n) b o u) $
      owned ! (Array R n) (Is (Array R n)) (Array-Makes 𝓛 R mk n) xs _ g $ move ! (1 ∷ 0 ∷ []) $ fjoin ! $
      fpack ! (List Val) (λ vs. fsep (cell_at full_share (Array R n).mir vs b o) ((Array R n).own_val xs vs)) (u ∷ []) $
      use1 𝓛 (‵ ((arr_parts (shares R) n).part full_share xs b o)) (Array-apart 𝓛 R full_share s n xs b o) $ fsplit ! $ drop ! $ done !

  pub row_room : (vals : R.Denot → List Val) → Tells R (Is R) vals → (xs : List R.Denot) → length xs ≡ n → ent 𝓤 (sem 𝓛 (row R full_share xs b o)) (H.room (ty_array (lone R.mir) n) b o)
  unfolding part_of
  row_room vals tells xs e =
      qed 𝓛 (‵ (row R full_share xs b o) ∷ []) ∵ feq_i ! ℕ (length xs) n e $ fjoin ! $ use1 𝓛 (‵ (part_at (Array R n) full_share xs b o)) (Array-whole 𝓛 R full_share n xs b o) $
      fpick ! (λ vs. fsplit ! $ move ! (1 ∷ []) $ peeks ! (Array R n) (Is (Array R n)) (shows 𝓛 (Array R n)) xs vs (λ g. drop ! $
      rewrite ! 0 (λ (us : List Val). ‵ (cell_at full_share (Array R n).mir us b o)) (Array-Tells R vals tells n xs vs g) refl $
      use1 𝓛 (‵ (fat full_share (ty_array (lone R.mir) n) b o (only (array_vals vals xs)))) (𝓛.laws.raw_at full_share (ty_array (lone R.mir) n) b o (only (array_vals vals xs))) $
      use1 𝓛 (‵ (froom (ty_array (lone R.mir) n) b o)) (𝓛.laws.at_room (ty_array (lone R.mir) n) b o (only (array_vals vals xs))) $ done !))
