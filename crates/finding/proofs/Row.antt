-- What the proofs by hand share of an `Entry` as an element of a lent slice: its machine value, its relation's laws, and where element i lies.
-- Assumes nothing.
use mathlib.Core.Path.{◌≡◌, subst}
use Prim.Native.Nat.{ℕ, ◌+◌, ◌*◌, ◌<◌, ◌^◌}
use native.Mathlib.Omega.{arith}
use mathlib.Core.List.{List, [], ◌∷◌}
use lib.Dec.{T}
use seplogic.Ra.Ura.{Ura}
use mir.Val.{Val, WT, has_ty}
use types.Logic.{Logic}
use denote.RattleType.{RattleType}
use denote.Laws.{Is, Tells, Makes, Copy}
use denote.Slice.{Room}
use denote.Index.{place, place_is}
use denote.Struct.Laws as LL
use Rattle.chars.specs.declared.Entry.{Entry}
use Rattle.chars.specs.contracts.Entry as E
use Rattle.chars.proofs.Entry.TheLaws as E'

abbrev pub R : RattleType
R = E.the_row

abbrev pub val : Entry → Val
val = LL.val E.the_type E'.the_laws

abbrev pub vals : Entry → List Val
vals = LL.vals E.the_type E'.the_laws

pub tells : Tells R (Is R) vals
tells = LL.tells E.the_type E'.the_laws

-- a value that a call gave is e's own
pub is_own : (e : Entry) (u : Val) → Is R e (u ∷ []) → Is R e (vals e)
is_own e u g = subst (Is R e) (tells e (u ∷ []) g) g

-- where element i of 24 bytes lies
pub place_24 : (o i : ℕ) → place 24 o i ≡ i * 24 + o
place_24 o i = place_is 24 o i

-- the count fits a usize, and i * 24 does not wrap
pub step_fits : {i n : ℕ} → Room R n → i < n → i * 24 < 2 ^ 64
step_fits room within = omega (arith, room.1)

-- a place in a slice has a next one
pub next_fits : {i n : ℕ} → n < 2 ^ 64 → i < n → i + 1 < 2 ^ 64
next_fits room within = omega arith

module _ {M : Type 1} {𝓤 : Ura M} (𝓛 : Logic 𝓤) where
  pub makes : Makes 𝓛 R (Is R)
  makes = LL.makes E.the_type E'.the_plain 𝓛

  module _ where
    pub copies : Copy 𝓛 R
    copies = LL.copy E.the_type E'.the_copy 𝓛

    -- what is stored in a local or an element is of the type. At a value u that a call gave, and at e's own
    pub typed_at : (e : Entry) (u : Val) → Is R e (u ∷ []) → T (has_ty E'.mir u) × WT u
    typed_at e u g = ((LL.lawful E.the_type E'.the_laws 𝓛).typed e (u ∷ []) g).0

    pub typed : (e : Entry) → Is R e (vals e) → T (has_ty E'.mir (val e)) × WT (val e)
    typed e g = typed_at e (val e) g
