-- The code's table of eleven says what rules 4 and 8 say: a computed test over the whole table, and what follows from it.
-- Assumes nothing.
use mathlib.Core.Path.{◌≡◌, refl, sym, ◌∙◌, subst}
use mathlib.Core.Bool.{Bool, true, false, cond, not, ◌&&◌, ◌||◌}
use mathlib.Core.List.{List, [], ◌∷◌, ◌++◌}
use Prim.Native.Nat.{ℕ, suc, ◌<◌}
use native.Mathlib.Omega.{arith}
use lib.Dec.{eqb}
use lib.ListN.{length, get_or}
use borrow.Author.Tests.{ne_eqb, eqb-true}
use Rattle.ground.specs.Text.{byte, among}
use Rattle.ground.specs.Count.{every}
use Rattle.ground.proofs.Tests.{and_left, and_right, or_elim, clash}
use Rattle.ground.proofs.Counting.{every-at}
use Rattle.rules.specs.declared.Mark.{Mark}
use Rattle.rules.specs.Rules.{eleven, classes, class_from, class_of, opposite}
use Rattle.rules.specs.Marks.{Marked}

-- ------------------------------------------------------------------ the eleven of rule 2 are the members of the classes

among-append : (a b : List ℕ) (x : ℕ) → among (a ++ b) x ≡ (among a x || among b x)
among-append [] b x = refl
among-append (y ∷ a) b x = go (eqb x y) (among-append a b x)
  where
    go : (t : Bool) → among (a ++ b) x ≡ (among a x || among b x) → (t || among (a ++ b) x) ≡ (t || among a x || among b x)
    go true e = refl
    go false e = e

abbrev members : List (List ℕ) → List ℕ
members [] = []
members (c ∷ cs) = c ++ members cs

member_class : (k : ℕ) (cs : List (List ℕ)) (x : ℕ) → among (members cs) x ≡ not (eqb (class_from (suc k) cs x) 0)
member_class k [] x = refl
member_class k (c ∷ cs) x = among-append c (members cs) x ∙ go (among c x) (member_class (suc k) cs x)
  where
    go : (t : Bool) → among (members cs) x ≡ not (eqb (class_from (suc (suc k)) cs x) 0) → (t || among (members cs) x) ≡ not (eqb (cond t (suc k) (class_from (suc (suc k)) cs x)) 0)
    go true e = rw (ne_eqb (suc k) 0 (λ z. omega arith))
    go false e = e

pub among-class : (x : ℕ) → among eleven x ≡ not (eqb (class_of x) 0)
unfolding class_of
among-class x = member_class 0 classes x

-- ------------------------------------------------------------------ the table

abbrev mark : ℕ → ℕ → ℕ → Mark
mark x k p = record { sub_character = record { 0 = x }; class = k; partner = record { 0 = p } }

abbrev pub unmarked : Mark
unmarked = mark 0 0 0

-- the table, as the code has it
abbrev pub marks : List Mark
marks =
    mark (byte "|") 1 0 ∷
    mark (byte "/") 2 0 ∷
    mark (byte "\\") 2 0 ∷
    mark (byte "[") 3 (byte "]") ∷
    mark (byte "]") 3 (byte "[") ∷
    mark (byte "{") 4 (byte "}") ∷
    mark (byte "}") 4 (byte "{") ∷
    mark (byte "(") 5 (byte ")") ∷
    mark (byte ")") 5 (byte "(") ∷
    mark (byte "<") 6 0 ∷
    mark (byte ">") 6 0 ∷ []

abbrev pub entry : ℕ → Mark
entry i = get_or marks i unmarked

-- the i-th of the eleven
abbrev nth : ℕ → ℕ
nth i = get_or eleven i 0

abbrev agree : Bool → Bool → Bool
agree s t = cond s t (not t)

agreed : (s t : Bool) → agree s t ≡ true → s ≡ t
agreed true t e = sym e
agreed false true e = e
agreed false false e = refl

-- the i-th entry is that of the i-th; its class is that of rule 4; and of the eleven, its partner is the one that makes an opposite pair with it
abbrev pair_test : ℕ → ℕ → Bool
pair_test i j = agree (eqb (entry i).partner.0 (nth j)) (opposite (nth i) (nth j))

abbrev class_test : ℕ → Bool
class_test i = eqb (entry i).sub_character.0 (nth i) && eqb (entry i).class (class_of (nth i))

test : ℕ → Bool
test i = class_test i && every (pair_test i) 11

table_right : every test 11 ≡ true
unfolding every test class_of opposite
table_right = refl

-- a member of a list has a place in it
placed : (s : List ℕ) (y : ℕ) → among s y ≡ true → (i : ℕ) × (i < length s) × (get_or s i 0 ≡ y)
placed [] y e = clash cc
placed (z ∷ s) y e =
    or_elim (eqb y z) (among s y) e
    (λ t. (0, omega arith, sym (eqb-true y z t)))
    (λ t. let w = placed s y t in (suc w.0, omega (arith, w.1), w.2))

-- a member of a class is one of the eleven
classed : (y : ℕ) → 0 < class_of y → among eleven y ≡ true
classed y c = among-class y ∙ rw (ne_eqb (class_of y) 0 (λ z. omega arith))

-- an entry of the table is right of its sub-character
pub marked : (i z : ℕ) → i < 11 → nth i ≡ z → Marked z (entry i)
unfolding test
marked i z h e =
    let right = every-at test 11 table_right i h in
    let own = and_left (class_test i) _ right in
    subst (λ (s : ℕ). Marked s (entry i)) e
    (record {
      itself = eqb-true (entry i).sub_character.0 (nth i) (and_left (eqb (entry i).sub_character.0 (nth i)) _ own);
      class = eqb-true (entry i).class (class_of (nth i)) (and_right (eqb (entry i).sub_character.0 (nth i)) _ own);
      partner = λ c y d.
          let w = placed eleven y (classed y d) in
          let pairs = every-at (pair_test i) 11 (and_right (class_test i) _ right) w.0 w.1 in
          subst (λ (s : ℕ). eqb (entry i).partner.0 s ≡ opposite (nth i) s) w.2 (agreed _ _ pairs);
    })

-- what is none of them is in no class
pub not_marked : (z : ℕ) → (z ≡ byte "|" → ⊥) → (z ≡ byte "/" → ⊥) → (z ≡ byte "\\" → ⊥) → (z ≡ byte "[" → ⊥) → (z ≡ byte "]" → ⊥) → (z ≡ byte "{" → ⊥) → (z ≡ byte "}" → ⊥) → (z ≡ byte "(" → ⊥) → (z ≡ byte ")" → ⊥) → (z ≡ byte "<" → ⊥) → (z ≡ byte ">" → ⊥) → class_of z ≡ 0
unfolding class_of
not_marked z a b c d e f g h i j k =
    rw (ne_eqb z _ a, ne_eqb z _ b, ne_eqb z _ c, ne_eqb z _ d, ne_eqb z _ e, ne_eqb z _ f, ne_eqb z _ g, ne_eqb z _ h, ne_eqb z _ i, ne_eqb z _ j, ne_eqb z _ k)
