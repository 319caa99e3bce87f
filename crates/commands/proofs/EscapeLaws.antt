-- A table of the bytes behind a backslash, a number for each byte below 128, says for every byte what `escape` says: one computed test over the whole table.
-- Assumes nothing.
use mathlib.Core.Path.{◌≡◌, refl, sym, ap, ap₂, ◌∙◌}
use mathlib.Core.Bool.{Bool, true, false, cond, not, ◌&&◌, true≢false}
use mathlib.Core.List.{List, [], ◌∷◌}
use Prim.Native.Nat.{ℕ, ◌+◌, ◌*◌, ◌/◌, ◌%◌, ◌≤◌, ◌<◌}
use native.Mathlib.Omega.{arith}
use lib.Dec.{eqb, ltb}
use lib.IntN.{ℤ, pos, negsuc}
use lib.ListN.{get_or, replicate}
use borrow.Author.Tests.{eqb-true, ne_eqb, ltb-true}
use Rattle.ground.specs.Count.{every}
use Rattle.ground.specs.Runs.{all}
use Rattle.ground.proofs.Tests.{and_left, and_right}
use Rattle.ground.proofs.Counting.{every-at}
use Rattle.std.specs.Prelude.{Option, Some, None}
use Rattle.commands.specs.declared.characters.Written.{Written}
use Rattle.commands.specs.Characters.{written, code_beside, escape_bytes, escape_codes, escape}

-- What an entry says: a code that one byte writes, and 0 that there is none.
abbrev pub entry_says : ℕ → Option Written
entry_says z = cond (eqb z 0) None (Some (written (pos z) 1))

-- the test of an entry
abbrev is_number : ℤ → ℕ → Bool
is_number (pos k) z = eqb k z
is_number (negsuc k) z = false

abbrev says_so : ℕ → Option Written → Bool
says_so z None = eqb z 0
says_so z (Some w) = not (eqb z 0) && (is_number w.code.0 z && eqb w.length 1)

says_so_lem : (z : ℕ) (r : Option Written) → says_so z r ≡ true → entry_says z ≡ r
says_so_lem z None e = rw e
says_so_lem z (Some w) e = go (eqb z 0) refl w.code.0 refl e
  where
    go : (b : Bool) → eqb z 0 ≡ b → (k : ℤ) → w.code.0 ≡ k → (not b && (is_number k z && eqb w.length 1)) ≡ true → entry_says z ≡ Some w
    go true p k q e = absurd (true≢false (sym e))
    go false p (negsuc k) q e = absurd (true≢false (sym e))
    go false p (pos k) q e =
        let a : k ≡ z = eqb-true k z (and_left (eqb k z) _ e) in
        let b : w.length ≡ 1 = eqb-true w.length 1 (and_right (eqb k z) _ e) in
        let d : w.code.0 ≡ pos z = q ∙ ap pos a in
        let s : written (pos z) 1 ≡ w = sym (ap₂ (λ (y : ℤ) (n : ℕ). written y n) d b) in
        simp p (ap Some s)

abbrev none : List ℕ
none = replicate 16 0

-- the table, as the code has it: eight rows of sixteen
abbrev escape_table : List (List ℕ)
escape_table =
    none ∷
    none ∷
    (32 ∷ 0 ∷ 0 ∷ 0 ∷ 0 ∷ 0 ∷ 0 ∷ 0 ∷ 0 ∷ 0 ∷ 0 ∷ 0 ∷ 0 ∷ 0 ∷ 0 ∷ 0 ∷ []) ∷
    none ∷
    none ∷
    (0 ∷ 0 ∷ 0 ∷ 0 ∷ 0 ∷ 0 ∷ 0 ∷ 0 ∷ 0 ∷ 0 ∷ 0 ∷ 0 ∷ 92 ∷ 0 ∷ 0 ∷ 0 ∷ []) ∷
    (0 ∷ 7 ∷ 8 ∷ 0 ∷ 0 ∷ 27 ∷ 12 ∷ 0 ∷ 0 ∷ 0 ∷ 0 ∷ 0 ∷ 0 ∷ 0 ∷ 10 ∷ 0 ∷ []) ∷
    (0 ∷ 0 ∷ 13 ∷ 0 ∷ 9 ∷ 0 ∷ 11 ∷ 0 ∷ 0 ∷ 0 ∷ 0 ∷ 0 ∷ 0 ∷ 0 ∷ 0 ∷ 0 ∷ []) ∷ []

abbrev pub entry : ℕ → ℕ → ℕ
entry i j = get_or (get_or escape_table i []) j 0

row_test : ℕ → ℕ → Bool
row_test i j = says_so (entry i j) (escape (i * 16 + j))

test : ℕ → Bool
test i = every (row_test i) 16

table_right : every test 8 ≡ true
unfolding every test row_test escape
table_right = refl

-- a byte below 128, by the table
pub escape-below : (b z : ℕ) → b < 128 → entry (b / 16) (b % 16) ≡ z → entry_says z ≡ escape b
unfolding test row_test
escape-below b z h e =
    let i = b / 16 in
    let j = b % 16 in
    let here = every-at (row_test i) 16 (every-at test 8 table_right i (omega arith)) j (omega arith) in
    let place : i * 16 + j ≡ b = omega arith in
    ap entry_says (sym e) ∙ says_so_lem (entry i j) (escape (i * 16 + j)) here ∙ ap escape place

-- no byte from 128 on makes an escape
beside_none : (x : ℕ) (keys codes : List ℕ) → all (λ k. ltb k 128) keys ≡ true → 128 ≤ x → None ≡ code_beside x keys codes
unfolding all
beside_none x [] codes a h = refl
beside_none x (k ∷ keys) [] a h = refl
beside_none x (k ∷ keys) (z ∷ codes) a h =
    let low = ltb-true k 128 (and_left (ltb k 128) _ a) in
    beside_none x keys codes (and_right (ltb k 128) _ a) h ∙ sym (simp (ne_eqb x k (λ e. omega arith)))

pub escape-none : (b : ℕ) → 128 ≤ b → None ≡ escape b
unfolding escape all
escape-none b h = beside_none b escape_bytes escape_codes refl h
