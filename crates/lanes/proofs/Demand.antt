-- Demand 3 as statements over lanes and positions, each proved here once, for any pair decision: an axis is an instance.
-- The blocks a and b have h lanes, of n positions in a and of m in b, and the last positions of a lie on the first of b: where they stand side
-- by side a is the left one and a lane is a row. The sentences are those of demand 3 or of document 01, "Join and drawing".
-- Assumes nothing.
use mathlib.Core.Path.{◌≡◌, refl, sym, ◌∙◌, ap}
use mathlib.Core.Bool.{Bool, true}
use mathlib.Core.Logic.{◌⊎◌}
use Prim.Native.Nat.{ℕ, ◌+◌, ◌-◌, ◌≤◌, ◌<◌, min}
use native.Mathlib.Omega.{arith}
use native.Mathlib.Decide.{dec_lt}
use Rattle.subchars.specs.Hardblank.{blank}
use Rattle.lanes.specs.Blocks.{Cells}
use Rattle.lanes.specs.Overlap.{facing, has_blank, free, furthest, fitting, smushing}
use Rattle.lanes.specs.Joined.{joined_cells}
use Rattle.lanes.proofs.Smushing as laws
use Rattle.lanes.proofs.Smushing.{Fails}
use Rattle.lanes.proofs.Cells.{cell_left, cell_pair, cell_right}

-- ---------------------------------------------------------------- the overlap

-- "An overlap, at most the narrower width, is free if every facing pair of sub-characters has a blank in it."
pub record Free (h n : ℕ) (a b : Cells) : Type 0 where
  pub free_if : (o : ℕ) → ((r i : ℕ) → r < h → i < o → has_blank (a r (n - o + i)) (b r i) ≡ true) → free h n a b o ≡ true
  pub free_only_if : (o : ℕ) → free h n a b o ≡ true → (r i : ℕ) → r < h → i < o → has_blank (a r (n - o + i)) (b r i) ≡ true

-- The overlap f is the largest, at most the smaller length, that together with all smaller ones faces only pairs that pass the test.
pub record Furthest (ok : ℕ → ℕ → Bool) (h n m : ℕ) (a b : Cells) (f : ℕ) : Type 0 where
  pub passes : (k : ℕ) → k ≤ f → facing ok h n a b k ≡ true
  pub largest : (o : ℕ) → o ≤ min n m → ((k : ℕ) → k ≤ o → facing ok h n a b k ≡ true) → (o ≡ f → ⊥) → o < f

-- The overlap f is fitting's.
pub record Fits (h n m : ℕ) (a b : Cells) (f : ℕ) : Type 0 where
  -- "Fitting takes an overlap that is free together with all smaller ones,
  pub fitting-free : (k : ℕ) → k ≤ f → free h n a b k ≡ true
  -- and every other such overlap is smaller."
  pub fitting-largest : (o : ℕ) → o ≤ min n m → ((k : ℕ) → k ≤ o → free h n a b k ≡ true) → (o ≡ f → ⊥) → o < f

-- The overlap s is smushing's, where `joins` tells the pairs that the mode can join, and f is fitting's.
pub record Smushes (joins : ℕ → ℕ → Bool) (h n m : ℕ) (a b : Cells) (f s : ℕ) : Type 0 where
  -- "Smushing either takes exactly one column more than fitting or stays at fitting's overlap."
  pub one_more_or_stays : (s ≡ f + 1) ⊎ (s ≡ f)
  -- "It stays exactly when the narrower width is used up there, or when with that column more some row faces a pair that the mode cannot
  -- join": it stays if so,
  pub stays_if : (f ≡ min n m) ⊎ Fails joins h n a b (f + 1) → s ≡ f
  -- and only if so
  pub stays_only_if : s ≡ f → (f ≡ min n m) ⊎ Fails joins h n a b (f + 1)

module _ (h n m : ℕ) (a b : Cells) where
  pub free-is : Free h n a b
  free-is = record { free_if = laws.facing_of has_blank h n a b; free_only_if = laws.facing-at has_blank h n a b }

  pub reaches : (ok : ℕ → ℕ → Bool) → Furthest ok h n m a b (furthest ok h n m a b)
  reaches ok =
      record {
        passes = laws.furthest_passes h n m a b ok;
        largest = λ o u f other.
            let l = laws.furthest-largest h n m a b ok o u f in elim (dec_lt o (furthest ok h n m a b)) [ yes p ↦ p | no q ↦ absurd (other (omega arith)) ];
      }

  -- by a test that a pair with a blank passes it is never below fitting's
  pub furthest-more : {ok : ℕ → ℕ → Bool} → ((l r : ℕ) → has_blank l r ≡ true → ok l r ≡ true) → fitting h n m a b ≤ furthest ok h n m a b
  unfolding fitting
  furthest-more {ok} f =
      let g = furthest has_blank h n m a b in
      laws.furthest-largest h n m a b ok g (laws.furthest_le h n m a b has_blank)
      λ k l. laws.facing_mono has_blank ok f h n a b k (laws.furthest_passes h n m a b has_blank k l)

  pub fits : Fits h n m a b (fitting h n m a b)
  unfolding fitting
  fits =
      let f = reaches has_blank in
      record { fitting-free = f.passes; fitting-largest = f.largest }

  pub smushes : (joins : ℕ → ℕ → Bool) → Smushes joins h n m a b (fitting h n m a b) (smushing joins h n m a b)
  smushes joins =
      record {
        one_more_or_stays = laws.one_more_or_stays h n m a b joins;
        stays_if = laws.stays_if h n m a b joins;
        stays_only_if = laws.stays_only_if h n m a b joins;
      }

  -- "If one controlled set has every rule of another, it never gives the same line and character a smaller overlap": a mode that
  -- joins every pair that another joins never does.
  pub more_joins_no_less : (p q : ℕ → ℕ → Bool) → ((l r : ℕ) → p l r ≡ true → q l r ≡ true) → smushing p h n m a b ≤ smushing q h n m a b
  more_joins_no_less p q more = laws.smushing_mono p q more h n m a b

-- ---------------------------------------------------------------- the result

-- The pair decision of an axis: which facing pairs join, what a pair becomes, and what is known of blanks.
pub record Pairing : Type 0 where
  pub joins : ℕ → ℕ → Bool
  pub becomes : ℕ → ℕ → ℕ
  -- "A pair with a blank joins in every mode."
  pub blank-joins : (l r : ℕ) → has_blank l r ≡ true → joins l r ≡ true
  -- "A blank yields to its partner."
  pub left_blank : (l r : ℕ) → l ≡ blank → becomes l r ≡ r
  pub right_blank : (l r : ℕ) → r ≡ blank → becomes l r ≡ l

-- The overlap o can be taken.
pub record Taken (joins : ℕ → ℕ → Bool) (h n m : ℕ) (a b : Cells) (o : ℕ) : Type 0 where
  -- "At most the narrower width."
  pub overlap_narrower : o ≤ min n m
  -- every facing pair joins, so that each has something to become
  pub pairs_join : (r i : ℕ) → r < h → i < o → joins (a r (n - o + i)) (b r i) ≡ true

-- The block c, with `len` positions to a lane, is what a and b become at overlap o.
pub record JoinedLanes (joins : ℕ → ℕ → Bool) (becomes : ℕ → ℕ → ℕ) (h n m : ℕ) (a b : Cells) (o len : ℕ) (c : Cells) : Type 0 where
  -- "The result width, the sum of both widths less the overlap";
  pub result_width : len ≡ n + m - o
  -- it is never below either width
  pub no_narrower : (n ≤ len) × (m ≤ len)
  -- "Unpaired sub-characters stay": those of a, and those of b
  pub left_stays : (r k : ℕ) → k < n - o → c r k ≡ a r k
  pub right_stays : (r k : ℕ) → n ≤ k → c r k ≡ b r (k - (n - o))
  -- "A blank yields to its partner."
  pub left_blank_yields : (r k : ℕ) → n - o ≤ k → k < n → a r k ≡ blank → c r k ≡ b r (k - (n - o))
  pub right_blank_yields : (r k : ℕ) → n - o ≤ k → k < n → b r (k - (n - o)) ≡ blank → c r k ≡ a r k
  -- "Every other pair becomes its joint": it has one, and that is the cell.
  pub pair_joined : (r k : ℕ) → r < h → n - o ≤ k → k < n → joins (a r k) (b r (k - (n - o))) ≡ true
  pub joint-stands : (r k : ℕ) → n - o ≤ k → k < n → c r k ≡ becomes (a r k) (b r (k - (n - o)))

module _ (p : Pairing) (h n m : ℕ) (a b : Cells) where
  pub taken_none : Taken p.joins h n m a b 0
  taken_none = record { overlap_narrower = omega arith; pairs_join = λ r i u v. absurd (omega arith) }

  -- the furthest overlap by a test whose pairs join
  pub taken_furthest : (ok : ℕ → ℕ → Bool) → ((l r : ℕ) → ok l r ≡ true → p.joins l r ≡ true) → Taken p.joins h n m a b (furthest ok h n m a b)
  taken_furthest ok f =
      let s = furthest ok h n m a b in
      record {
        overlap_narrower = laws.furthest_le h n m a b ok;
        pairs_join = λ r i u v. f _ _ (laws.facing-at ok h n a b s (laws.furthest_passes h n m a b ok s (omega arith)) r i u v);
      }

  pub taken_fitting : Taken p.joins h n m a b (fitting h n m a b)
  unfolding fitting
  taken_fitting = taken_furthest has_blank p.blank-joins

  pub taken_smushing : Taken p.joins h n m a b (smushing p.joins h n m a b)
  taken_smushing =
      record {
        overlap_narrower = laws.smushing_le h n m a b p.joins;
        pairs_join = laws.facing-at p.joins h n a b (smushing p.joins h n m a b) (laws.smushing-joins h n m a b p.joins p.blank-joins);
      }

  pub joined : (o : ℕ) → Taken p.joins h n m a b o → JoinedLanes p.joins p.becomes h n m a b o (n + m - o) (joined_cells p.becomes n o a b)
  joined o t =
      let l = t.overlap_narrower in
      let pair = cell_pair p.becomes n o a b in
      record {
        result_width = refl;
        no_narrower = (omega arith, omega arith);
        left_stays = cell_left p.becomes n o a b;
        right_stays = λ r k u. cell_right p.becomes n o a b r k (omega arith) u;
        left_blank_yields = λ r k u v e. pair r k u v ∙ p.left_blank _ _ e;
        right_blank_yields = λ r k u v e. pair r k u v ∙ p.right_blank _ _ e;
        pair_joined = λ r k w u v.
            let i = k - (n - o) in
            let e : n - o + i ≡ k = omega arith in
            ap (λ (x : ℕ). p.joins (a r x) (b r i)) (sym e) ∙ t.pairs_join r i w (omega arith);
        joint-stands = pair;
      }
