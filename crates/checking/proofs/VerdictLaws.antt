-- What each answer of a check is given for, spelled out, and exactly then: document 02, Q-8.
-- Assumes nothing.
use mathlib.Core.Path.{◌≡◌, refl, sym, ap, ap₂, subst, ◌∙◌}
use mathlib.Core.Bool.{Bool, true, false, cond}
use mathlib.Core.List.{List}
use mathlib.Core.Logic.{◌↔◌, ◌⊎◌, inl, inr}
use Prim.Native.Nat.{ℕ, ◌≤◌, ◌<◌}
use native.Mathlib.Omega.{arith}
use lib.Dec.{eqb, ltb}
use lib.ListN.{length, get_or}
use borrow.Author.Tests.{eqb-true, eqb-false, eq-eqb, ne_eqb, lt-ltb, le-ltb}
use Rattle.ground.specs.Limits.{max_line_width}
use Rattle.ground.specs.Refusals.{refusal, line_too_wide, wrong_length, number_of}
use Rattle.ground.specs.declared.refusals.Refusal.{Refusal}
use Rattle.ground.proofs.Tests.{below_or_not}
use Rattle.blocks.specs.Block.{Block}
use Rattle.blocks.specs.Writing.{Like}
use Rattle.showing.proofs.Showing.{shown-like}
use Rattle.showing.specs.Output.{shown}
use Rattle.checking.specs.declared.Verdict.{Verdict}
use Rattle.checking.specs.declared.Verdict.TheVariants.{Accepted, WrongOverlap, WrongByte}
use Rattle.std.specs.Prelude.{Option, Result, Ok, Err}
use Rattle.checking.specs.Difference.{first_difference}
use Rattle.checking.specs.Verdict.{after_first, named, verdict, line_checked}
use Rattle.checking.proofs.DifferenceLaws.{Parts, differ, first_ends, second-ends, PartsFirst, Outcome, same, parted, outcome, same_exactly, differs_exactly}

-- "The first wrong overlap": in a list of the right length overlap k is wrong, and all before it are right.
pub record FirstWrong (k : ℕ) (right overlaps : List ℕ) : Type 0 where
  pub size : length overlaps ≡ length right
  pub inside : k < length overlaps
  pub wrong : get_or right k 0 ≡ get_or overlaps k 0 → ⊥
  pub before : (i : ℕ) → i < k → get_or right i 0 ≡ get_or overlaps i 0

-- lists of one length are parted where both go on
wrong_first : (k : ℕ) (right overlaps : List ℕ) → length overlaps ≡ length right → ((i : ℕ) → i < k → get_or right i 0 ≡ get_or overlaps i 0) → Parts k right overlaps → FirstWrong k right overlaps
wrong_first k right overlaps e b (differ l m n) = record { size = e; inside = m; wrong = n; before = b }
wrong_first k right overlaps e b (first_ends l m) = absurd (omega arith)
wrong_first k right overlaps e b (second-ends l m) = absurd (omega arith)

parts_first : (k : ℕ) (right overlaps : List ℕ) → FirstWrong k right overlaps → PartsFirst k right overlaps
parts_first k right overlaps w = let l : k < length right = omega (arith, w.size, w.inside) in record { here = differ l w.inside w.wrong; before = w.before }

-- The right overlaps and the drawing; the list and the FIGure of the other program.
module _ (right drawing overlaps figure : List ℕ) where
  -- What each answer is given for.
  pub data Due : Result Verdict Refusal → Type 0 where
    accepted : overlaps ≡ right → figure ≡ drawing → Due (Ok Accepted)
    wrong_overlap : (k : ℕ) → FirstWrong k right overlaps → Due (Ok (WrongOverlap k))
    wrong_byte : (p : ℕ) → overlaps ≡ right → PartsFirst p drawing figure → Due (Ok (WrongByte p))
    wrong_length_lem : (length overlaps ≡ length right → ⊥) → Due (Err (refusal wrong_length 0))

  judged : {a b : Option ℕ} → length overlaps ≡ length right → Outcome right overlaps a → Outcome drawing figure b → Due (Ok (named a b))
  judged l (same p) (same q) = accepted (sym p) (sym q)
  judged l (same p) (parted k f) = wrong_byte k (sym p) f
  judged l (parted k f) o = wrong_overlap k (wrong_first k right overlaps l f.before f.here)

  due : Due (verdict right drawing overlaps figure)
  unfolding verdict
  due = go (eqb (length overlaps) (length right)) refl
    where
      go : (t : Bool) → eqb (length overlaps) (length right) ≡ t → Due (cond t (Ok (named (first_difference right overlaps) (first_difference drawing figure))) (Err (refusal wrong_length 0)))
      go true e = judged (eqb-true (length overlaps) (length right) e) (outcome right overlaps) (outcome drawing figure)
      go false e = wrong_length_lem (eqb-false (length overlaps) (length right) e)

  gives : {a : Result Verdict Refusal} → Due a → verdict right drawing overlaps figure ≡ a
  unfolding verdict
  gives (accepted p q) = rw (eq-eqb (length overlaps) (length right) (ap length p), (same_exactly right overlaps).1 (sym p), (same_exactly drawing figure).1 (sym q))
  gives (wrong_overlap k w) = rw (eq-eqb (length overlaps) (length right) w.size, (differs_exactly right overlaps k).1 (parts_first k right overlaps w))
  gives (wrong_byte p e f) = rw (eq-eqb (length overlaps) (length right) (ap length e), (same_exactly right overlaps).1 (sym e), (differs_exactly drawing figure p).1 f)
  gives (wrong_length_lem n) = rw (ne_eqb (length overlaps) (length right) n)

  -- an answer is given exactly if it is due
  pub given_exactly : (a : Result Verdict Refusal) → verdict right drawing overlaps figure ≡ a ↔ Due a
  given_exactly a = (λ e. subst Due e due, gives)

  -- "Accept exactly if each overlap is the one of demand 3 and the bytes are the drawing."
  pub accepted_exactly : verdict right drawing overlaps figure ≡ Ok Accepted ↔ ((overlaps ≡ right) × (figure ≡ drawing))
  accepted_exactly = (λ e. to (subst Due e due), λ w. gives (accepted w.0 w.1))
    where
      to : Due (Ok Accepted) → (overlaps ≡ right) × (figure ≡ drawing)
      to (accepted p q) = (p, q)

  -- "The check names the first wrong overlap": it is wrong, and all before it are right.
  pub overlap_exactly : (k : ℕ) → verdict right drawing overlaps figure ≡ Ok (WrongOverlap k) ↔ FirstWrong k right overlaps
  overlap_exactly k = (λ e. to (subst Due e due), λ w. gives (wrong_overlap k w))
    where
      to : Due (Ok (WrongOverlap k)) → FirstWrong k right overlaps
      to (wrong_overlap j w) = w

  -- "Else the first wrong byte": every overlap is right, the byte differs or is the shorter one's end, and all before it are equal.
  pub byte_exactly : (p : ℕ) → verdict right drawing overlaps figure ≡ Ok (WrongByte p) ↔ ((overlaps ≡ right) × PartsFirst p drawing figure)
  byte_exactly p = (λ e. to (subst Due e due), λ w. gives (wrong_byte p w.0 w.1))
    where
      to : Due (Ok (WrongByte p)) → (overlaps ≡ right) × PartsFirst p drawing figure
      to (wrong_byte q e f) = (e, f)

  -- "A list of the wrong length is 25", and nothing else is refused.
  pub refused_exactly : (r : Refusal) → verdict right drawing overlaps figure ≡ Err r ↔ ((r ≡ refusal wrong_length 0) × (length overlaps ≡ length right → ⊥))
  refused_exactly r = (λ e. to (subst Due e due), λ w. gives (wrong_length_lem w.1) ∙ ap Err (sym w.0))
    where
      to : {q : Refusal} → Due (Err q) → (q ≡ refusal wrong_length 0) × (length overlaps ≡ length right → ⊥)
      to (wrong_length_lem n) = (refl, n)

-- what is drawn, with its own overlaps, is accepted
pub own_accepted : (right drawing : List ℕ) → verdict right drawing right drawing ≡ Ok Accepted
own_accepted right drawing = gives right drawing right drawing (accepted refl refl)

-- "Refusals: the drawing's, first": 16 for a line over 1,000 columns, and the verdict of every other.
module _ (hardblank h : ℕ) (line : Block) (trace overlaps figure : List ℕ) where
  abbrev answer : Result Verdict Refusal
  answer = line_checked hardblank h line trace overlaps figure

  abbrev judgement : Result Verdict Refusal
  judgement = verdict (after_first trace) (shown hardblank h line) overlaps figure

  pub too_wide : max_line_width < line.width → answer ≡ Err (refusal line_too_wide 0)
  unfolding line_checked
  too_wide l = rw (lt-ltb max_line_width line.width l)

  pub not_too_wide : line.width ≤ max_line_width → answer ≡ judgement
  unfolding line_checked
  not_too_wide l = rw (le-ltb max_line_width line.width l)

  -- 16, exactly then
  pub line_16 : answer ≡ Err (refusal line_too_wide 0) ↔ max_line_width < line.width
  line_16 = (to (below_or_not max_line_width line.width), too_wide)
    where
      to : (max_line_width < line.width) ⊎ (line.width ≤ max_line_width) → answer ≡ Err (refusal line_too_wide 0) → max_line_width < line.width
      to (inl l) e = l
      to (inr l) e =
          let w = (refused_exactly (after_first trace) (shown hardblank h line) overlaps figure (refusal line_too_wide 0)).0 (sym (not_too_wide l) ∙ e) in
          absurd (omega (arith, ap (λ (r : Refusal). number_of r.reason) w.0))

  -- any other answer, exactly where the line is within 1,000 columns and the verdict is that
  pub line_other : (a : Result Verdict Refusal) → (a ≡ Err (refusal line_too_wide 0) → ⊥) → answer ≡ a ↔ ((line.width ≤ max_line_width) × (judgement ≡ a))
  line_other a n = (to (below_or_not max_line_width line.width), λ w. not_too_wide w.0 ∙ w.1)
    where
      to : (max_line_width < line.width) ⊎ (line.width ≤ max_line_width) → answer ≡ a → (line.width ≤ max_line_width) × (judgement ≡ a)
      to (inl l) e = absurd (n (sym e ∙ too_wide l))
      to (inr l) e = (l, sym (not_too_wide l) ∙ e)

-- what is drawn, with the overlaps of its trace, is accepted
pub drawn_accepted : (hardblank h : ℕ) (line : Block) (trace : List ℕ) → line.width ≤ max_line_width → line_checked hardblank h line trace (after_first trace) (shown hardblank h line) ≡ Ok Accepted
drawn_accepted hardblank h line trace l =
    not_too_wide hardblank h line trace (after_first trace) (shown hardblank h line) l ∙ own_accepted (after_first trace) (shown hardblank h line)

-- lines that are alike are checked alike
pub checked_like : (hardblank h : ℕ) (l z : Block) (trace overlaps figure : List ℕ) → Like h l z → line_checked hardblank h l trace overlaps figure ≡ line_checked hardblank h z trace overlaps figure
unfolding line_checked
checked_like hardblank h l z trace overlaps figure like =
    ap₂ (λ (w : ℕ) (bytes : List ℕ). cond (ltb max_line_width w) (Err (refusal line_too_wide 0)) (verdict (after_first trace) bytes overlaps figure)) like.width (shown-like h l z like hardblank)
