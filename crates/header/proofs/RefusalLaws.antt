-- Each refusal of a header is given exactly when document 01's table says so: both directions, for every line.
-- Assumes nothing.
use mathlib.Core.Path.{◌≡◌, refl, sym, ap, ◌∙◌, subst}
use mathlib.Core.Bool.{Bool, true, false, cond}
use mathlib.Core.Logic.{◌↔◌, ◌⊎◌, inl, inr, ⊎_elim}
use mathlib.Core.List.{List, [], ◌∷◌}
use Prim.Native.Nat.{ℕ, ◌≤◌, ◌<◌}
use native.Mathlib.Omega.{arith}
use lib.IntN.{ℤ}
use lib.ListN.{length, drop}
use Rattle.std.specs.Prelude.{Option, Some, None, Result, Ok, Err}
use Rattle.ground.specs.Runs.{begins}
use Rattle.ground.specs.declared.refusals.Reason.{Reason}
use Rattle.ground.specs.Refusals.{number_of, refusal, no_signature, bad_hardblank, bad_parameters}
use Rattle.ground.specs.declared.refusals.Refusal.{Refusal}
use Rattle.ground.proofs.Tests.{clash}
use Rattle.subchars.specs.declared.SubCharacter.{SubCharacter}
use Rattle.lines.specs.Words.{is_blank}
use Rattle.header.specs.declared.Parameters.{Parameters}
use Rattle.header.specs.declared.Header.{Header}
use Rattle.subchars.specs.Hardblank.{legal_hardblank}
use Rattle.header.specs.Header.{parameter_numbers, parameters, legal_parameters, given, layout_of, header, refused, header_with, header_of, after_hardblank, after_signature, font_signature, read_header}
use Rattle.header.proofs.LineLaws.{no_signature_lem, signed}
use Rattle.header.proofs.ParameterLaws.{too_few, High, high}

-- 3: "hardblank absent, or blank, CR, LF, NUL", of what follows flf2a.
pub data BadHardblank : List ℕ → Type 0 where
  absent : BadHardblank []
  unfit : {h : ℕ} {rest : List ℕ} → legal_hardblank h ≡ false → BadHardblank (h ∷ rest)

-- 4: "no blank or tab after the hardblank, under five numbers, or a value out of range", of what follows the hardblank.
pub data BadParameters : List ℕ → Type 0 where
  no_more : BadParameters []
  no_blank : {x : ℕ} {rest : List ℕ} → is_blank x ≡ false → BadParameters (x ∷ rest)
  under_five : {x : ℕ} {rest : List ℕ} → is_blank x ≡ true → length (parameter_numbers rest) < 5 → BadParameters (x ∷ rest)
  out_of_range : {x : ℕ} {rest : List ℕ} (p : Parameters) → is_blank x ≡ true → parameters (parameter_numbers rest) ≡ Some p → legal_parameters p ≡ false → BadParameters (x ∷ rest)

-- The same in one sentence each.
pub hardblank_exactly : (u : List ℕ) → BadHardblank u ↔ ((u ≡ []) ⊎ ((h : ℕ) × (rest : List ℕ) × (u ≡ h ∷ rest) × (legal_hardblank h ≡ false)))
hardblank_exactly u = (to u, λ w. ⊎_elim (λ e. subst BadHardblank (sym e) absent) (λ x. subst BadHardblank (sym x.2) (unfit {rest = x.1} x.3)) w)
  where
    to : (u : List ℕ) → BadHardblank u → (u ≡ []) ⊎ ((h : ℕ) × (rest : List ℕ) × (u ≡ h ∷ rest) × (legal_hardblank h ≡ false))
    to _ absent = inl refl
    to (h ∷ rest) (unfit e) = inr (h, rest, refl, e)

-- what is wrong behind the byte after the hardblank
abbrev NoNumbers : ℕ → List ℕ → Type 0
NoNumbers x more = (is_blank x ≡ false) ⊎ (length (parameter_numbers more) < 5) ⊎ ((p : Parameters) × (parameters (parameter_numbers more) ≡ Some p) × (legal_parameters p ≡ false))

pub parameters_exactly : (rest : List ℕ) → BadParameters rest ↔ ((rest ≡ []) ⊎ ((x : ℕ) × (more : List ℕ) × (rest ≡ x ∷ more) × NoNumbers x more))
parameters_exactly rest = (to rest, λ w. ⊎_elim (λ e. subst BadParameters (sym e) no_more) (λ y. subst BadParameters (sym y.2) (by y.0 y.1 (is_blank y.0) refl y.3)) w)
  where
    to : (rest : List ℕ) → BadParameters rest → (rest ≡ []) ⊎ ((x : ℕ) × (more : List ℕ) × (rest ≡ x ∷ more) × NoNumbers x more)
    to _ no_more = inl refl
    to (x ∷ more) (no_blank e) = inr (x, more, refl, inl e)
    to (x ∷ more) (under_five e l) = inr (x, more, refl, inr (inl l))
    to (x ∷ more) (out_of_range p e q l) = inr (x, more, refl, inr (inr (p, q, l)))

    by : (x : ℕ) (more : List ℕ) (b : Bool) → is_blank x ≡ b → NoNumbers x more → BadParameters (x ∷ more)
    by x more false e w = no_blank e
    by x more true e w = ⊎_elim (λ q. clash (cc)) (λ v. ⊎_elim (λ l. under_five e l) (λ z. out_of_range z.0 e z.1 z.2) v) w

-- What holds of a header that is read: its layout is one that a header's numbers give.
pub record Numbered (x : Header) : Type 0 where
  pub rows : High x.height
  pub old : ℤ
  pub full : Option ℕ
  pub layout : x.layout ≡ layout_of old full

-- What an answer to what follows the hardblank is for.
data After (rest : List ℕ) (r : Result Header Refusal) : Type 0 where
  fine : (x : Header) → r ≡ Ok x → Numbered x → After rest r
  bad : BadParameters rest → r ≡ refused bad_parameters → After rest r

few-numbers : (zs : List ℤ) → parameters zs ≡ None → length zs < 5
unfolding parameters
few-numbers [] e = omega arith
few-numbers (a ∷ []) e = omega arith
few-numbers (a ∷ b ∷ []) e = omega arith
few-numbers (a ∷ b ∷ c ∷ []) e = omega arith
few-numbers (a ∷ b ∷ c ∷ d ∷ []) e = omega arith
few-numbers (a ∷ b ∷ c ∷ d ∷ f ∷ zs) e = clash (cc)

after_is : (h : SubCharacter) (rest : List ℕ) → After rest (after_hardblank h rest)
unfolding after_hardblank header_of header
after_is h [] = bad no_more refl
after_is h (x ∷ rest) = at-blank (is_blank x) refl
  where
    in_range_lem : (p : Parameters) → is_blank x ≡ true → parameters (parameter_numbers rest) ≡ Some p → (l : Bool) → legal_parameters p ≡ l → After (x ∷ rest) (cond l (Ok (header h p)) (refused bad_parameters))
    in_range_lem p e q true l = fine (header h p) refl (record { rows = high p l; old = p.old_layout; full = given p.full_layout; layout = refl })
    in_range_lem p e q false l = bad (out_of_range p e q l) refl

    named : is_blank x ≡ true → (s : Option Parameters) → parameters (parameter_numbers rest) ≡ s → After (x ∷ rest) (header_with h s)
    named e (Some p) q = in_range_lem p e q (legal_parameters p) refl
    named e None q = bad (under_five e (few-numbers (parameter_numbers rest) q)) refl

    at-blank : (b : Bool) → is_blank x ≡ b → After (x ∷ rest) (cond b (header_with h (parameters (parameter_numbers rest))) (refused bad_parameters))
    at-blank true e = named e (parameters (parameter_numbers rest)) refl
    at-blank false e = bad (no_blank e) refl

bad_parameters_lem : (h : SubCharacter) (rest : List ℕ) → BadParameters rest → after_hardblank h rest ≡ refused bad_parameters
unfolding after_hardblank header_of
bad_parameters_lem h [] no_more = refl
bad_parameters_lem h (x ∷ rest) (no_blank e) = simp e
bad_parameters_lem h (x ∷ rest) (under_five e l) = simp e (ap (header_with h) (sym (too_few (parameter_numbers rest) l)))
bad_parameters_lem h (x ∷ rest) (out_of_range p e q l) = simp e (ap (header_with h) q ∙ simp l)

-- What an answer to what follows flf2a is for.
data Signed (u : List ℕ) (r : Result Header Refusal) : Type 0 where
  unblank : BadHardblank u → r ≡ refused bad_hardblank → Signed u r
  blank : (h : ℕ) (rest : List ℕ) → u ≡ h ∷ rest → legal_hardblank h ≡ true → After rest r → Signed u r

signed_is : (u : List ℕ) → Signed u (after_signature u)
unfolding after_signature
signed_is [] = unblank absent refl
signed_is (h ∷ rest) = at-hardblank (legal_hardblank h) refl
  where
    at-hardblank : (b : Bool) → legal_hardblank h ≡ b → Signed (h ∷ rest) (cond b (after_hardblank (record { 0 = h }) rest) (refused bad_hardblank))
    at-hardblank true e = blank h rest refl e (after_is (record { 0 = h }) rest)
    at-hardblank false e = unblank (unfit e) refl

bad_hardblank_lem : (u : List ℕ) → BadHardblank u → after_signature u ≡ refused bad_hardblank
unfolding after_signature
bad_hardblank_lem [] absent = refl
bad_hardblank_lem (h ∷ rest) (unfit e) = simp e

good_hardblank : (u : List ℕ) (h : ℕ) (rest : List ℕ) → u ≡ h ∷ rest → legal_hardblank h ≡ true → BadParameters rest → after_signature u ≡ refused bad_parameters
unfolding after_signature
good_hardblank u h rest e b p = ap after_signature e ∙ simp b (bad_parameters_lem (record { 0 = h }) rest p)

-- Which refusal it is, by its number.
unnumbered : (u : List ℕ) (x : Result Header Refusal) (r : Refusal) → Signed u x → x ≡ Err r → r.reason ≡ no_signature → ⊥
unnumbered u x r (unblank b e) q n = let m : r.reason ≡ bad_hardblank = cc in clash (cc)
unnumbered u x r (blank h rest e b (fine y g t)) q n = clash (cc)
unnumbered u x r (blank h rest e b (bad p g)) q n = let m : r.reason ≡ bad_parameters = cc in clash (cc)

by-hardblank : (u : List ℕ) (x : Result Header Refusal) (r : Refusal) → Signed u x → x ≡ Err r → r.reason ≡ bad_hardblank → BadHardblank u
by-hardblank u x r (unblank b e) q n = b
by-hardblank u x r (blank h rest e b (fine y g t)) q n = clash (cc)
by-hardblank u x r (blank h rest e b (bad p g)) q n = let m : r.reason ≡ bad_parameters = cc in clash (cc)

-- the hardblank is good, and what follows it is not
abbrev pub Followed : List ℕ → Type 0
Followed u = (h : ℕ) × (rest : List ℕ) × (u ≡ h ∷ rest) × (legal_hardblank h ≡ true) × BadParameters rest

by-parameters : (u : List ℕ) (x : Result Header Refusal) (r : Refusal) → Signed u x → x ≡ Err r → r.reason ≡ bad_parameters → Followed u
by-parameters u x r (unblank b e) q n = let m : r.reason ≡ bad_hardblank = cc in clash (cc)
by-parameters u x r (blank h rest e b (fine y g t)) q n = clash (cc)
by-parameters u x r (blank h rest e b (bad p g)) q n = (h, rest, e, b, p)

module _ (t : List ℕ) where
  with_signature : begins font_signature t ≡ true → read_header t ≡ after_signature (drop (length font_signature) t)
  with_signature e = signed t e

  without_signature : begins font_signature t ≡ false → read_header t ≡ refused no_signature
  without_signature e = sym (no_signature_lem t e)

  behind : Signed (drop (length font_signature) t) (after_signature (drop (length font_signature) t))
  behind = signed_is (drop (length font_signature) t)

  -- 2: "first line does not begin with flf2a"
  pub refused_2 : read_header t ≡ refused no_signature ↔ begins font_signature t ≡ false
  refused_2 = (λ q. only (begins font_signature t) refl q, without_signature)
    where
      only : (b : Bool) → begins font_signature t ≡ b → read_header t ≡ refused no_signature → begins font_signature t ≡ false
      only true e q = absurd (unnumbered (drop (length font_signature) t) _ _ behind (sym (with_signature e) ∙ q) refl)
      only false e q = e

  -- a line that does not begin with flf2a has no other refusal
  unsigned : (r : Refusal) → begins font_signature t ≡ false → read_header t ≡ Err r → r.reason ≡ no_signature
  unsigned r e q = let p : refused no_signature ≡ Err r = sym (without_signature e) ∙ q in cc

  -- 3, where the line begins with flf2a
  pub refused_3 : read_header t ≡ refused bad_hardblank ↔ ((begins font_signature t ≡ true) × BadHardblank (drop (length font_signature) t))
  refused_3 = (λ q. only (begins font_signature t) refl q, λ w. with_signature w.0 ∙ bad_hardblank_lem (drop (length font_signature) t) w.1)
    where
      only : (b : Bool) → begins font_signature t ≡ b → read_header t ≡ refused bad_hardblank → (begins font_signature t ≡ true) × BadHardblank (drop (length font_signature) t)
      only true e q = (e, by-hardblank (drop (length font_signature) t) _ _ behind (sym (with_signature e) ∙ q) refl)
      only false e q = let m = unsigned _ e q in clash (cc)

  -- 4, where the line begins with flf2a and a hardblank
  pub refused_4 : read_header t ≡ refused bad_parameters ↔ ((begins font_signature t ≡ true) × Followed (drop (length font_signature) t))
  refused_4 = (
    λ q. only (begins font_signature t) refl q,
    λ w. with_signature w.0 ∙ good_hardblank (drop (length font_signature) t) w.1.0 w.1.1 w.1.2 w.1.3 w.1.4,
  )
    where
      only : (b : Bool) → begins font_signature t ≡ b → read_header t ≡ refused bad_parameters → (begins font_signature t ≡ true) × Followed (drop (length font_signature) t)
      only true e q = (e, by-parameters (drop (length font_signature) t) _ _ behind (sym (with_signature e) ∙ q) refl)
      only false e q = let m = unsigned _ e q in clash (cc)

  -- The refusals of a header line, in their order: each at place 0.
  pub data HeaderStops : Refusal → Type 0 where
    -- 2: "first line does not begin with flf2a"
    signature : begins font_signature t ≡ false → HeaderStops (refusal no_signature 0)
    -- 3: "hardblank absent, or blank, CR, LF, NUL"
    hardblank : begins font_signature t ≡ true → BadHardblank (drop (length font_signature) t) → HeaderStops (refusal bad_hardblank 0)
    -- 4: "no blank or tab after the hardblank, under five numbers, or a value out of range"
    numbers : begins font_signature t ≡ true → Followed (drop (length font_signature) t) → HeaderStops (refusal bad_parameters 0)

  signed_stops : begins font_signature t ≡ true → (x : Result Header Refusal) (r : Refusal) → Signed (drop (length font_signature) t) x → x ≡ Err r → HeaderStops r
  signed_stops s x r (unblank b e) q = let p : refusal bad_hardblank 0 ≡ r = cc in subst HeaderStops p (hardblank s b)
  signed_stops s x r (blank h rest e b (fine y g k)) q = clash (cc)
  signed_stops s x r (blank h rest e b (bad p g)) q = let d : refusal bad_parameters 0 ≡ r = cc in subst HeaderStops d (numbers s (h, rest, e, b, p))

  -- a header line is refused exactly so
  pub header_exactly : (r : Refusal) → read_header t ≡ Err r ↔ HeaderStops r
  header_exactly r = (λ q. only (begins font_signature t) refl q, is r)
    where
      only : (b : Bool) → begins font_signature t ≡ b → read_header t ≡ Err r → HeaderStops r
      only true e q = signed_stops e (after_signature (drop (length font_signature) t)) r behind (sym (with_signature e) ∙ q)
      only false e q =
          let k : refused no_signature ≡ Err r = sym (without_signature e) ∙ q in
          let p : refusal no_signature 0 ≡ r = cc in
          subst HeaderStops p (signature e)

      is : (r : Refusal) → HeaderStops r → read_header t ≡ Err r
      is _ (signature e) = refused_2.1 e
      is _ (hardblank e b) = refused_3.1 (e, b)
      is _ (numbers e p) = refused_4.1 (e, p)

  -- a header is refused with no other number, and always at place 0
  pub record HeaderRefusal (r : Refusal) : Type 0 where
    pub low : number_of no_signature ≤ number_of r.reason
    pub high : number_of r.reason ≤ number_of bad_parameters
    pub place : r.place ≡ 0

  known : (k : Reason) (r : Refusal) → number_of no_signature ≤ number_of k → number_of k ≤ number_of bad_parameters → refused k ≡ Err r → HeaderRefusal r
  known k r l h e =
      let n : r.reason ≡ k = cc in
      record { low = omega (arith, ap number_of n); high = omega (arith, ap number_of n); place = cc }

  signed-numbers : (u : List ℕ) (x : Result Header Refusal) (r : Refusal) → Signed u x → x ≡ Err r → HeaderRefusal r
  signed-numbers u x r (unblank b e) q = known bad_hardblank r (omega arith) (omega arith) (sym e ∙ q)
  signed-numbers u x r (blank h rest e b (fine y g t)) q = clash (cc)
  signed-numbers u x r (blank h rest e b (bad p g)) q = known bad_parameters r (omega arith) (omega arith) (sym g ∙ q)

  pub header-refusal : (r : Refusal) → read_header t ≡ Err r → HeaderRefusal r
  header-refusal r q = go (begins font_signature t) refl
    where
      go : (b : Bool) → begins font_signature t ≡ b → HeaderRefusal r
      go true e = signed-numbers (drop (length font_signature) t) (after_signature (drop (length font_signature) t)) r behind (sym (with_signature e) ∙ q)
      go false e = known no_signature r (omega arith) (omega arith) (sym (without_signature e) ∙ q)

  -- a header that is read has 1 to 32 rows
  signed_numbered : (u : List ℕ) (x : Result Header Refusal) (y : Header) → Signed u x → x ≡ Ok y → Numbered y
  signed_numbered u x y (unblank b e) q = clash (cc)
  signed_numbered u x y (blank h rest e b (fine z g t)) q = let p : z ≡ y = cc in subst Numbered p t
  signed_numbered u x y (blank h rest e b (bad p g)) q = clash (cc)

  pub header_numbered : (y : Header) → read_header t ≡ Ok y → Numbered y
  header_numbered y q = go (begins font_signature t) refl
    where
      go : (b : Bool) → begins font_signature t ≡ b → Numbered y
      go true e = signed_numbered (drop (length font_signature) t) (after_signature (drop (length font_signature) t)) y behind (sym (with_signature e) ∙ q)
      go false e = let r = sym (without_signature e) ∙ q in clash (cc)
