-- The forms of a control file's lines in document 01's words: 11 is given exactly where a line has none of them, 12 exactly for two ranges that do not fit.
-- Assumes nothing.
use mathlib.Core.Path.{◌≡◌, refl, sym, ap, ◌∙◌, subst}
use mathlib.Core.Bool.{Bool, true, false, cond, ◌&&◌}
use mathlib.Core.List.{List, [], ◌∷◌}
use mathlib.Core.Logic.{◌↔◌, ◌⊎◌, inl, inr, ⊎_elim}
use Prim.Native.Nat.{ℕ, ◌<◌}
use lib.Dec.{eqb, ltb}
use lib.ListN.{drop}
use lib.IntN.{nat_abs, ◌-ℤ◌}
use lib.Signed.{le_z}
use borrow.Author.Tests.{lt-ltb, ltb-true, eqb-true, eqb-false, ne_eqb}
use Rattle.std.specs.Prelude.{Option, Some, None}
use Rattle.ground.specs.Text.{byte, bytes, among}
use Rattle.ground.specs.Runs.{run, all}
use Rattle.ground.proofs.Tests.{and_left_false, and_right_false, clash}
use Rattle.subchars.specs.declared.Code.{Code}
use Rattle.lines.specs.Words.{is_blank, after_blanks}
use Rattle.lines.specs.Numbers.{digit_of, is_digit, are_digits, number, minus_length, radix_of, code_number}
use Rattle.commands.specs.declared.LineKind.{LineKind}
use Rattle.commands.specs.declared.LineKind.TheVariants.{Comment, Mapping, NewStage, Extended, NotCommand, BadRanges}
use Rattle.commands.specs.declared.characters.Written.{Written}
use Rattle.commands.specs.declared.fields.Form.{Form}
use Rattle.commands.specs.declared.fields.Form.TheVariants.{Characters, Numbers}
use Rattle.commands.specs.declared.fields.Codes.{Codes}
use Rattle.commands.specs.declared.fields.Codes.TheVariants.{One, Range}
use Rattle.commands.specs.declared.fields.Field.{Field}
use Rattle.commands.specs.Characters.{number_length, leading_number}
use Rattle.commands.specs.Fields.{field_of, number_only, field, good_ranges, mapping, ends_field, with_second, second_field, with_first, mapping_command}
use Rattle.commands.specs.Commands.{is_extended, translation, line_kind}
use Rattle.commands.proofs.KindLaws.{extended_letter}

-- 12: "range sizes differ, or first above last".
pub data RangesBad (first last firstNew lastNew : Code) : Type 0 where
  above : le_z first.0 last.0 ≡ false → RangesBad first last firstNew lastNew
  new_above : le_z firstNew.0 lastNew.0 ≡ false → RangesBad first last firstNew lastNew
  sizes_differ : (nat_abs (last.0 -ℤ first.0) ≡ nat_abs (lastNew.0 -ℤ firstNew.0) → ⊥) → RangesBad first last firstNew lastNew

module _ (a b c d : Code) where
  abbrev old : ℕ
  old = nat_abs (b.0 -ℤ a.0)

  abbrev new : ℕ
  new = nat_abs (d.0 -ℤ c.0)

  ranges_bad : RangesBad a b c d → good_ranges a b c d ≡ false
  unfolding good_ranges
  ranges_bad (above e) = and_left_false (le_z a.0 b.0 && le_z c.0 d.0) (eqb old new) (and_left_false (le_z a.0 b.0) (le_z c.0 d.0) e)
  ranges_bad (new_above e) = and_left_false (le_z a.0 b.0 && le_z c.0 d.0) (eqb old new) (and_right_false (le_z a.0 b.0) (le_z c.0 d.0) e)
  ranges_bad (sizes_differ n) = and_right_false (le_z a.0 b.0 && le_z c.0 d.0) (eqb old new) (ne_eqb old new n)

  only_ranges : good_ranges a b c d ≡ false → RangesBad a b c d
  unfolding good_ranges
  only_ranges e = go (le_z a.0 b.0) refl (le_z c.0 d.0) refl (eqb old new) refl e
    where
      go : (x : Bool) → le_z a.0 b.0 ≡ x → (y : Bool) → le_z c.0 d.0 ≡ y → (z : Bool) → eqb old new ≡ z → (x && y && z) ≡ false → RangesBad a b c d
      go false p y q z r w = above p
      go true p false q z r w = new_above q
      go true p true q z r w = sizes_differ (eqb-false old new (r ∙ w))

  pub ranges_exactly : good_ranges a b c d ≡ false ↔ RangesBad a b c d
  ranges_exactly = (only_ranges, ranges_bad)

-- Two fields at the start of a text: "at least one blank or tab stands .. between the two fields; after the second only the line end, a blank or a tab
-- may follow".
abbrev pub TwoFields : Form → List ℕ → Codes → Codes → Type 0
TwoFields form t one two =
    (n m : ℕ) × (field form t ≡ Some (field_of one n)) × (0 < run is_blank (drop n t)) × (field form (after_blanks (drop n t)) ≡ Some (field_of two m)) × (ends_field (drop m (after_blanks (drop n t))) ≡ true)

fields_give : (form : Form) (t : List ℕ) (one two : Codes) → TwoFields form t one two → mapping_command form t ≡ mapping one two
unfolding mapping_command second_field
fields_give form t one two w =
    let u = after_blanks (drop w.0 t) in
    ap (λ (x : Option Field). with_first form x t) w.2 ∙ ap (λ (b : Bool). cond b (second_field form one u) NotCommand) (lt-ltb 0 (run is_blank (drop w.0 t)) w.3) ∙
    ap (λ (x : Option Field). with_second one x u) w.4 ∙ ap (λ (b : Bool). cond b (mapping one two) NotCommand) w.5

data Fielded (form : Form) (t : List ℕ) : LineKind → Type 0 where
  fielded : (one two : Codes) → TwoFields form t one two → Fielded form t (mapping one two)
  unfielded : Fielded form t NotCommand

fields_of : (form : Form) (t : List ℕ) → Fielded form t (mapping_command form t)
unfolding mapping_command second_field
fields_of form t = from_first (field form t) refl
  where
    ended : (one two : Codes) (n m : ℕ) → field form t ≡ Some (field_of one n) → 0 < run is_blank (drop n t) → field form (after_blanks (drop n t)) ≡ Some (field_of two m) → (b : Bool) →
        ends_field (drop m (after_blanks (drop n t))) ≡ b → Fielded form t (cond b (mapping one two) NotCommand)
    ended one two n m p h q true e = fielded one two (n, m, p, h, q, e)
    ended one two n m p h q false e = unfielded

    from_second : (one : Codes) (n : ℕ) → field form t ≡ Some (field_of one n) → 0 < run is_blank (drop n t) → (r : Option Field) → field form (after_blanks (drop n t)) ≡ r →
        Fielded form t (with_second one r (after_blanks (drop n t)))
    from_second one n p h (Some f) q = ended one f.codes n f.length p h q (ends_field (drop f.length (after_blanks (drop n t)))) refl
    from_second one n p h None q = unfielded

    parted : (one : Codes) (n : ℕ) → field form t ≡ Some (field_of one n) → (b : Bool) → ltb 0 (run is_blank (drop n t)) ≡ b → Fielded form t (cond b (second_field form one (after_blanks (drop n t))) NotCommand)
    parted one n p true b = from_second one n p (ltb-true 0 (run is_blank (drop n t)) b) (field form (after_blanks (drop n t))) refl
    parted one n p false b = unfielded

    from_first : (r : Option Field) → field form t ≡ r → Fielded form t (with_first form r t)
    from_first (Some f) p = parted f.codes f.length p (ltb 0 (run is_blank (drop f.length t))) refl
    from_first None p = unfielded

-- The forms of a line, and the kind of each. "Commands start at the first byte."
pub data LineForm : List ℕ → LineKind → Type 0 where
  -- "Lines beginning #, empty lines and lines of only blanks and tabs are comments."
  empty : LineForm [] Comment
  only_blanks : {x : ℕ} {xs : List ℕ} → all is_blank (x ∷ xs) ≡ true → LineForm (x ∷ xs) Comment
  comment : {x : ℕ} {xs : List ℕ} → x ≡ byte "#" → LineForm (x ∷ xs) Comment
  -- 13: "a line whose first byte is h, j, b, u or g (never 11)"
  extended : {x : ℕ} {xs : List ℕ} → is_extended x ≡ true → LineForm (x ∷ xs) Extended
  -- "`f`, rest ignored"
  stage : {x : ℕ} {xs : List ℕ} → x ≡ byte "f" → LineForm (x ∷ xs) NewStage
  -- "`t` with two single characters": "at least one blank or tab stands after `t`"
  characters : {x : ℕ} {xs : List ℕ} {code new : Code} → x ≡ byte "t" → 0 < run is_blank xs → TwoFields Characters (after_blanks xs) (One code) (One new) → LineForm (x ∷ xs) (Mapping code code new)
  -- "or with two ranges"
  ranges : {x : ℕ} {xs : List ℕ} {first last firstNew lastNew : Code} → x ≡ byte "t" → 0 < run is_blank xs →
      TwoFields Characters (after_blanks xs) (Range first last) (Range firstNew lastNew) → good_ranges first last firstNew lastNew ≡ true → LineForm (x ∷ xs) (Mapping first last firstNew)
  -- 12: two ranges, and "range sizes differ, or first above last"
  bad_ranges_lem : {x : ℕ} {xs : List ℕ} {first last firstNew lastNew : Code} → x ≡ byte "t" → 0 < run is_blank xs →
      TwoFields Characters (after_blanks xs) (Range first last) (Range firstNew lastNew) → RangesBad first last firstNew lastNew → LineForm (x ∷ xs) BadRanges
  -- "two numbers"
  numbers : {t : List ℕ} {code new : Code} → TwoFields Numbers t (One code) (One new) → LineForm t (Mapping code code new)

-- A line that begins with a number begins with none of the bytes that tell the other forms.
module _ (x : ℕ) (xs : List ℕ) (one : Codes) (n : ℕ) (p : field Numbers (x ∷ xs) ≡ Some (field_of one n)) where
  not_first : (k : ℕ) → leading_number (k ∷ xs) ≡ None → eqb x k ≡ false
  unfolding field
  not_first k e = ne_eqb x k (λ q. let z : number_only None ≡ Some (field_of one n) = sym (ap number_only e) ∙ ap (λ (y : ℕ). number_only (leading_number (y ∷ xs))) (sym q) ∙ p in clash (cc))

  numbers_kind : line_kind (x ∷ xs) ≡ mapping_command Numbers (x ∷ xs)
  unfolding line_kind is_extended all is_blank leading_number number_length minus_length radix_of run is_digit digit_of code_number number are_digits
  numbers_kind =
      simp (not_first 32 refl, not_first 9 refl, not_first 35 refl, not_first 104 refl, not_first 106 refl, not_first 98 refl, not_first 117 refl, not_first 103 refl, not_first 102 refl, not_first 116 refl)

-- A line that begins with t.
translates : (x : ℕ) (xs : List ℕ) → x ≡ byte "t" → line_kind (x ∷ xs) ≡ translation xs
unfolding line_kind is_extended all is_blank
translates x xs e = ap (λ (y : ℕ). line_kind (y ∷ xs)) e

two_fields : (x : ℕ) (xs : List ℕ) (one two : Codes) → x ≡ byte "t" → 0 < run is_blank xs → TwoFields Characters (after_blanks xs) one two → line_kind (x ∷ xs) ≡ mapping one two
unfolding translation
two_fields x xs one two e h w =
    translates x xs e ∙ ap (λ (b : Bool). cond b (mapping_command Characters (after_blanks xs)) NotCommand) (lt-ltb 0 (run is_blank xs) h) ∙ fields_give Characters (after_blanks xs) one two w

comment_kind : (x : ℕ) (xs : List ℕ) → x ≡ byte "#" → line_kind (x ∷ xs) ≡ Comment
unfolding line_kind all is_blank
comment_kind x xs e = ap (λ (y : ℕ). line_kind (y ∷ xs)) e

stage_kind : (x : ℕ) (xs : List ℕ) → x ≡ byte "f" → line_kind (x ∷ xs) ≡ NewStage
unfolding line_kind is_extended all is_blank
stage_kind x xs e = ap (λ (y : ℕ). line_kind (y ∷ xs)) e

-- each form gives its kind
form_kind : (t : List ℕ) (kind : LineKind) → LineForm t kind → line_kind t ≡ kind
unfolding line_kind field leading_number number_length minus_length radix_of run code_number number are_digits
form_kind _ _ empty = refl
form_kind (x ∷ xs) _ (only_blanks e) = simp e
form_kind (x ∷ xs) _ (comment e) = comment_kind x xs e
form_kind (x ∷ xs) _ (extended e) = extended_letter x xs e
form_kind (x ∷ xs) _ (stage e) = stage_kind x xs e
form_kind (x ∷ xs) _ (characters {code = code} {new = new} e h w) = two_fields x xs (One code) (One new) e h w
form_kind (x ∷ xs) _ (ranges {first = a} {last = b} {firstNew = c} {lastNew = d} e h w g) =
    two_fields x xs (Range a b) (Range c d) e h w ∙ ap (λ (y : Bool). cond y (Mapping a b c) BadRanges) g
form_kind (x ∷ xs) _ (bad_ranges_lem {first = a} {last = b} {firstNew = c} {lastNew = d} e h w g) =
    two_fields x xs (Range a b) (Range c d) e h w ∙ ap (λ (y : Bool). cond y (Mapping a b c) BadRanges) ((ranges_exactly a b c d).1 g)
form_kind [] _ (numbers w) = let z = w.2 in clash (cc)
form_kind (x ∷ xs) _ (numbers {code = code} {new = new} w) = numbers_kind x xs (One code) w.0 w.2 ∙ fields_give Numbers (x ∷ xs) (One code) (One new) w

-- a line has a form, or it is no command
data Formed (t : List ℕ) : LineKind → Type 0 where
  formed : {kind : LineKind} → LineForm t kind → Formed t kind
  unformed : Formed t NotCommand

one_number : (t : List ℕ) (a b : Code) (n : ℕ) → field Numbers t ≡ Some (field_of (Range a b) n) → ⊥
unfolding field
one_number t a b n p = go (leading_number t) p
  where
    go : (r : Option Written) → number_only r ≡ Some (field_of (Range a b) n) → ⊥
    go (Some w) q =
        let e : field_of (One w.code) w.length ≡ field_of (Range a b) n = cc in
        let g : One w.code ≡ Range a b = ap (λ (x : Field). x.codes) e in
        clash (cc)
    go None q = clash (cc)

of_numbers : (t : List ℕ) (kind : LineKind) → Fielded Numbers t kind → Formed t kind
of_numbers t _ (fielded (One a) (One b) w) = formed (numbers w)
of_numbers t _ (fielded (One a) (Range c d) w) = unformed
of_numbers t _ (fielded (Range a b) (One c) w) = unformed
of_numbers t _ (fielded (Range a b) (Range c d) w) = absurd (one_number t a b w.0 w.2)
of_numbers t _ unfielded = unformed

of_characters : (x : ℕ) (xs : List ℕ) (kind : LineKind) → x ≡ byte "t" → 0 < run is_blank xs → Fielded Characters (after_blanks xs) kind → Formed (x ∷ xs) kind
of_characters x xs _ e h (fielded (One a) (One b) w) = formed (characters e h w)
of_characters x xs _ e h (fielded (One a) (Range c d) w) = unformed
of_characters x xs _ e h (fielded (Range a b) (One c) w) = unformed
of_characters x xs _ e h (fielded (Range a b) (Range c d) w) = go (good_ranges a b c d) refl
  where
    go : (g : Bool) → good_ranges a b c d ≡ g → Formed (x ∷ xs) (cond g (Mapping a b c) BadRanges)
    go true q = formed (ranges e h w q)
    go false q = formed (bad_ranges_lem e h w ((ranges_exactly a b c d).0 q))
of_characters x xs _ e h unfielded = unformed

kind_form : (t : List ℕ) → Formed t (line_kind t)
unfolding line_kind translation
kind_form [] = formed empty
kind_form (x ∷ xs) = go (all is_blank (x ∷ xs)) refl (eqb x (byte "#")) refl (is_extended x) refl (eqb x (byte "f")) refl (eqb x (byte "t")) refl
  where
    spelled : x ≡ byte "t" → (b : Bool) → ltb 0 (run is_blank xs) ≡ b → Formed (x ∷ xs) (cond b (mapping_command Characters (after_blanks xs)) NotCommand)
    spelled e true q = of_characters x xs (mapping_command Characters (after_blanks xs)) e (ltb-true 0 (run is_blank xs) q) (fields_of Characters (after_blanks xs))
    spelled e false q = unformed

    go : (u : Bool) → all is_blank (x ∷ xs) ≡ u → (v : Bool) → eqb x (byte "#") ≡ v → (w : Bool) → is_extended x ≡ w → (y : Bool) → eqb x (byte "f") ≡ y → (z : Bool) → eqb x (byte "t") ≡ z →
        Formed (x ∷ xs) (cond u Comment (cond v Comment (cond w Extended (cond y NewStage (cond z (translation xs) (mapping_command Numbers (x ∷ xs)))))))
    go true a v b w c y d z e = formed (only_blanks a)
    go false a true b w c y d z e = formed (comment (eqb-true x (byte "#") b))
    go false a false b true c y d z e = formed (extended c)
    go false a false b false c true d z e = formed (stage (eqb-true x (byte "f") d))
    go false a false b false c false d true e = spelled (eqb-true x (byte "t") e) (ltb 0 (run is_blank xs)) refl
    go false a false b false c false d false e = of_numbers (x ∷ xs) (mapping_command Numbers (x ∷ xs)) (fields_of Numbers (x ∷ xs))

-- no form is none
form_command : (t : List ℕ) (kind : LineKind) → LineForm t kind → kind ≡ NotCommand → ⊥
form_command _ _ empty e = clash (cc)
form_command _ _ (only_blanks a) e = clash (cc)
form_command _ _ (comment a) e = clash (cc)
form_command _ _ (extended a) e = clash (cc)
form_command _ _ (stage a) e = clash (cc)
form_command _ _ (characters a b c) e = clash (cc)
form_command _ _ (ranges a b c d) e = clash (cc)
form_command _ _ (bad_ranges_lem a b c d) e = clash (cc)
form_command _ _ (numbers a) e = clash (cc)

module _ (t : List ℕ) where
  only_form : (kind : LineKind) → (kind ≡ NotCommand → ⊥) → (k : LineKind) → k ≡ kind → Formed t k → LineForm t kind
  only_form kind n k e (formed f) = subst (LineForm t) e f
  only_form kind n _ e unformed = absurd (n (sym e))

  -- a line is of a kind exactly if it has a form of that kind
  pub kind_exactly : (kind : LineKind) → (kind ≡ NotCommand → ⊥) → line_kind t ≡ kind ↔ LineForm t kind
  kind_exactly kind n = (λ e. only_form kind n (line_kind t) e (kind_form t), form_kind t kind)

  -- 11, "not a command": exactly a line that has none of the forms
  pub no_command : line_kind t ≡ NotCommand ↔ ((kind : LineKind) → LineForm t kind → ⊥)
  no_command = (λ e kind f. form_command t kind f (sym (form_kind t kind f) ∙ e), λ n. go n (line_kind t) (kind_form t))
    where
      go : ((kind : LineKind) → LineForm t kind → ⊥) → (k : LineKind) → Formed t k → k ≡ NotCommand
      go n k (formed f) = absurd (n k f)
      go n _ unformed = refl

-- The forms in one sentence each.
abbrev pub IsComment : List ℕ → Type 0
IsComment t = (all is_blank t ≡ true) ⊎ ((xs : List ℕ) × (t ≡ byte "#" ∷ xs))

abbrev pub IsExtended : List ℕ → Type 0
IsExtended t = (x : ℕ) × (xs : List ℕ) × (t ≡ x ∷ xs) × (among (bytes "hjbug") x ≡ true)

abbrev pub IsStage : List ℕ → Type 0
IsStage t = (xs : List ℕ) × (t ≡ byte "f" ∷ xs)

abbrev pub Translates : List ℕ → Codes → Codes → Type 0
Translates t one two = (xs : List ℕ) × (t ≡ byte "t" ∷ xs) × (0 < run is_blank xs) × (TwoFields Characters (after_blanks xs) one two)

abbrev pub IsMapping : List ℕ → Code → Code → Code → Type 0
IsMapping t first last firstNew =
    ((last ≡ first) × (Translates t (One first) (One firstNew))) ⊎
    ((lastNew : Code) × (Translates t (Range first last) (Range firstNew lastNew)) × (good_ranges first last firstNew lastNew ≡ true)) ⊎
    ((last ≡ first) × (TwoFields Numbers t (One first) (One firstNew)))

abbrev pub IsBadRanges : List ℕ → Type 0
IsBadRanges t =
    (first last firstNew lastNew : Code) × (Translates t (Range first last) (Range firstNew lastNew)) ×
    ((le_z first.0 last.0 ≡ false) ⊎ (le_z firstNew.0 lastNew.0 ≡ false) ⊎ (nat_abs (last.0 -ℤ first.0) ≡ nat_abs (lastNew.0 -ℤ firstNew.0) → ⊥))

to_comment : (t : List ℕ) → LineForm t Comment → IsComment t
unfolding all
to_comment _ empty = inl refl
to_comment (x ∷ xs) (only_blanks e) = inl e
to_comment (x ∷ xs) (comment e) = inr (xs, ap (λ (y : ℕ). y ∷ xs) e)

from_comment : (t : List ℕ) → IsComment t → LineForm t Comment
from_comment [] w = empty
from_comment (x ∷ xs) w = ⊎_elim only_blanks (λ v. subst (λ (u : List ℕ). LineForm u Comment) (sym v.1) (comment {xs = v.0} refl)) w

to_extended : (t : List ℕ) → LineForm t Extended → IsExtended t
unfolding is_extended
to_extended [] x' = elim x' [ ]
to_extended (x ∷ xs) (extended e) = (x, xs, refl, e)

from_extended : (t : List ℕ) → IsExtended t → LineForm t Extended
unfolding is_extended
from_extended t w = subst (λ (u : List ℕ). LineForm u Extended) (sym w.2) (extended {xs = w.1} w.3)

to_stage : (t : List ℕ) → LineForm t NewStage → IsStage t
to_stage [] x' = elim x' [ ]
to_stage (x ∷ xs) (stage e) = (xs, ap (λ (y : ℕ). y ∷ xs) e)

from_stage : (t : List ℕ) → IsStage t → LineForm t NewStage
from_stage t w = subst (λ (u : List ℕ). LineForm u NewStage) (sym w.1) (stage {xs = w.0} refl)

to_mapping : (t : List ℕ) (a b c : Code) → LineForm t (Mapping a b c) → IsMapping t a b c
to_mapping (x ∷ xs) a _ c (characters p h w) = inl (refl, (xs, ap (λ (y : ℕ). y ∷ xs) p, h, w))
to_mapping (x ∷ xs) a b c (ranges {lastNew = d} p h w g) = inr (inl (d, (xs, ap (λ (y : ℕ). y ∷ xs) p, h, w), g))
to_mapping t a _ c (numbers w) = inr (inr (refl, w))

from_mapping : (t : List ℕ) (a b c : Code) → IsMapping t a b c → LineForm t (Mapping a b c)
from_mapping t a b c w =
    ⊎_elim (λ u. subst (λ (z : Code). LineForm t (Mapping a z c)) (sym u.0) (begins_t (Mapping a a c) u.1.0 u.1.1 (characters refl u.1.2 u.1.3)))
    (λ v. ⊎_elim (λ u. begins_t (Mapping a b c) u.1.0 u.1.1 (ranges refl u.1.2 u.1.3 u.2)) (λ u. subst (λ (z : Code). LineForm t (Mapping a z c)) (sym u.0) (numbers u.1)) v) w
  where
    begins_t : (kind : LineKind) (xs : List ℕ) → t ≡ byte "t" ∷ xs → LineForm (byte "t" ∷ xs) kind → LineForm t kind
    begins_t kind xs e f = subst (λ (u : List ℕ). LineForm u kind) (sym e) f

to_ranges : (t : List ℕ) → LineForm t BadRanges → IsBadRanges t
to_ranges [] x' = elim x' [ ]
to_ranges (x ∷ xs) (bad_ranges_lem {first = a} {last = b} {firstNew = c} {lastNew = d} p h w g) = (a, b, c, d, (xs, ap (λ (y : ℕ). y ∷ xs) p, h, w), go g)
  where
    go : RangesBad a b c d → (le_z a.0 b.0 ≡ false) ⊎ (le_z c.0 d.0 ≡ false) ⊎ (nat_abs (b.0 -ℤ a.0) ≡ nat_abs (d.0 -ℤ c.0) → ⊥)
    go (above e) = inl e
    go (new_above e) = inr (inl e)
    go (sizes_differ n) = inr (inr n)

from_ranges : (t : List ℕ) → IsBadRanges t → LineForm t BadRanges
from_ranges t w =
    subst (λ (u : List ℕ). LineForm u BadRanges) (sym w.4.1) (bad_ranges_lem refl w.4.2 w.4.3 (⊎_elim above (λ v. ⊎_elim new_above sizes_differ v) w.5))

module _ (t : List ℕ) where
  pub extended_exactly : line_kind t ≡ Extended ↔ IsExtended t
  extended_exactly = (λ e. to_extended t ((kind_exactly t Extended (λ x. clash (cc))).0 e), λ w. (kind_exactly t Extended (λ x. clash (cc))).1 (from_extended t w))

  pub stage_exactly : line_kind t ≡ NewStage ↔ IsStage t
  stage_exactly = (λ e. to_stage t ((kind_exactly t NewStage (λ x. clash (cc))).0 e), λ w. (kind_exactly t NewStage (λ x. clash (cc))).1 (from_stage t w))

  pub mapping_exactly : (a b c : Code) → line_kind t ≡ Mapping a b c ↔ IsMapping t a b c
  mapping_exactly a b c = (λ e. to_mapping t a b c ((kind_exactly t (Mapping a b c) (λ x. clash (cc))).0 e), λ w. (kind_exactly t (Mapping a b c) (λ x. clash (cc))).1 (from_mapping t a b c w))

  pub bad_ranges_exactly : line_kind t ≡ BadRanges ↔ IsBadRanges t
  bad_ranges_exactly = (λ e. to_ranges t ((kind_exactly t BadRanges (λ x. clash (cc))).0 e), λ w. (kind_exactly t BadRanges (λ x. clash (cc))).1 (from_ranges t w))

  -- 11: a line of none of these forms
  pub no_command_exactly : line_kind t ≡ NotCommand ↔ ((IsComment t → ⊥) × (IsExtended t → ⊥) × (IsStage t → ⊥) × ((a b c : Code) → IsMapping t a b c → ⊥) × (IsBadRanges t → ⊥))
  no_command_exactly = (
    λ e. let n = (no_command t).0 e in (λ w. n Comment (from_comment t w), λ w. n Extended (from_extended t w), λ w. n NewStage (from_stage t w), λ a b c w. n (Mapping a b c) (from_mapping t a b c w), λ w. n BadRanges (from_ranges t w)),
    λ n. (no_command t).1 (none n),
  )
    where
      none : (IsComment t → ⊥) × (IsExtended t → ⊥) × (IsStage t → ⊥) × ((a b c : Code) → IsMapping t a b c → ⊥) × (IsBadRanges t → ⊥) → (kind : LineKind) → LineForm t kind → ⊥
      none n Comment f = n.0 (to_comment t f)
      none n Extended f = n.1 (to_extended t f)
      none n NewStage f = n.2 (to_stage t f)
      none n (Mapping a b c) f = n.3 a b c (to_mapping t a b c f)
      none n BadRanges f = n.4 (to_ranges t f)
      none n NotCommand f = form_command t NotCommand f refl
