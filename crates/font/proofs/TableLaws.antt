-- A font is refused exactly when document 01's table says so: rows 1 to 8, each by itself, with its number and its place.
-- Assumes nothing.
use mathlib.Core.Path.{◌≡◌, refl, sym, ap, ◌∙◌, subst}
use mathlib.Core.Bool.{Bool, true, false, cond}
use mathlib.Core.List.{List, [], ◌∷◌}
use mathlib.Core.Logic.{◌↔◌, ◌⊎◌, inl, inr, ⊎_elim}
use Prim.Native.Nat.{ℕ, zero, suc, ◌-◌, ◌≤◌, ◌<◌}
use native.Mathlib.Omega.{arith}
use lib.Dec.{ltb, leb-suc-zero}
use lib.ListN.{length, get_or, drop}
use borrow.Author.Tests.{le-ltb, ltb-true, ltb-false}
use Rattle.std.specs.Prelude.{Option, Some, None, Ok, Err}
use Rattle.ground.specs.Runs.{run, all, begins}
use Rattle.ground.specs.Refusals.{refusal, number_of, font_too_long, no_signature, bad_hardblank, bad_parameters, missing_line, bad_row, bad_code_tag, too_many_characters}
use Rattle.ground.specs.declared.refusals.Reason.{Reason}
use Rattle.ground.specs.declared.refusals.Refusal.{Refusal}
use Rattle.ground.specs.Limits.{max_font_length, max_characters}
use Rattle.ground.proofs.Tests.{clash}
use Rattle.subchars.specs.declared.Code.{Code}
use Rattle.subchars.specs.Hardblank.{legal_hardblank}
use Rattle.lines.specs.Lines.{TextLine, lines_from, text_at}
use Rattle.lines.specs.Words.{is_blank, first_word}
use Rattle.lines.specs.Numbers.{code_number}
use Rattle.lines.proofs.LineLaws.{lines_next, lines_none}
use Rattle.header.specs.declared.Header.{Header}
use Rattle.header.specs.declared.Parameters.{Parameters}
use Rattle.header.specs.Header.{parameter_numbers, parameters, legal_parameters, font_signature, read_header}
use Rattle.header.proofs.RefusalLaws.{hardblank_exactly, parameters_exactly, HeaderStops, signature, hardblank, numbers, header_exactly}
use Rattle.rows.specs.Rows.{trimmed, row, legal_byte, row_of, has_width, rows_on, other_rows, character_rows, line_count}
use Rattle.rows.proofs.LineLaws.{bad_exactly, has_width_lem, width_exactly, line_exactly, row_exactly}
use Rattle.rows.proofs.RefusalLaws.{RowsStop, other-missing, other_bad, past_other, CharacterStops, first-missing, first_bad, past_first}
use Rattle.chars.specs.Codes.{no_code, tag_of, required_codes, required_count}
use Rattle.chars.specs.Chars.{stopped, Listing, ends, blank_lines, character_then, tagged}
use Rattle.chars.proofs.CodeLaws.{still_required, none_required}
use Rattle.chars.proofs.RefusalLaws as stops
use Rattle.chars.proofs.RefusalLaws.{code_exactly, CharactersStop, ending_by, others, tag_due, tag_named}
use Rattle.font.specs.Font.{refuses, format, on_lines, reading}
use Rattle.font.proofs.RefusalLaws.{LinesStop, no_line, in_header, in_comments, in_characters, FontStops, too_long, on_lines_lem, header-by, short_is, long-is, only_font}
use Rattle.font.proofs.Comes as come
use Rattle.font.proofs.Comes.{Comes, comments, character, first-row, more_rows, behind-header, past_comment, past_comments_lem, required, past_tag, past_row, past_rows, end_from, no_required, decides}

-- a font without a line has none that begins with flf2a
no_line_unsigned : (s : List ℕ) → lines_from s 0 ≡ [] → begins font_signature (text_at s 0) ≡ false
unfolding begins run
no_line_unsigned [] e = refl
no_line_unsigned (x ∷ s) e = let q = sym e ∙ lines_next (x ∷ s) 0 (omega arith) in clash (cc)

module _ (s : List ℕ) where
  abbrev first : List ℕ
  first = text_at s 0

  abbrev size : ℕ
  size = length s

  -- ---------------------------------------------------------------- what each row says of a place

  abbrev TooLong : ℕ → Type 0
  TooLong p = (p ≡ 0) × (max_font_length < length s)

  abbrev NoSignature : ℕ → Type 0
  NoSignature p = (p ≡ 0) × (length s ≤ max_font_length) × (begins font_signature first ≡ false)

  abbrev BadHardblank : ℕ → Type 0
  BadHardblank p =
      (p ≡ 0) × (length s ≤ max_font_length) × (begins font_signature first ≡ true) ×
      ((drop (length font_signature) first ≡ []) ⊎ ((h : ℕ) × (rest : List ℕ) × (drop (length font_signature) first ≡ h ∷ rest) × (legal_hardblank h ≡ false)))

  abbrev BadParameters : ℕ → Type 0
  BadParameters p =
      (p ≡ 0) × (length s ≤ max_font_length) × (begins font_signature first ≡ true) ×
      (h : ℕ) × (rest : List ℕ) × (drop (length font_signature) first ≡ h ∷ rest) × (legal_hardblank h ≡ true) ×
      ((rest ≡ []) ⊎ ((x : ℕ) × (more : List ℕ) × (rest ≡ x ∷ more) ×
      ((is_blank x ≡ false) ⊎ (length (parameter_numbers more) < 5) ⊎ ((v : Parameters) × (parameters (parameter_numbers more) ≡ Some v) × (legal_parameters v ≡ false)))))

  abbrev MissingLine : ℕ → Type 0
  MissingLine p =
      (p ≡ length s) × (h : Header) ×
      (((k : ℕ) × Comes s h (comments (suc k)) []) ⊎ ((n : ℕ) × Comes s h (first-row n) []) ⊎ ((n k w : ℕ) × Comes s h (more_rows n (suc k) w) []))

  abbrev BadRowAt : ℕ → Type 0
  BadRowAt p =
      (h : Header) × (l : TextLine) × (ls : List TextLine) × (p ≡ l.start) ×
      (((n : ℕ) × Comes s h (first-row n) (l ∷ ls) × ((length (trimmed l.text) ≡ 0) ⊎ (h.max_length < length (trimmed l.text)) ⊎ (all (legal_byte h.hardblank.0) (row l.text) ≡ false))) ⊎
      ((n k w : ℕ) × Comes s h (more_rows n (suc k) w) (l ∷ ls) ×
      ((length (trimmed l.text) ≡ 0) ⊎ (h.max_length < length (trimmed l.text)) ⊎ (length (row l.text) ≡ w → ⊥) ⊎ (all (legal_byte h.hardblank.0) (row l.text) ≡ false))))

  abbrev BadTagAt : ℕ → Type 0
  BadTagAt p =
      (h : Header) × (n : ℕ) × (l : TextLine) × (ls : List TextLine) × (p ≡ l.start) × Comes s h (character n) (l ∷ ls) × (required_count ≤ n) × (blank_lines (l ∷ ls) ≡ false) ×
      ((code_number (first_word l.text) ≡ None) ⊎ (code_number (first_word l.text) ≡ Some no_code))

  abbrev TooMany : ℕ → Type 0
  TooMany p =
      (h : Header) × (n : ℕ) × (l : TextLine) × (ls : List TextLine) × (p ≡ l.start) × Comes s h (character n) (l ∷ ls) × (max_characters ≤ n) × (blank_lines (l ∷ ls) ≡ false) ×
      (c : Code) × (tag_of l.text ≡ Some c)

  -- the row of a number, and what it says of a place
  abbrev Nothing : ℕ → Type 0
  Nothing p = ⊥

  abbrev Row : Refusal → Type 0
  Row r = get_or (Nothing ∷ TooLong ∷ NoSignature ∷ BadHardblank ∷ BadParameters ∷ MissingLine ∷ BadRowAt ∷ BadTagAt ∷ TooMany ∷ []) (number_of r.reason) Nothing r.place

  -- ---------------------------------------------------------------- a refusal is of its row

  rows-met : (h : Header) (n k w : ℕ) (ls : List TextLine) (r : Refusal) → Comes s h (more_rows n k w) ls → RowsStop (format h) size w k ls r → Row r
  rows-met h n zero w ls r c x = elim x [ ]
  rows-met h n (suc k) w [] _ c other-missing = (refl, h, inr (inr (n, k, w, c)))
  rows-met h n (suc k) w (l ∷ ls) _ c (other_bad b) = (h, l, ls, refl, inr (n, k, w, c, (row_exactly (format h) w l.text).0 b))
  rows-met h n (suc k) w (l ∷ ls) r c (past_other e t) = rows-met h n k w ls r (past_row c e) t

  character_met : (h : Header) (n : ℕ) (ls : List TextLine) (r : Refusal) → Comes s h (first-row n) ls → CharacterStops (format h) size ls r → Row r
  character_met h n [] _ c first-missing = (refl, h, inr (inl (n, c)))
  character_met h n (l ∷ ls) _ c (first_bad b) = (h, l, ls, refl, inl (n, c, (line_exactly (format h) l.text).0 b))
  character_met h n (l ∷ ls) r c (past_first w e t) = rows-met h n (h.height - 1) w ls r (come.past_first c w e) t

  -- a whole character is passed
  rows_passed : (h : Header) (n k w v : ℕ) (ls : List TextLine) → Comes s h (more_rows n k w) ls → rows_on (format h) size k w ls ≡ Ok v → Comes s h (character (suc n)) (drop k ls)
  unfolding rows_on
  rows_passed h n zero w v ls c e = past_rows c
  rows_passed h n (suc k) w v [] c e = clash (cc)
  rows_passed h n (suc k) w v (l ∷ ls) c e = go (has_width (row_of (format h) l.text) w) refl e (rows_passed h n k w v ls)
    where
      go : (b : Bool) → has_width (row_of (format h) l.text) w ≡ b → cond b (rows_on (format h) size k w ls) (Err (refusal bad_row l.start)) ≡ Ok v →
          (Comes s h (more_rows n k w) ls → rows_on (format h) size k w ls ≡ Ok v → Comes s h (character (suc n)) (drop k ls)) → Comes s h (character (suc n)) (drop k ls)
      go true q x more = more (past_row c (has_width_lem (row_of (format h) l.text) w q)) x
      go false q x more = clash (cc)

  character_passed : (h : Header) (n v : ℕ) (ls : List TextLine) → Comes s h (first-row n) ls → character_rows (format h) size ls ≡ Ok v → Comes s h (character (suc n)) (drop (line_count (format h)) ls)
  unfolding character_rows
  character_passed h n v [] c e = clash (cc)
  character_passed h n v (l ∷ ls) c e = go (row_of (format h) l.text) refl e
    where
      go : (x : Option ℕ) → row_of (format h) l.text ≡ x → other_rows (format h) size l.start x ls ≡ Ok v → Comes s h (character (suc n)) (drop (h.height - 1) ls)
      go (Some w) p q = rows_passed h n (h.height - 1) w v ls (come.past_first c w p) q
      go None p q = clash (cc)

  -- whether a required character is due
  still : (n c : ℕ) (cs : List ℕ) → c ∷ cs ≡ drop n required_codes → (n < required_count) × (cs ≡ drop (suc n) required_codes)
  still n c cs e = go (ltb n required_count) refl
    where
      go : (b : Bool) → ltb n required_count ≡ b → (n < required_count) × (cs ≡ drop (suc n) required_codes)
      go true b = let q = e ∙ still_required n (ltb-true n required_count b) in (ltb-true n required_count b, cc)
      go false b = let q = e ∙ none_required n (ltb-false n required_count b) in clash (cc)

  none : (n : ℕ) → [] ≡ drop n required_codes → required_count ≤ n
  none n e = go (ltb n required_count) refl
    where
      go : (b : Bool) → ltb n required_count ≡ b → required_count ≤ n
      go true b = let q = e ∙ still_required n (ltb-true n required_count b) in clash (cc)
      go false b = ltb-false n required_count b

  characters-met : (h : Header) (cs : List ℕ) (n : ℕ) (ls : List TextLine) (r : Refusal) → cs ≡ drop n required_codes → Comes s h (character n) ls → CharactersStop (format h) size cs n ls r → Row r
  characters-met h (x ∷ cs) n ls r e c (stops.in_required t) = character_met h n ls r (required c (still n x cs e).0) t
  characters-met h (x ∷ cs) n ls r e c (stops.past_required w q t) =
      let k = still n x cs e in
      characters-met h cs (suc n) (drop (line_count (format h)) ls) r k.1 (character_passed h n w ls (required c k.0) q) t
  characters-met h [] n [] r e c x = elim x [ ]
  characters-met h [] n (l ∷ ls) _ e c (stops.bad_tag m b) = (h, n, l, ls, refl, c, none n e, m, (code_exactly l.text).0 b)
  characters-met h [] n (l ∷ ls) _ e c (stops.too_many t u) = (h, n, l, ls, refl, c, u, t.more, t.code, t.names)
  characters-met h [] n (l ∷ ls) r e c (stops.in_tagged t u x) = character_met h n ls r (past_tag c (none n e) u t.more t.code t.names) x
  characters-met h [] n (l ∷ ls) r e c (stops.past_tagged w t u q x) =
      characters-met h [] (suc n) (drop (line_count (format h)) ls) r (sym (none_required (suc n) (omega (arith, none n e)))) (character_passed h n w ls (past_tag c (none n e) u t.more t.code t.names) q) x

  comments_passed : (h : Header) (k : ℕ) (ls : List TextLine) → Comes s h (comments k) ls → k ≤ length ls → Comes s h (character 0) (drop k ls)
  comments_passed h zero ls c u = past_comments_lem c
  comments_passed h (suc k) [] c u = absurd (omega arith)
  comments_passed h (suc k) (l ∷ ls) c u = comments_passed h k ls (past_comment c) (omega arith)

  comments_missing : (h : Header) (k : ℕ) (ls : List TextLine) → Comes s h (comments k) ls → length ls < k → (k : ℕ) × Comes s h (comments (suc k)) []
  comments_missing h zero ls c u = absurd (omega arith)
  comments_missing h (suc k) [] c u = (k, c)
  comments_missing h (suc k) (l ∷ ls) c u = comments_missing h k ls (past_comment c) (omega arith)

  -- the first line
  first-is : (l : TextLine) (ls : List TextLine) → lines_from s 0 ≡ l ∷ ls → l.text ≡ first
  first-is l ls e = go (ltb 0 size) refl
    where
      go : (b : Bool) → ltb 0 size ≡ b → l.text ≡ first
      go true b = let q = sym e ∙ lines_next s 0 (ltb-true 0 size b) in let d : l ≡ record { start = 0; text = first } = cc in ap (λ (x : TextLine). x.text) d
      go false b = let q = sym e ∙ lines_none s 0 (ltb-false 0 size b) in clash (cc)

  header-met : size ≤ max_font_length → (r : Refusal) → HeaderStops first r → Row r
  header-met u _ (signature e) = (refl, u, e)
  header-met u _ (hardblank e b) = (refl, u, e, (hardblank_exactly (drop (length font_signature) first)).0 b)
  header-met u _ (numbers e w) = (refl, u, e, w.0, w.1, w.2, w.3, (parameters_exactly w.1).0 w.4)

  lines_met : size ≤ max_font_length → (ls : List TextLine) → lines_from s 0 ≡ ls → (r : Refusal) → LinesStop size ls r → Row r
  lines_met u [] e _ no_line = (refl, u, no_line_unsigned s e)
  lines_met u (l ∷ ls) e r (in_header t) = header-met u r (subst (λ (x : List ℕ). HeaderStops x r) (first-is l ls e) t)
  lines_met u (l ∷ ls) e _ (in_comments h g k) = (refl, h, inl (comments_missing h h.comment_lines ls (behind-header u e g) k))
  lines_met u (l ∷ ls) e r (in_characters h g k t) = characters-met h required_codes 0 (drop h.comment_lines ls) r refl (comments_passed h h.comment_lines ls (behind-header u e g) k) t

  refusal-met : (r : Refusal) → FontStops s r → Row r
  refusal-met _ (too_long u) = (refl, u)
  refusal-met r (on_lines_lem u t) = lines_met u (lines_from s 0) refl r t

  met : (r : Refusal) → reading s ≡ refuses r → Row r
  met r e = refusal-met r (only_font s r e)

  -- ---------------------------------------------------------------- what a row says is refused so

  abbrev Refuses : Reason → ℕ → Type 0
  Refuses k p = reading s ≡ refuses (refusal k p)

  at_place : (k : Reason) (p q : ℕ) → p ≡ q → Refuses k q → Refuses k p
  at_place k p q e r = subst (Refuses k) (sym e) r

  header-refuses : size ≤ max_font_length → (r : Refusal) → read_header first ≡ Err r → reading s ≡ refuses r
  header-refuses u r e = short_is s u ∙ go (lines_from s 0) refl
    where
      go : (ls : List TextLine) → lines_from s 0 ≡ ls → on_lines size ls ≡ refuses r
      go [] q =
          let d : Err (refusal no_signature 0) ≡ Err r = sym ((header_exactly first (refusal no_signature 0)).1 (signature (no_line_unsigned s q))) ∙ e in
          let f : refusal no_signature 0 ≡ r = cc in
          ap refuses f
      go (l ∷ ls) q = header-by size l ls (Err r) (ap read_header (first-is l ls q) ∙ e)

  module _ (h : Header) where
    missing_comment : (k : ℕ) → Comes s h (comments (suc k)) [] → Refuses missing_line size
    missing_comment k c = (decides s h _ _ c (refusal missing_line size)).1 (simp (leb-suc-zero k))

    missing-first : (n : ℕ) → Comes s h (first-row n) [] → Refuses missing_line size
    unfolding character_rows
    missing-first n c = (decides s h _ _ c (refusal missing_line size)).1 refl

    missing-row : (n k w : ℕ) → Comes s h (more_rows n (suc k) w) [] → Refuses missing_line size
    unfolding rows_on
    missing-row n k w c = (decides s h _ _ c (refusal missing_line size)).1 refl

    module _ (n : ℕ) (l : TextLine) (ls : List TextLine) where
      bad_first : Comes s h (first-row n) (l ∷ ls) → row_of (format h) l.text ≡ None → Refuses bad_row l.start
      unfolding character_rows
      bad_first c e =
          (decides s h _ _ c (refusal bad_row l.start)).1
          (ap (λ (x : Option ℕ). ending_by (other_rows (format h) size l.start x ls) (end_from s h (character (suc n)) (drop (h.height - 1) ls))) e)

      bad_row_lem : (k w : ℕ) → Comes s h (more_rows n (suc k) w) (l ∷ ls) → has_width (row_of (format h) l.text) w ≡ false → Refuses bad_row l.start
      unfolding rows_on
      bad_row_lem k w c e = (decides s h _ _ c (refusal bad_row l.start)).1 (simp e)

      -- a tag line
      module _ (c : Comes s h (character n) (l ∷ ls)) (u : required_count ≤ n) (m : blank_lines (l ∷ ls) ≡ false) where
        abbrev more : Listing
        more = others (format h) size n l ls

        bad_tag : stops.BadCode l.text → Refuses bad_code_tag l.start
        bad_tag b =
            (decides s h _ _ c (refusal bad_code_tag l.start)).1
            (no_required s h n (l ∷ ls) u ∙ ap (λ (x : Listing). x.ending) (tag_due (format h) size n l ls m ∙ ap (λ (x : Option Code). tagged x (format h) size l.start n ls more) ((stops.bad_exactly l.text).1 b)))

        too_many : (z : Code) → tag_of l.text ≡ Some z → max_characters ≤ n → Refuses too_many_characters l.start
        too_many z t v =
            (decides s h _ _ c (refusal too_many_characters l.start)).1
            (no_required s h n (l ∷ ls) u ∙
            ap (λ (x : Listing). x.ending)
            (tag_named (format h) size n l ls (record { more = m; code = z; names = t }) ∙
            ap (λ (b : Bool). cond b (character_then (format h) size z ls more) (ends (stopped (refusal too_many_characters l.start)))) (le-ltb n max_characters v)))

  -- ---------------------------------------------------------------- the rows

  -- 1: "font too long"
  pub row_1 : (p : ℕ) → reading s ≡ refuses (refusal font_too_long p) ↔ TooLong p
  row_1 p = (met (refusal font_too_long p), λ w. at_place font_too_long p 0 w.0 (long-is s w.1))

  -- 2: "first line does not begin with flf2a"
  pub row_2 : (p : ℕ) → reading s ≡ refuses (refusal no_signature p) ↔ NoSignature p
  row_2 p = (met (refusal no_signature p), λ w. at_place no_signature p 0 w.0 (header-refuses w.1 _ ((header_exactly first _).1 (signature w.2))))

  -- 3: "hardblank absent, or blank, CR, LF, NUL"
  pub row_3 : (p : ℕ) → reading s ≡ refuses (refusal bad_hardblank p) ↔ BadHardblank p
  row_3 p = (
    met (refusal bad_hardblank p),
    λ w. at_place bad_hardblank p 0 w.0 (header-refuses w.1 _ ((header_exactly first _).1 (hardblank w.2 ((hardblank_exactly (drop (length font_signature) first)).1 w.3)))),
  )

  -- 4: "no blank or tab after the hardblank, under five numbers, or a value out of range"
  pub row_4 : (p : ℕ) → reading s ≡ refuses (refusal bad_parameters p) ↔ BadParameters p
  row_4 p = (
    met (refusal bad_parameters p),
    λ w. at_place bad_parameters p 0 w.0 (header-refuses w.1 _ ((header_exactly first _).1 (numbers w.2 (w.3, w.4, w.5, w.6, (parameters_exactly w.4).1 w.7)))),
  )

  -- 5: "font ends before a needed line"
  pub row_5 : (p : ℕ) → reading s ≡ refuses (refusal missing_line p) ↔ MissingLine p
  row_5 p = (
    met (refusal missing_line p),
    λ w. at_place missing_line p size w.0
        (⊎_elim (λ c. missing_comment w.1 c.0 c.1) (λ v. ⊎_elim (λ c. missing-first w.1 c.0 c.1) (λ c. missing-row w.1 c.0 c.1 c.2 c.3) v) w.2),
  )

  -- 6: "bad row"
  pub row_6 : (p : ℕ) → reading s ≡ refuses (refusal bad_row p) ↔ BadRowAt p
  row_6 p = (
    met (refusal bad_row p),
    λ w. at_place bad_row p w.1.start w.3
        (⊎_elim
        (λ c. bad_first w.0 c.0 w.1 w.2 c.1 ((bad_exactly (format w.0) w.1.text).1 ((line_exactly (format w.0) w.1.text).1 c.2)))
        (λ c. bad_row_lem w.0 c.0 w.1 w.2 c.1 c.2 c.3 ((width_exactly (format w.0) c.2 w.1.text).1 ((row_exactly (format w.0) c.2 w.1.text).1 c.4))) w.4),
  )

  -- 7: "bad code tag"
  pub row_7 : (p : ℕ) → reading s ≡ refuses (refusal bad_code_tag p) ↔ BadTagAt p
  row_7 p = (
    met (refusal bad_code_tag p),
    λ w. at_place bad_code_tag p w.2.start w.4 (bad_tag w.0 w.1 w.2 w.3 w.5 w.6 w.7 ((code_exactly w.2.text).1 w.8)),
  )

  -- 8: "a 513th character"
  pub row_8 : (p : ℕ) → reading s ≡ refuses (refusal too_many_characters p) ↔ TooMany p
  row_8 p = (
    met (refusal too_many_characters p),
    λ w. at_place too_many_characters p w.2.start w.4 (too_many w.0 w.1 w.2 w.3 w.5 (omega (arith, w.6)) w.7 w.8 w.9 w.6),
  )
