-- A control file is refused exactly when document 01's table says so: rows 10 to 14, each by itself, with its number and its place.
-- Assumes nothing.
use mathlib.Core.Path.{◌≡◌, refl, sym, ap, ◌∙◌, subst}
use mathlib.Core.List.{List, [], ◌∷◌}
use mathlib.Core.Logic.{◌↔◌, ◌⊎◌, inl, inr, ⊎_elim}
use Prim.Native.Nat.{ℕ, ◌+◌, ◌-◌, ◌≤◌, ◌<◌}
use lib.ListN.{length, get_or}
use borrow.Author.Tests.{lt-ltb, le-ltb}
use Rattle.ground.specs.Limits.{max_control_file, max_commands, max_stages}
use Rattle.ground.specs.Refusals.{refusal, number_of, control_file_too_long, not_a_command, bad_ranges, extended_command, too_many_commands}
use Rattle.ground.specs.declared.refusals.Reason.{Reason}
use Rattle.ground.specs.declared.refusals.Refusal.{Refusal}
use Rattle.subchars.specs.declared.Code.{Code}
use Rattle.lines.specs.Lines.{TextLine, lines_from}
use Rattle.commands.specs.declared.LineKind.TheVariants.{Comment, Mapping, NewStage, Extended, NotCommand, BadRanges}
use Rattle.commands.specs.Commands.{line_kind}
use Rattle.commands.proofs.FormLaws.{IsComment, IsExtended, IsStage, IsMapping, IsBadRanges, extended_exactly, stage_exactly, mapping_exactly, bad_ranges_exactly, no_command_exactly}
use Rattle.flc.specs.declared.Command.{Command}
use Rattle.flc.specs.Control.{ControlReading, refuses, with_command, command_of, commands_on, behind_signature, control}
use Rattle.flc.proofs.RefusalLaws as stops
use Rattle.flc.proofs.RefusalLaws.{CommandsStop, ControlStops, kind_by, without_command, long-is, short_is, only_control}

-- "Then 11 to 14 as met": of a control file s the stage, the number of commands before, and the lines that remain.
pub data Reaches (s : List ℕ) : ℕ → ℕ → List TextLine → Type 0 where
  -- "a first line beginning flc2a is passed over"
  at_first : length s ≤ max_control_file → Reaches s 0 0 (behind_signature (lines_from s 0))
  past_comment : {stage n : ℕ} {l : TextLine} {ls : List TextLine} → Reaches s stage n (l ∷ ls) → line_kind l.text ≡ Comment → Reaches s stage n ls
  past_command : {stage n : ℕ} {l : TextLine} {ls : List TextLine} → Reaches s stage n (l ∷ ls) → (first last firstNew : Code) → line_kind l.text ≡ Mapping first last firstNew → n < max_commands → Reaches s stage (n + 1) ls
  -- "`f` starts the next stage"
  past_stage : {stage n : ℕ} {l : TextLine} {ls : List TextLine} → Reaches s stage n (l ∷ ls) → line_kind l.text ≡ NewStage → stage + 1 < max_stages → Reaches s (stage + 1) n ls

module _ (s : List ℕ) where
  -- A control file is refused exactly as the lines that remain.
  abbrev Decides : ControlReading → Type 0
  Decides x = (r : Refusal) → control s ≡ refuses r ↔ x ≡ refuses r

  passed : (x y : ControlReading) → x ≡ y → Decides x → Decides y
  passed x y e d r = (λ q. sym e ∙ (d r).0 q, λ q. (d r).1 (e ∙ q))

  listed : (c : Command) (x y : ControlReading) → x ≡ with_command c y → Decides x → Decides y
  listed c x y e d r = (λ q. without_command c y r (sym e ∙ (d r).0 q), λ q. (d r).1 (e ∙ ap (with_command c) q))

  decides : (stage n : ℕ) (ls : List TextLine) → Reaches s stage n ls → Decides (commands_on stage n ls)
  decides _ _ _ (at_first u) = λ r. (λ q. sym (short_is s u) ∙ q, λ q. short_is s u ∙ q)
  decides stage n ls (past_comment {l = l} c e) = passed _ _ (kind_by stage n l ls Comment e) (decides stage n (l ∷ ls) c)
  decides stage _ ls (past_command {n = n} {l = l} c x y z e u) = listed (command_of stage x y z) _ (commands_on stage (n + 1) ls) (kind_by stage n l ls (Mapping x y z) e ∙ simp (lt-ltb n max_commands u)) (decides stage n (l ∷ ls) c)
  decides _ n ls (past_stage {stage = stage} {l = l} c e u) = passed _ _ (kind_by stage n l ls NewStage e ∙ simp (lt-ltb (stage + 1) max_stages u)) (decides stage n (l ∷ ls) c)

  -- ---------------------------------------------------------------- what each row says of a place

  abbrev TooLong : ℕ → Type 0
  TooLong p = (p ≡ 0) × (max_control_file < length s)

  abbrev NoCommandAt : ℕ → Type 0
  NoCommandAt p =
      (stage n : ℕ) × (l : TextLine) × (ls : List TextLine) × (p ≡ l.start) × Reaches s stage n (l ∷ ls) ×
      (IsComment l.text → ⊥) × (IsExtended l.text → ⊥) × (IsStage l.text → ⊥) × ((a b c : Code) → IsMapping l.text a b c → ⊥) × (IsBadRanges l.text → ⊥)

  abbrev BadRangesAt : ℕ → Type 0
  BadRangesAt p = (stage n : ℕ) × (l : TextLine) × (ls : List TextLine) × (p ≡ l.start) × Reaches s stage n (l ∷ ls) × (IsBadRanges l.text)

  abbrev ExtendedAt : ℕ → Type 0
  ExtendedAt p = (stage n : ℕ) × (l : TextLine) × (ls : List TextLine) × (p ≡ l.start) × Reaches s stage n (l ∷ ls) × (IsExtended l.text)

  abbrev TooManyAt : ℕ → Type 0
  TooManyAt p =
      (stage n : ℕ) × (l : TextLine) × (ls : List TextLine) × (p ≡ l.start) × Reaches s stage n (l ∷ ls) ×
      (((a b c : Code) × (IsMapping l.text a b c) × (max_commands ≤ n)) ⊎ ((IsStage l.text) × (max_stages ≤ stage + 1)))

  -- the row of a number, and what it says of a place
  abbrev Nothing : ℕ → Type 0
  Nothing p = ⊥

  abbrev Row : Refusal → Type 0
  Row r = get_or (TooLong ∷ NoCommandAt ∷ BadRangesAt ∷ ExtendedAt ∷ TooManyAt ∷ []) (number_of r.reason - number_of control_file_too_long) Nothing r.place

  -- ---------------------------------------------------------------- a refusal is of its row

  commands-met : (stage n : ℕ) (ls : List TextLine) (r : Refusal) → Reaches s stage n ls → CommandsStop stage n ls r → Row r
  commands-met stage n [] r c x'' = elim x'' [ ]
  commands-met stage n (l ∷ ls) _ c (stops.not_command e) =
      let w = (no_command_exactly l.text).0 e in (stage, n, l, ls, refl, c, w.0, w.1, w.2, w.3, w.4)
  commands-met stage n (l ∷ ls) _ c (stops.bad_ranges_lem e) = (stage, n, l, ls, refl, c, (bad_ranges_exactly l.text).0 e)
  commands-met stage n (l ∷ ls) _ c (stops.extended e) = (stage, n, l, ls, refl, c, (extended_exactly l.text).0 e)
  commands-met stage n (l ∷ ls) _ c (stops.command_257 x y z e u) = (stage, n, l, ls, refl, c, inl (x, y, z, (mapping_exactly l.text x y z).0 e, u))
  commands-met stage n (l ∷ ls) _ c (stops.stage_65 e u) = (stage, n, l, ls, refl, c, inr ((stage_exactly l.text).0 e, u))
  commands-met stage n (l ∷ ls) r c (stops.past_comment e t) = commands-met stage n ls r (past_comment c e) t
  commands-met stage n (l ∷ ls) r c (stops.past_command x y z e u t) = commands-met stage (n + 1) ls r (past_command c x y z e u) t
  commands-met stage n (l ∷ ls) r c (stops.past_stage e u t) = commands-met (stage + 1) n ls r (past_stage c e u) t

  refusal-met : (r : Refusal) → ControlStops s r → Row r
  refusal-met _ (stops.too_long u) = (refl, u)
  refusal-met r (stops.on_lines_lem u t) = commands-met 0 0 (behind_signature (lines_from s 0)) r (at_first u) t

  met : (r : Refusal) → control s ≡ refuses r → Row r
  met r e = refusal-met r (only_control s r e)

  -- ---------------------------------------------------------------- the rows

  at_place : (reason : Reason) (p q : ℕ) → p ≡ q → control s ≡ refuses (refusal reason q) → control s ≡ refuses (refusal reason p)
  at_place reason p q e r = subst (λ (x : ℕ). control s ≡ refuses (refusal reason x)) (sym e) r

  -- 10: "control file too long"
  pub row_10 : (p : ℕ) → control s ≡ refuses (refusal control_file_too_long p) ↔ TooLong p
  row_10 p = (met (refusal control_file_too_long p), λ w. at_place control_file_too_long p 0 w.0 (long-is s w.1))

  -- 11: "not a command"
  pub row_11 : (p : ℕ) → control s ≡ refuses (refusal not_a_command p) ↔ NoCommandAt p
  row_11 p = (
    met (refusal not_a_command p),
    λ w.
        at_place not_a_command p w.2.start w.4
        ((decides w.0 w.1 (w.2 ∷ w.3) w.5 _).1 (kind_by w.0 w.1 w.2 w.3 NotCommand ((no_command_exactly w.2.text).1 (w.6, w.7, w.8, w.9, w.10)))),
  )

  -- 12: "range sizes differ, or first above last"
  pub row_12 : (p : ℕ) → control s ≡ refuses (refusal bad_ranges p) ↔ BadRangesAt p
  row_12 p = (
    met (refusal bad_ranges p),
    λ w. at_place bad_ranges p w.2.start w.4 ((decides w.0 w.1 (w.2 ∷ w.3) w.5 _).1 (kind_by w.0 w.1 w.2 w.3 BadRanges ((bad_ranges_exactly w.2.text).1 w.6))),
  )

  -- 13: "a line whose first byte is h, j, b, u or g (never 11)"
  pub row_13 : (p : ℕ) → control s ≡ refuses (refusal extended_command p) ↔ ExtendedAt p
  row_13 p = (
    met (refusal extended_command p),
    λ w. at_place extended_command p w.2.start w.4 ((decides w.0 w.1 (w.2 ∷ w.3) w.5 _).1 (kind_by w.0 w.1 w.2 w.3 Extended ((extended_exactly w.2.text).1 w.6))),
  )

  -- 14: "a 257th command or 65th stage"
  pub row_14 : (p : ℕ) → control s ≡ refuses (refusal too_many_commands p) ↔ TooManyAt p
  row_14 p = (met (refusal too_many_commands p), λ w. at_place too_many_commands p w.2.start w.4 ((decides w.0 w.1 (w.2 ∷ w.3) w.5 _).1 (many w.0 w.1 w.2 w.3 w.6)))
    where
      many : (stage n : ℕ) (l : TextLine) (ls : List TextLine) → ((a b c : Code) × (IsMapping l.text a b c) × (max_commands ≤ n)) ⊎ ((IsStage l.text) × (max_stages ≤ stage + 1)) →
          commands_on stage n (l ∷ ls) ≡ refuses (refusal too_many_commands l.start)
      many stage n l ls w =
          ⊎_elim
          (λ v. kind_by stage n l ls (Mapping v.0 v.1 v.2) ((mapping_exactly l.text v.0 v.1 v.2).1 v.3) ∙ simp (le-ltb n max_commands v.4))
          (λ v. kind_by stage n l ls NewStage ((stage_exactly l.text).1 v.0) ∙ simp (le-ltb (stage + 1) max_stages v.1)) w
