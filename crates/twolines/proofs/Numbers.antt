-- A refusal is told by its number and its place.
-- Assumes nothing.
use mathlib.Core.Path.{◌≡◌, refl, sym, ◌∙◌, ap, ap₂}
use mathlib.Core.List.{List, [], ◌∷◌}
use Prim.Native.Nat.{ℕ}
use lib.ListN.{get_or}
use Rattle.ground.specs.Refusals.{number_of, refusal}
use Rattle.ground.specs.declared.refusals.Reason.{Reason}
use Rattle.ground.specs.declared.refusals.Reason.TheVariants.{FontTooLong, NoSignature, BadHardblank, BadParameters, MissingLine, BadRow, BadCodeTag, TooManyCharacters, AreaTooSmall, ControlFileTooLong, NotACommand, BadRanges, ExtendedCommand, TooManyCommands, TextTooLong, LineTooWide, BadShape, StackTooHigh, CharacterTooWide, DamagedPack, CodePresent, CodeAbsent, NoRoom, FontsDiffer, WrongLength}
use Rattle.ground.specs.declared.refusals.Refusal.{Refusal}
use Rattle.stack.specs.StackCall.{StackTold, stack_tells}
use Rattle.std.specs.Prelude.{Err}

-- the reasons by their numbers, of which the first is 1
abbrev in_turn : List Reason
in_turn =
    FontTooLong ∷ FontTooLong ∷ NoSignature ∷ BadHardblank ∷ BadParameters ∷ MissingLine ∷ BadRow ∷ BadCodeTag ∷ TooManyCharacters ∷ AreaTooSmall ∷ ControlFileTooLong ∷ NotACommand ∷ BadRanges ∷ ExtendedCommand ∷ TooManyCommands ∷ TextTooLong ∷ LineTooWide ∷ BadShape ∷ StackTooHigh ∷ CharacterTooWide ∷ DamagedPack ∷ CodePresent ∷ CodeAbsent ∷ NoRoom ∷ FontsDiffer ∷ WrongLength ∷ []

abbrev reason_of : ℕ → Reason
reason_of n = get_or in_turn n FontTooLong

numbered : (r : Reason) → reason_of (number_of r) ≡ r
numbered FontTooLong = refl
numbered NoSignature = refl
numbered BadHardblank = refl
numbered BadParameters = refl
numbered MissingLine = refl
numbered BadRow = refl
numbered BadCodeTag = refl
numbered TooManyCharacters = refl
numbered AreaTooSmall = refl
numbered ControlFileTooLong = refl
numbered NotACommand = refl
numbered BadRanges = refl
numbered ExtendedCommand = refl
numbered TooManyCommands = refl
numbered TextTooLong = refl
numbered LineTooWide = refl
numbered BadShape = refl
numbered StackTooHigh = refl
numbered CharacterTooWide = refl
numbered DamagedPack = refl
numbered CodePresent = refl
numbered CodeAbsent = refl
numbered NoRoom = refl
numbered FontsDiffer = refl
numbered WrongLength = refl

same_reason : (r s : Reason) → number_of r ≡ number_of s → r ≡ s
same_reason r s e = sym (numbered r) ∙ (ap reason_of e ∙ numbered s)

pub same_refusal : (r s : Refusal) → stack_tells (Err r) ≡ stack_tells (Err s) → r ≡ s
same_refusal r s e = ap₂ refusal (same_reason r.reason s.reason (ap (λ (t : StackTold). t.number) e)) (ap (λ (t : StackTold). t.place) e)
