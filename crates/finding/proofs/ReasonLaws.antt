-- The number of a refusal tells its reason.
-- Assumes nothing.
use mathlib.Core.Path.{◌≡◌, refl, sym, ap, ◌∙◌}
use mathlib.Core.List.{[], ◌∷◌}
use Prim.Native.Nat.{ℕ, ◌-◌}
use lib.ListN.{get_or}
use Rattle.ground.specs.Refusals.{refusal, number_of}
use Rattle.ground.specs.declared.refusals.Reason.{Reason}
use Rattle.ground.specs.declared.refusals.Reason.TheVariants.{FontTooLong, NoSignature, BadHardblank, BadParameters, MissingLine, BadRow, BadCodeTag, TooManyCharacters, AreaTooSmall, ControlFileTooLong, NotACommand, BadRanges, ExtendedCommand, TooManyCommands, TextTooLong, LineTooWide, BadShape, StackTooHigh, CharacterTooWide, DamagedPack, CodePresent, CodeAbsent, NoRoom, FontsDiffer, WrongLength}
use Rattle.ground.specs.declared.refusals.Refusal.{Refusal}

-- The reason of a number.
abbrev pub reason_of : ℕ → Reason
reason_of n =
    get_or
    (FontTooLong ∷ NoSignature ∷ BadHardblank ∷ BadParameters ∷ MissingLine ∷ BadRow ∷ BadCodeTag ∷ TooManyCharacters ∷ AreaTooSmall ∷ ControlFileTooLong ∷ NotACommand ∷ BadRanges ∷ ExtendedCommand ∷ TooManyCommands ∷ TextTooLong ∷ LineTooWide ∷ BadShape ∷ StackTooHigh ∷ CharacterTooWide ∷ DamagedPack ∷ CodePresent ∷ CodeAbsent ∷ NoRoom ∷ FontsDiffer ∷ WrongLength ∷ [])
    (n - 1) FontTooLong

reason_back : (r : Reason) → reason_of (number_of r) ≡ r
reason_back FontTooLong = refl
reason_back NoSignature = refl
reason_back BadHardblank = refl
reason_back BadParameters = refl
reason_back MissingLine = refl
reason_back BadRow = refl
reason_back BadCodeTag = refl
reason_back TooManyCharacters = refl
reason_back AreaTooSmall = refl
reason_back ControlFileTooLong = refl
reason_back NotACommand = refl
reason_back BadRanges = refl
reason_back ExtendedCommand = refl
reason_back TooManyCommands = refl
reason_back TextTooLong = refl
reason_back LineTooWide = refl
reason_back BadShape = refl
reason_back StackTooHigh = refl
reason_back CharacterTooWide = refl
reason_back DamagedPack = refl
reason_back CodePresent = refl
reason_back CodeAbsent = refl
reason_back NoRoom = refl
reason_back FontsDiffer = refl
reason_back WrongLength = refl

pub same_reason : (q r : Reason) → number_of q ≡ number_of r → q ≡ r
same_reason q r e = sym (reason_back q) ∙ ap reason_of e ∙ reason_back r

pub same_refusal : (q r : Refusal) → number_of q.reason ≡ number_of r.reason → q.place ≡ r.place → q ≡ r
same_refusal q r e f = ap (λ (x : Reason). refusal x q.place) (same_reason q.reason r.reason e) ∙ ap (refusal r.reason) f
