-- The header line of a FIGfont: document 01, "Sizes" and "The font, line by line".
-- Assumes nothing.
use Rattle.std.specs.Prelude.{ℕ, zero, suc, Bool, true, cond, ◌&&◌, List, [], ◌∷◌, length, drop, ℤ, pos, negsuc, nat_abs, Option, Some, None, Result, Ok, Err}
use Rattle.std.specs.Int.Signed.{le_z}
use Rattle.ground.specs.Text.{bytes}
use Rattle.ground.specs.Runs.{begins}
use Rattle.ground.specs.Limits.{max_height, max_length_limit, max_rules, max_comment_lines, max_full_layout, max_direction}
use Rattle.ground.specs.declared.refusals.Reason.{Reason}
use Rattle.ground.specs.declared.refusals.Refusal.{Refusal}
use Rattle.ground.specs.Refusals.{refusal, no_signature, bad_hardblank, bad_parameters}
use Rattle.subchars.specs.declared.SubCharacter.{SubCharacter}
use Rattle.subchars.specs.declared.Layout.{Layout}
use Rattle.subchars.specs.Layouts.{old_layout_of, full_layout_of}
use Rattle.subchars.specs.Hardblank.{legal_hardblank}
use Rattle.lines.specs.Words.{is_blank, first_word, after_word}
use Rattle.lines.specs.Numbers.{header_number, highest}
use Rattle.header.specs.declared.Parameters.{Parameters}
use Rattle.header.specs.declared.Header.{Header}

-- "Height, Baseline, Max_Length, Old_Layout, Comment_Lines, and optionally Print_Direction, Full_Layout, Codetag_Count": at most 8 numbers.
abbrev pub max_parameters : ℕ
max_parameters = 8

-- "The first word that is no number ends the parameters": the numbers that the first words are, at most k of them.
abbrev pub then_more : Option ℤ → List ℤ → List ℤ
then_more (Some z) zs = z ∷ zs
then_more None zs = []

unfoldable pub numbers : ℕ → List ℕ → List ℤ
numbers zero t = []
numbers (suc k) t = then_more (header_number (first_word t)) (numbers k (after_word t))

-- "What follows the eighth number is ignored."
unfoldable pub parameter_numbers : List ℕ → List ℤ
parameter_numbers t = numbers max_parameters t

-- The k-th number of a list, from 0, if there is one: a missing one is not 0.
unfoldable pub parameter : ℕ → List ℤ → Option ℤ
parameter k [] = None
parameter zero (z ∷ zs) = Some z
parameter (suc k) (z ∷ zs) = parameter k zs

-- The parameters by their names, unless there are "under five numbers".
unfoldable pub parameters : List ℤ → Option Parameters
parameters (height ∷ baseline ∷ longest ∷ old ∷ comments ∷ options) =
    Some
    (record {
      height = height;
      baseline = baseline;
      max_length = longest;
      old_layout = old;
      comment_lines = comments;
      print_direction = parameter 0 options;
      full_layout = parameter 1 options;
      codetag_count = parameter 2 options;
    })
parameters [] = None
parameters (a ∷ []) = None
parameters (a ∷ b ∷ []) = None
parameters (a ∷ b ∷ c ∷ []) = None
parameters (a ∷ b ∷ c ∷ d ∷ []) = None

-- "Height 1 to 32, Baseline 1 to Height, Max_Length 1 to 200, Old_Layout -1 to 63, Comment_Lines 0 to 1,000, Full_Layout 0 to 32,767,
-- Print_Direction 0 or 1, Codetag_Count not negative."
abbrev pub min_old_layout : ℤ
min_old_layout = negsuc 0

unfoldable pub within : ℤ → ℤ → ℤ → Bool
within low high z = le_z low z && le_z z high

-- A parameter that may be missing is within its bounds if it is there.
unfoldable pub allowed : ℤ → Option ℤ → Bool
allowed high None = true
allowed high (Some z) = within (pos 0) high z

unfoldable pub legal_parameters : Parameters → Bool
legal_parameters p =
    within (pos 1) (pos max_height) p.height && within (pos 1) p.height p.baseline && within (pos 1) (pos max_length_limit) p.max_length &&
    within min_old_layout (pos max_rules) p.old_layout && within (pos 0) (pos max_comment_lines) p.comment_lines &&
    allowed (pos max_direction) p.print_direction && allowed (pos max_full_layout) p.full_layout && allowed highest p.codetag_count

-- The header of legal parameters. A missing parameter is kept apart from 0.
abbrev pub given : Option ℤ → Option ℕ
given None = None
given (Some z) = Some (nat_abs z)

-- "An absent Full_Layout gives one of the ready layouts." "Where Full_Layout stands, it decides alone."
abbrev pub layout_of : ℤ → Option ℕ → Layout
layout_of old None = old_layout_of old
layout_of old (Some full) = full_layout_of full

unfoldable pub header : SubCharacter → Parameters → Header
header h p =
    record {
      hardblank = h;
      height = nat_abs p.height;
      baseline = nat_abs p.baseline;
      max_length = nat_abs p.max_length;
      old_layout = p.old_layout;
      comment_lines = nat_abs p.comment_lines;
      print_direction = given p.print_direction;
      full_layout = given p.full_layout;
      codetag_count = given p.codetag_count;
      layout = layout_of p.old_layout (given p.full_layout);
    }

-- A refusal of the header, whose place is 0.
abbrev pub refused : Reason → Result Header Refusal
refused r = Err (refusal r 0)

-- "Under five numbers, or a value out of range."
abbrev pub header_with : SubCharacter → Option Parameters → Result Header Refusal
header_with h (Some p) = cond (legal_parameters p) (Ok (header h p)) (refused bad_parameters)
header_with h None = refused bad_parameters

unfoldable pub header_of : SubCharacter → List ℤ → Result Header Refusal
header_of h zs = header_with h (parameters zs)

-- "No blank or tab after the hardblank."
unfoldable pub after_hardblank : SubCharacter → List ℕ → Result Header Refusal
after_hardblank h [] = refused bad_parameters
after_hardblank h (x ∷ xs) = cond (is_blank x) (header_of h (parameter_numbers xs)) (refused bad_parameters)

-- "Hardblank absent, or blank, CR, LF, NUL."
unfoldable pub after_signature : List ℕ → Result Header Refusal
after_signature [] = refused bad_hardblank
after_signature (h ∷ xs) = cond (legal_hardblank h) (after_hardblank (record { 0 = h }) xs) (refused bad_hardblank)

-- "The header is flf2a, the hardblank, a blank or tab, then" the parameters: what the first line of a font says.
abbrev pub font_signature : List ℕ
font_signature = bytes "flf2a"

unfoldable pub read_header : List ℕ → Result Header Refusal
read_header t = cond (begins font_signature t) (after_signature (drop (length font_signature) t)) (refused no_signature)
