-- Steps of the reader of a header: how it goes on behind a word, and the ranges of the parameters that are required.
-- Assumes nothing.
use Rattle.std.specs.Prelude.{ℕ, Bool, ◌&&◌, List, [], ℤ, pos, Option, Some, None}
use Rattle.ground.specs.Limits.{max_height, max_length_limit, max_rules, max_comment_lines}
use Rattle.lines.specs.Words.{after_word}
use Rattle.header.specs.declared.Parameters.{Parameters}
use Rattle.header.specs.Header.{min_old_layout, within}

-- What is left of a text after its first word was read: "the first word that is no number ends the parameters".
abbrev pub behind : Option ℤ → List ℕ → List ℕ
behind (Some z) t = after_word t
behind None t = []

-- The required parameters are within their ranges; `legal_parameters` asks this and the ranges of the others.
abbrev pub legal_required : Parameters → Bool
legal_required p =
    within (pos 1) (pos max_height) p.height && within (pos 1) p.height p.baseline && within (pos 1) (pos max_length_limit) p.max_length &&
    within min_old_layout (pos max_rules) p.old_layout && within (pos 0) (pos max_comment_lines) p.comment_lines
