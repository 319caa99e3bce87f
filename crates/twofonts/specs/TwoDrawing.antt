-- Drawing a line of text by two fonts: document 02, Q-7. "Layout and direction are the first font's."
-- Assumes nothing.
use Rattle.std.specs.Prelude.{cond, List, ℕ, ltb}
use Rattle.ground.specs.Limits.{min_scratch}
use Rattle.ground.specs.Refusals.{refusal, area_too_small}
use Rattle.flc.specs.Control as flc
use Rattle.source.specs.Source.{two_source}
use Rattle.drawing.specs.Drawing.{mode_of, Lined, unlined, lined_from}
use Rattle.twofonts.specs.Fonts.{Fonts, fonts, unfit, fonts_of}

-- The fonts' refusals, then what drawing refuses from any source.
abbrev pub two_by : List ℕ → List ℕ → Fonts → flc.ControlReading → List ℕ → Lined
two_by s t (fonts h es fs) control text = lined_from (mode_of h) h.height (two_source s t es fs) control text
two_by s t (unfit r) control text = unlined r

unfoldable pub two_of : List ℕ → List ℕ → List ℕ → List ℕ → Lined
two_of s t control text = two_by s t (fonts_of s t) (flc.control control) text

-- As in every drawing, 9 for the scratch comes first.
unfoldable pub two_lined : ℕ → List ℕ → List ℕ → List ℕ → List ℕ → Lined
two_lined scratch s t control text = cond (ltb scratch min_scratch) (unlined (refusal area_too_small 0)) (two_of s t control text)
