-- Every number, place and value of the answers about two fonts has room in its 64 bits.
-- Assumes nothing.
use mathlib.Core.Path.{◌≡◌, refl}
use mathlib.Core.Bool.{Bool, true, false, cond}
use mathlib.Core.List.{List}
use Prim.Native.Nat.{ℕ}
use lib.Dec.{ltb}
use Rattle.ground.specs.Limits.{min_scratch}
use Rattle.ground.specs.Refusals.{refusal, area_too_small, fonts_differ}
use Rattle.header.specs.declared.Header.{Header}
use Rattle.chars.specs.declared.Entry.{Entry}
use Rattle.font.specs.Font.{FontReading, says, refuses, reading}
use Rattle.flc.specs.Control as flc
use Rattle.source.specs.Source.{two_source}
use Rattle.drawing.specs.Drawing.{mode_of, unlined, lined_answer}
use Rattle.twofonts.specs.Fonts.{fonts, unfit, alike, fonts_by, fonts_of}
use Rattle.twofonts.specs.TwoDrawing.{two_by, two_of, two_lined}
use Rattle.answers.specs.Fits.{DrawFits}
use Rattle.capi.proofs.Bounds.{known, font_fits}
use Rattle.capi.proofs.PackBounds.{from_fits}

pub draw_two_fits : (scratch : ℕ) (s t control text : List ℕ) (room : ℕ) → DrawFits (lined_answer (two_lined scratch s t control text) room)
unfolding two_lined two_of fonts_of lined_answer
draw_two_fits scratch s t control text room = go (ltb scratch min_scratch)
  where
    compared : (h : Header) (es fs : List Entry) (b : Bool) → DrawFits (lined_answer (two_by s t (cond b (fonts h es fs) (unfit (refusal fonts_differ 0))) (flc.control control) text) room)
    compared h es fs true = from_fits (mode_of h) h.height (two_source s t es fs) control text room
    compared h es fs false = known fonts_differ

    read : (m : FontReading) → reading s ≡ m → (n : FontReading) → reading t ≡ n → DrawFits (lined_answer (two_by s t (fonts_by m n) (flc.control control) text) room)
    read (refuses r) p n q = font_fits s r p
    read (says h es) p (refuses r) q = font_fits t r q
    read (says h es) p (says k fs) q = compared h es fs (alike h k)

    go : (b : Bool) → DrawFits (lined_answer (cond b (unlined (refusal area_too_small 0)) (two_by s t (fonts_by (reading s) (reading t)) (flc.control control) text)) room)
    go true = known area_too_small
    go false = read (reading s) refl (reading t) refl
