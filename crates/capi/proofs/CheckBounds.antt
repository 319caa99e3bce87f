-- Every number and place of the answers of a check of a drawing has room in its 64 bits.
-- Assumes nothing.
use mathlib.Core.Path.{◌≡◌, refl, sym, subst}
use mathlib.Core.List.{List, [], ◌∷◌}
use Prim.Native.Nat.{ℕ, ◌+◌, ◌*◌, ◌≤◌}
use native.Mathlib.Omega.{arith}
use native.Mathlib.Nat.{mul-le-mul_right}
use lib.ListN.{length}
use Rattle.ground.specs.Limits.{max_text, max_line_width, max_height}
use Rattle.ground.specs.Refusals.{number_of, area_too_small, text_too_long, line_too_wide, wrong_length}
use Rattle.ground.specs.declared.refusals.Refusal.{Refusal}
use Rattle.subchars.specs.declared.Code.{Code}
use Rattle.showing.proofs.Showing.{length-shown}
use Rattle.font.proofs.ReadingLaws.{font_read}
use Rattle.source.specs.Source.{Choice, found, stood_in, nothing, Source, font_source}
use Rattle.drawing.specs.Drawing.{text_codes, with_choice, characters_of, mode_of, trace_of}
use Rattle.drawing.proofs.DrawingLaws.{as_many}
use Rattle.std.specs.Prelude.{Result, Ok, Err}
use Rattle.checking.specs.declared.Verdict.{Verdict}
use Rattle.checking.specs.declared.Verdict.TheVariants.{Accepted, WrongOverlap, WrongByte}
use Rattle.checking.specs.Verdict.{verdict}
use Rattle.checking.proofs.DifferenceLaws.{within}
use Rattle.checking.proofs.VerdictLaws.{overlap_exactly, byte_exactly, refused_exactly}
use Rattle.checking.proofs.TraceLaws.{one_less}
use Rattle.drawingcheck.specs.CheckDrawing.{drawing_checked}
use Rattle.drawingcheck.proofs.Answers as check
use Rattle.answers.specs.Fits.{RefusalFits, CheckFits}
use Rattle.capi.proofs.Bounds.{known, font_fits, control-fits}

-- A text draws no more characters than it has codes.
few-characters : (source : Source) (cs : List Code) → length (characters_of source cs) ≤ length cs
unfolding characters_of
few-characters source [] = omega arith
few-characters source (c ∷ cs) = go (source c) (few-characters source cs)
  where
    go : (x : Choice) → length (characters_of source cs) ≤ length cs → length (with_choice x (characters_of source cs)) ≤ length (c ∷ cs)
    go (found b) l = omega arith
    go (stood_in b) l = omega arith
    go nothing l = omega arith

module _ (size : ℕ) (s control text overlaps figure : List ℕ) where
  module _ (x : check.CheckRead size s control text) (narrow : (check.line_by size s control text x).width ≤ max_line_width) where
    few_right : length (check.right_by size s control text x) ≤ max_text
    unfolding trace_of
    few_right = omega (arith, one_less (mode_of x.header) x.header.height (characters_of (font_source s x.characters) (text_codes x.commands x.stages text)), few-characters (font_source s x.characters) (text_codes x.commands x.stages text), as_many x.commands x.stages text, x.short)

    few_bytes : length (check.drawing_by size s control text x) ≤ max_height * (max_line_width + 1)
    few_bytes =
        let h = (font_read s x.header x.characters x.font_read).high.1 in
        omega (arith, length-shown x.header.hardblank.0 x.header.height (check.line_by size s control text x), mul-le-mul_right ((check.line_by size s control text x).width + 1) h, narrow)

    judged_fits : (a : Result Verdict Refusal) → verdict (check.right_by size s control text x) (check.drawing_by size s control text x) overlaps figure ≡ a → CheckFits a
    judged_fits (Ok Accepted) e = tt
    judged_fits (Ok (WrongOverlap k)) e = let w = (overlap_exactly _ _ overlaps figure k).0 e in omega (arith, w.inside, w.size, few_right)
    judged_fits (Ok (WrongByte p)) e = let w = (byte_exactly _ _ overlaps figure p).0 e in omega (arith, (within p _ _ w.1.here).0, few_bytes)
    judged_fits (Err r) e =
        let w = (refused_exactly _ _ overlaps figure r).0 e in
        subst (λ (q : Refusal). RefusalFits (number_of q.reason) q.place) (sym w.0) (known wrong_length)

  pub check_fits : CheckFits (drawing_checked size s control text overlaps figure)
  check_fits = go _ (check.one_of size s control text overlaps figure)
    where
      go : (a : Result Verdict Refusal) → check.ChecksTo size s control text overlaps figure a → CheckFits a
      go _ (check.scratch_small u) = known area_too_small
      go _ (check.font_refused u r p) = font_fits s r p
      go _ (check.control-refused u h es p r c) = control-fits control r c
      go _ (check.text_too_long_lem u h es p cs k c l) = known text_too_long
      go _ (check.line_too_wide_lem x l) = known line_too_wide
      go _ (check.judged x l) = judged_fits x l _ refl
