-- Every number, place and value of the answers about packs has room in its 64 bits.
-- Assumes nothing.
use mathlib.Core.Path.{◌≡◌, refl}
use mathlib.Core.Bool.{Bool, true, false, cond}
use mathlib.Core.List.{List, ◌++◌}
use Prim.Native.Nat.{ℕ, ◌+◌, ◌*◌, ◌≤◌}
use native.Mathlib.Omega.{arith}
use native.Mathlib.Nat.{mul-le-mul_right}
use lib.Dec.{eqb, ltb}
use lib.ListN.{length, length-append}
use borrow.Author.Tests.{ltb-false}
use Rattle.ground.specs.Limits.{max_text, max_line_width, min_scratch}
use Rattle.ground.specs.Refusals.{refusal, area_too_small, text_too_long, line_too_wide, bad_shape, damaged_pack, code_present, code_absent, no_room}
use Rattle.subchars.specs.declared.Code.{Code}
use Rattle.subchars.specs.declared.Direction.{Direction}
use Rattle.subchars.specs.declared.Layout.{Layout}
use Rattle.subchars.specs.declared.Mode.{Mode}
use Rattle.join.specs.Shape.{good_layout}
use Rattle.std.specs.Prelude.{Option, Some, None, Ok, Err}
use Rattle.showing.specs.Output.{output_of}
use Rattle.records.specs.declared.Head.{Head}
use Rattle.records.specs.declared.Place.{Place}
use Rattle.records.specs.Versions.{head_length}
use Rattle.records.specs.Records.{minus_one, is_live, has_live, live_count}
use Rattle.records.specs.Places.{place_in}
use Rattle.records.proofs.VersionLaws.{head_length_low}
use Rattle.records.proofs.ListingLaws.{fine}
use Rattle.ground.specs.Runs.{joined}
use Rattle.edits.proofs.ReadBack.{Wholes, none, more}
use Rattle.heads.specs.Pack.{Pack, says, damaged, meaning}
use Rattle.heads.proofs.FindLaws.{some, low, short, place_in_lem}
use Rattle.heads.proofs.OpenLaws.{opens_of, pack_wholes, pack_fits}
use Rattle.pack.specs.Calls.{check_told, located_at, located_in, found_at, find_told, changed, refused, tells, good_letter, has_room, insertion, removal, compaction}
use Rattle.flc.specs.Control as flc
use Rattle.source.specs.Source.{Source, pack_source}
use Rattle.source.specs.Counting.{counts_of}
use Rattle.source.proofs.CountLaws.{few_replaced}
use Rattle.drawing.specs.Drawing.{text_codes, line_of, draws, refuses, unlined, lined_read, lined_from, with_counts, lined_answer}
use Rattle.drawing.proofs.DrawingLaws.{as_many}
use Rattle.packdrawing.specs.PackDrawing.{pack_mode, pack_by, pack_of, pack_lined}
use Rattle.answers.specs.Fits.{DrawFits, PackFits, FindFits, EditFits}
use Rattle.capi.proofs.Bounds.{known, control-fits}

-- A pack has fewer live records than bytes.
few-live : (f : Head) {rs : List (List ℕ)} → Wholes f rs → live_count rs ≤ length (joined rs)
unfolding live_count joined
few-live f none = omega arith
few-live f (more {r} {rs} x k) = go (is_live r) (few-live f k)
  where
    go : (b : Bool) → live_count rs ≤ length (joined rs) → cond b 1 0 + live_count rs ≤ length (r ++ joined rs)
    go true l = omega (arith, length-append r (joined rs), (fine f r x.fits).head)
    go false l = omega (arith, length-append r (joined rs))

-- What the check of a pack answers.
pub pack_answer_fits : (s : List ℕ) → PackFits (check_told (meaning s))
unfolding check_told
pack_answer_fits s = go (meaning s) refl
  where
    go : (p : Pack) → meaning s ≡ p → PackFits (check_told p)
    go (says f rs) m =
        let o = opens_of s f rs m in
        record { a_in_16 = omega arith; b_in_16 = omega (arith, low s f rs m); c_in_16 = omega (arith, few-live f (pack_wholes s f rs o), pack_fits s f rs o, short s f rs m, head_length_low f.version) }
    go damaged m = known damaged_pack

-- What find answers.
pub find_fits : (s : List ℕ) (code : ℕ) → FindFits (find_told (meaning s) code)
unfolding find_told located_in
find_fits s code = go (meaning s) refl
  where
    at_place : (f : Head) (rs : List (List ℕ)) → meaning s ≡ says f rs → (x : Option Place) → x ≡ place_in f code (head_length f.version) rs → FindFits (found_at (located_at f x))
    at_place f rs m (Some x) q =
        let i = place_in_lem s f rs m code x q in
        let t = mul-le-mul_right {m = 1} {n = f.height} x.width (some s f rs m) in
        record { place_in_32 = omega (arith, i, short s f rs m); width_in_16 = omega (arith, i, t, short s f rs m) }
    at_place f rs m None q = known code_absent

    tested : (f : Head) (rs : List (List ℕ)) → meaning s ≡ says f rs → (b : Bool) → FindFits (found_at (cond b (Err (refusal bad_shape 0)) (located_at f (place_in f code (head_length f.version) rs))))
    tested f rs m true = known bad_shape
    tested f rs m false = at_place f rs m (place_in f code (head_length f.version) rs) refl

    go : (p : Pack) → meaning s ≡ p → FindFits (found_at (located_in p code))
    go (says f rs) m = tested f rs m (eqb code minus_one)
    go damaged m = known damaged_pack

-- What a change answers.
pub put_fits : (p : Pack) (size code width : ℕ) (rows : List ℕ) → EditFits (tells (insertion p size code width rows))
unfolding insertion
put_fits damaged size code width rows = known damaged_pack
put_fits (says f rs) size code width rows = go _ (good_letter f code width rows) (has_live code rs) (has_room f size width rs)
  where
    go : (xs : List (List ℕ)) (a b c : Bool) → EditFits (tells (cond a (cond b (refused code_present) (cond c (changed xs) (refused no_room))) (refused bad_shape)))
    go xs true true c = known code_present
    go xs true false true = tt
    go xs true false false = known no_room
    go xs false b c = known bad_shape

pub remove_fits : (p : Pack) (code : ℕ) → EditFits (tells (removal p code))
unfolding removal
remove_fits damaged code = known damaged_pack
remove_fits (says f rs) code = go _ (eqb code minus_one) (has_live code rs)
  where
    go : (xs : List (List ℕ)) (a b : Bool) → EditFits (tells (cond a (refused bad_shape) (cond b (changed xs) (refused code_absent))))
    go xs true b = known bad_shape
    go xs false true = tt
    go xs false false = known code_absent

pub compact_fits : (p : Pack) → EditFits (tells (compaction p))
unfolding compaction
compact_fits damaged = known damaged_pack
compact_fits (says f rs) = tt

-- What drawing from a source answers.
module _ (y : Mode) (h : ℕ) (source : Source) (control text : List ℕ) (room : ℕ) where
  put_fits_in : (codes : List Code) → length codes ≤ max_text → DrawFits (with_counts (counts_of source codes) (output_of h (line_of y h source codes) room))
  unfolding output_of
  put_fits_in codes l = go (ltb max_line_width w) refl (ltb room (h * (w + 1)))
    where
      w : ℕ
      w = (line_of y h source codes).width

      go : (a : Bool) → ltb max_line_width (line_of y h source codes).width ≡ a → (b : Bool) → DrawFits (with_counts (counts_of source codes) (cond a (Err (refusal line_too_wide 0)) (cond b (Err (refusal area_too_small 0)) (Ok (line_of y h source codes).width))))
      go true e b = known line_too_wide
      go false e true = known area_too_small
      go false e false =
          let few = few_replaced source codes in
          record { a_in_16 = omega (arith, few, l); b_in_16 = omega (arith, few, l); c_in_16 = omega (arith, ltb-false max_line_width (line_of y h source codes).width e) }

  pub from_fits : DrawFits (lined_answer (lined_from y h source (flc.control control) text) room)
  unfolding lined_answer
  from_fits = go (flc.control control) refl
    where
      go : (x : flc.ControlReading) → flc.control control ≡ x → DrawFits (lined_answer (lined_from y h source x text) room)
      go (flc.refuses r) e = control-fits control r e
      go (flc.reads cs k) e = tested (ltb max_text (length text)) refl
        where
          tested : (b : Bool) → ltb max_text (length text) ≡ b → DrawFits (lined_answer (lined_read y h source (cond b (refuses (refusal text_too_long 0)) (draws (text_codes cs k text)))) room)
          tested true q = known text_too_long
          tested false q = put_fits_in (text_codes cs k text) (omega (arith, as_many cs k text, ltb-false max_text (length text) q))

pub draw_pack_fits : (scratch : ℕ) (s : List ℕ) (layout : Layout) (direction : Direction) (control text : List ℕ) (room : ℕ) → DrawFits (lined_answer (pack_lined scratch s layout direction control text) room)
unfolding pack_lined pack_of lined_answer
draw_pack_fits scratch s layout direction control text room = go (ltb scratch min_scratch)
  where
    shaped : (f : Head) (rs : List (List ℕ)) (b : Bool) → DrawFits (lined_answer (cond b (lined_from (pack_mode f layout direction) f.height (pack_source f rs) (flc.control control) text) (unlined (refusal bad_shape 0))) room)
    shaped f rs true = from_fits (pack_mode f layout direction) f.height (pack_source f rs) control text room
    shaped f rs false = known bad_shape

    opened : (p : Pack) → DrawFits (lined_answer (pack_by p layout direction (flc.control control) text) room)
    opened damaged = known damaged_pack
    opened (says f rs) = shaped f rs (good_layout layout)

    go : (b : Bool) → DrawFits (lined_answer (cond b (unlined (refusal area_too_small 0)) (pack_by (meaning s) layout direction (flc.control control) text)) room)
    go true = known area_too_small
    go false = opened (meaning s)
