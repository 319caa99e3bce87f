-- What drawing from a pack comes to, case by case.
-- Assumes nothing.
use mathlib.Core.Path.{◌≡◌, refl, ap, ◌∙◌}
use mathlib.Core.Bool.{Bool, true, false, cond}
use mathlib.Core.List.{List}
use Prim.Native.Nat.{ℕ, ◌≤◌, ◌<◌}
use borrow.Author.Tests.{lt-ltb, le-ltb}
use Rattle.ground.specs.Limits.{min_scratch}
use Rattle.ground.specs.Refusals.{refusal, area_too_small, bad_shape, damaged_pack}
use Rattle.subchars.specs.declared.Direction.{Direction}
use Rattle.subchars.specs.declared.Layout.{Layout}
use Rattle.join.specs.Shape.{good_layout}
use Rattle.records.specs.declared.Head.{Head}
use Rattle.heads.specs.Pack.{Pack, says, damaged, meaning}
use Rattle.letters.specs.Held.{Held}
use Rattle.flc.specs.Control as flc
use Rattle.source.specs.Source.{pack_source}
use Rattle.source.specs.Held.{PackGives}
use Rattle.drawing.specs.Drawing.{unlined, lined_from}
use Rattle.packdrawing.specs.PackDrawing.{pack_mode, pack_by, pack_of, pack_lined}

module _ (s : List ℕ) (layout : Layout) (direction : Direction) (control text : List ℕ) where
  pub scratch_small : (scratch : ℕ) → scratch < min_scratch → pack_lined scratch s layout direction control text ≡ unlined (refusal area_too_small 0)
  unfolding pack_lined
  scratch_small scratch l = rw (lt-ltb scratch min_scratch l)

  pub scratch_enough : (scratch : ℕ) → min_scratch ≤ scratch → pack_lined scratch s layout direction control text ≡ pack_of s layout direction control text
  unfolding pack_lined
  scratch_enough scratch l = rw (le-ltb scratch min_scratch l)

  pub of_damaged : meaning s ≡ damaged → pack_of s layout direction control text ≡ unlined (refusal damaged_pack 0)
  unfolding pack_of
  of_damaged e = ap (λ (p : Pack). pack_by p layout direction (flc.control control) text) e

  module _ (f : Head) (rs : List (List ℕ)) (m : meaning s ≡ says f rs) where
    said : pack_of s layout direction control text ≡ pack_by (says f rs) layout direction (flc.control control) text
    unfolding pack_of
    said = ap (λ (p : Pack). pack_by p layout direction (flc.control control) text) m

    pub of_bad_layout : good_layout layout ≡ false → pack_of s layout direction control text ≡ unlined (refusal bad_shape 0)
    of_bad_layout e = said ∙ ap (λ (b : Bool). cond b (lined_from (pack_mode f layout direction) f.height (pack_source f rs) (flc.control control) text) (unlined (refusal bad_shape 0))) e

    pub of_good_layout : good_layout layout ≡ true → pack_of s layout direction control text ≡ lined_from (pack_mode f layout direction) f.height (pack_source f rs) (flc.control control) text
    of_good_layout e = said ∙ ap (λ (b : Bool). cond b (lined_from (pack_mode f layout direction) f.height (pack_source f rs) (flc.control control) text) (unlined (refusal bad_shape 0))) e

-- A pack whose letters are held gives its characters.
pub pack_gives : (s : List ℕ) (f : Head) (rs : List (List ℕ)) (starts widths : List ℕ) → meaning s ≡ says f rs → Held f rs starts widths → PackGives (pack_source f rs) s f.height starts widths
pack_gives s f rs starts widths m h = record { head = f; records = rs; said = m; held = h; high = refl; is = refl }
