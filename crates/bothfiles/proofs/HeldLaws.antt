-- The lists that were filled hold what the files mean.
-- Assumes nothing.
use mathlib.Core.Path.{◌≡◌, ap, ◌∙◌, subst}
use mathlib.Core.List.{List}
use Prim.Native.Nat.{ℕ}
use lib.IntN.{ℤ}
use Rattle.font.specs.Font as font
use Rattle.std.specs.Prelude.{Result, Ok, Err}
use Rattle.ground.specs.declared.refusals.Refusal.{Refusal}
use Rattle.reader.specs.declared.FontRead.{FontRead}
use Rattle.flc.specs.declared.ControlRead.{ControlRead}
use Rattle.flc.specs.Control as flc
use Rattle.mapping.specs.Passing.{ControlHeldBy}
use Rattle.fontlists.specs.Held.{FontHeldBy}
use Rattle.bothfiles.specs.declared.Files.{Files}
use Rattle.drawing.specs.Drawing.{lined_by, lined_of}
use Rattle.bothfiles.specs.Held.{files_of, FilesHeld}

-- Both answers together.
module _ (s c : List ℕ) (codes : List ℤ) (starts widths places stages : List ℕ) (firsts lasts news : List ℤ) where
  abbrev Held : Files → Type 0
  Held f = FilesHeld s c f codes starts widths places stages firsts lasts news

  pub held_as : (f g : Files) → f ≡ g → Held f → Held g
  held_as f g e h = subst Held e h

  pub files_held : (f : Result FontRead Refusal) (a : Result ControlRead Refusal) → FontHeldBy s f codes starts widths places → ControlHeldBy c a stages firsts lasts news → Held (files_of f a)
  unfolding lined_of
  files_held (Ok font-read) (Ok control-read) x y = (x, y)
  files_held (Ok font-read) (Err q) x y =
      λ text. ap (λ (z : font.FontReading). lined_by s z (flc.control c) text) x.said ∙ ap (λ (z : flc.ControlReading). lined_by s (font.says font-read.header x.characters) z text) y
  files_held (Err q) a x y = λ text. ap (λ (z : font.FontReading). lined_by s z (flc.control c) text) x
