-- What was read once for many texts: the lists hold what the font and the control file mean.
-- Assumes nothing.
use Rattle.std.specs.Prelude.{◌≡◌, ℕ, List, ℤ, Result, Ok, Err}
use Rattle.ground.specs.declared.refusals.Refusal.{Refusal}
use Rattle.reader.specs.declared.FontRead.{FontRead}
use Rattle.flc.specs.declared.ControlRead.{ControlRead}
use Rattle.mapping.specs.Passing.{ControlHeld}
use Rattle.fontlists.specs.Held.{FontHeld}
use Rattle.bothfiles.specs.declared.Files.{Files}
use Rattle.bothfiles.specs.declared.Files.TheVariants.{Read, Refused}
use Rattle.drawing.specs.Drawing.{unlined, lined_of}

-- "The font's, the control file's": what both answers come to.
abbrev pub files_of : Result FontRead Refusal → Result ControlRead Refusal → Files
files_of (Ok font) (Ok control) = Read font.header font.count control.commands
files_of (Ok font) (Err r) = Refused r
files_of (Err r) control = Refused r

-- Both files, or the refusal that every text then has.
abbrev pub FilesHeld : List ℕ → List ℕ → Files → List ℤ → List ℕ → List ℕ → List ℕ → List ℕ → List ℤ → List ℤ → List ℤ → Type 0
FilesHeld s c (Read h n m) codes starts widths places stages firsts lasts news =
    FontHeld s h n codes starts widths places × ControlHeld c m stages firsts lasts news
FilesHeld s c (Refused r) codes starts widths places stages firsts lasts news = (text : List ℕ) → lined_of s c text ≡ unlined r
