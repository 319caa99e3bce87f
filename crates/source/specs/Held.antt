-- What was read once for many texts: the lists hold what a font, two fonts or a pack mean, and so give their characters.
-- Assumes nothing.
use Rattle.std.specs.Prelude.{◌≡◌, ℕ, List, ℤ}
use Rattle.header.specs.declared.Header.{Header}
use Rattle.fontlists.specs.Held.{FontHeld, TwoHeld}
use Rattle.records.specs.declared.Head.{Head}
use Rattle.heads.specs.Pack as pack
use Rattle.letters.specs.Held.{Held}
use Rattle.source.specs.declared.Origin.{Origin}
use Rattle.source.specs.declared.Origin.TheVariants.{Font, Two, Pack}
use Rattle.source.specs.Source.{Source, font_source, two_source, pack_source}

-- A font that was read gives its own characters, of its own Height.
pub record FontGives (source : Source) (s : List ℕ) (height n : ℕ) (codes : List ℤ) (starts widths places : List ℕ) : Type 0 where
  pub header : Header
  pub held : FontHeld s header n codes starts widths places
  pub high : height ≡ header.height
  pub is : source ≡ font_source s held.characters

-- They give the characters of both, if these are of one height.
pub record TwoGives (source : Source) (s t : List ℕ) (height n m : ℕ) (codes : List ℤ) (starts widths places : List ℕ) : Type 0 where
  pub header : Header
  pub other : Header
  pub held : TwoHeld s t header other n m codes starts widths places
  pub high : height ≡ header.height
  pub equal : height ≡ other.height
  pub is : source ≡ two_source s t held.first.characters held.second.characters

-- A pack gives its letters; two of the lists hold where those of small codes stand.
pub record PackGives (source : Source) (s : List ℕ) (height : ℕ) (starts widths : List ℕ) : Type 0 where
  pub head : Head
  pub records : List (List ℕ)
  pub said : pack.meaning s ≡ pack.says head records
  pub held : Held head records starts widths
  pub high : height ≡ head.height
  pub is : source ≡ pack_source head records

-- By what the bytes are. Where there is no second font, nothing is asked of its bytes t.
abbrev pub GivesBy : Source → List ℕ → List ℕ → ℕ → Origin → List ℤ → List ℕ → List ℕ → List ℕ → Type 0
GivesBy source s t height (Font n) codes starts widths places = FontGives source s height n codes starts widths places
GivesBy source s t height (Two n m) codes starts widths places = TwoGives source s t height n m codes starts widths places
GivesBy source s t height Pack codes starts widths places = PackGives source s height starts widths

-- The bytes and the lists give the characters of a source, of the given height.
pub record Gives (source : Source) (s t : List ℕ) (height : ℕ) (origin : Origin) (codes : List ℤ) (starts widths places : List ℕ) : Type 0 where
  pub by : GivesBy source s t height origin codes starts widths places
