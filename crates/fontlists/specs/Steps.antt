-- Look-up in two fonts by the look-up in each.
-- Assumes nothing.
use Rattle.reader.specs.declared.LookedUp.{LookedUp}
use Rattle.reader.specs.declared.LookedUp.TheVariants as one
use Rattle.fontlists.specs.declared.two.Which.TheVariants.{First, Second}
use Rattle.fontlists.specs.declared.two.LookedUpInTwo.{LookedUpInTwo}
use Rattle.fontlists.specs.declared.two.LookedUpInTwo.TheVariants as two

-- What looking a code up in each of two fonts comes to: no character stands in where either has the code itself.
abbrev pub either_of : LookedUp → LookedUp → LookedUpInTwo
either_of (one.Found e) second = two.Found First e
either_of (one.StoodIn e) (one.Found f) = two.Found Second f
either_of (one.StoodIn e) (one.StoodIn f) = two.StoodIn First e
either_of (one.StoodIn e) one.Nothing = two.StoodIn First e
either_of one.Nothing (one.Found f) = two.Found Second f
either_of one.Nothing (one.StoodIn f) = two.StoodIn Second f
either_of one.Nothing one.Nothing = two.Nothing
