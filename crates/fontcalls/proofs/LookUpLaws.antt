-- What the call `look_up` answers, case by case: the font's refusals exactly, and otherwise which of three it was.
-- Assumes nothing.
use mathlib.Core.Path.{◌≡◌, refl, sym, ap, ◌∙◌}
use mathlib.Core.List.{List}
use mathlib.Core.Logic.{◌↔◌}
use Rattle.std.specs.Prelude.{Option, Some, None, Result, Ok, Err}
use Prim.Native.Nat.{ℕ}
use Rattle.ground.specs.declared.refusals.Refusal.{Refusal}
use Rattle.ground.proofs.Tests.{clash}
use Rattle.subchars.specs.declared.Code.{Code}
use Rattle.header.specs.declared.Header.{Header}
use Rattle.chars.specs.declared.Entry.{Entry}
use Rattle.font.specs.Font.{FontReading, says, refuses, reading}
use Rattle.reader.specs.declared.LookedUp.{LookedUp}
use Rattle.reader.specs.declared.LookedUp.TheVariants as three
use Rattle.reader.specs.Reader.{used, looked_up}
use Rattle.reader.proofs.ThreeLaws.{unused_nothing}
use Rattle.request.specs.declared.Sought.{Sought}
use Rattle.request.specs.Request.{in_font, sought}
use Rattle.fontcalls.specs.LookUpCall.{look_up_tells, told_by, look_up_told}
use Rattle.fontcalls.proofs.ToldApart.{look_up_apart}

-- What was sought tells what the look-up answers.
module _ (s : List ℕ) (c : Code) where
  pub by-found : (x : Sought) (u : LookedUp) → ((es : List Entry) → used c es ≡ Some x.entry → u ≡ looked_up c es) → sought c (reading s) ≡ Ok (Some x) → look_up_tells (Ok u) ≡ look_up_told s c
  unfolding sought look_up_told
  by-found x u which p = go (reading s) p
    where
      by : (n : ℕ) (v : Option Entry) → in_font n v ≡ Some x → v ≡ Some x.entry
      by n (Some d) q = let z : record { height = n; entry = d } ≡ x = cc in ap (λ (y : Sought). Some y.entry) z
      by n None q = clash (cc)

      go : (m : FontReading) → sought c m ≡ Ok (Some x) → look_up_tells (Ok u) ≡ told_by c m
      go (says h es) q = let z : in_font h.height (used c es) ≡ Some x = cc in ap (λ (y : LookedUp). look_up_tells (Ok y)) (which es (by h.height (used c es) z))
      go (refuses r) q = clash (cc)

  pub by-none : sought c (reading s) ≡ Ok None → look_up_tells (Ok three.Nothing) ≡ look_up_told s c
  unfolding sought look_up_told
  by-none p = go (reading s) p
    where
      by : (n : ℕ) (v : Option Entry) → in_font n v ≡ None → v ≡ None
      by n (Some d) q = clash (cc)
      by n None q = refl

      go : (m : FontReading) → sought c m ≡ Ok None → look_up_tells (Ok three.Nothing) ≡ told_by c m
      go (says h es) q = let z : in_font h.height (used c es) ≡ None = cc in ap (λ (y : LookedUp). look_up_tells (Ok y)) (sym (unused_nothing c es (by h.height (used c es) z)))
      go (refuses r) q = clash (cc)

  pub by_unread : (r : Refusal) → sought c (reading s) ≡ Err r → look_up_tells (Err r) ≡ look_up_told s c
  unfolding sought look_up_told
  by_unread r p = go (reading s) p
    where
      go : (m : FontReading) → sought c m ≡ Err r → look_up_tells (Err r) ≡ told_by c m
      go (says h es) q = clash (cc)
      go (refuses d) q = let z : r ≡ d = cc in ap (λ (x : Refusal). look_up_tells (Err x)) z

  -- a look-up is refused exactly as the font is
  pub look_up_refused : (q : Refusal) → look_up_told s c ≡ look_up_tells (Err q) ↔ reading s ≡ refuses q
  unfolding look_up_told
  look_up_refused q = (λ e. go (reading s) refl e, λ m. ap (told_by c) m)
    where
      go : (m : FontReading) → reading s ≡ m → told_by c m ≡ look_up_tells (Err q) → reading s ≡ refuses q
      go (says h es) m p = let y = look_up_apart (Ok (looked_up c es)) (Err q) p in clash (cc)
      go (refuses r) m p = let y = look_up_apart (Err r) (Err q) p in let z : r ≡ q = cc in m ∙ ap refuses z

  -- it answers one of three exactly if the font is read and the entries say so
  pub looked_exactly : (u : LookedUp) → look_up_told s c ≡ look_up_tells (Ok u) ↔ ((h : Header) × (es : List Entry) × (reading s ≡ says h es) × (looked_up c es ≡ u))
  unfolding look_up_told
  looked_exactly u = (λ e. go (reading s) refl e, λ x. ap (told_by c) x.2 ∙ ap (λ (v : LookedUp). look_up_tells (Ok v)) x.3)
    where
      go : (m : FontReading) → reading s ≡ m → told_by c m ≡ look_up_tells (Ok u) → (h : Header) × (es : List Entry) × (reading s ≡ says h es) × (looked_up c es ≡ u)
      go (says h es) m p = let y = look_up_apart (Ok (looked_up c es)) (Ok u) p in let z : looked_up c es ≡ u = cc in (h, es, m, z)
      go (refuses r) m p = let y = look_up_apart (Err r) (Ok u) p in clash (cc)
