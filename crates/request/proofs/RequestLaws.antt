-- What a font has for a code and a row request answers, by cases of the code; and that 17 is given exactly when document 01 says so.
-- Assumes nothing.
use mathlib.Core.Path.{◌≡◌, refl, sym, ap, ◌∙◌}
use mathlib.Core.Bool.{Bool, true, false, cond}
use mathlib.Core.List.{List}
use mathlib.Core.Logic.{◌↔◌, ◌⊎◌, inl, inr, ⊎_elim}
use Rattle.std.specs.Prelude.{Option, Some, None, Result, Ok, Err}
use Prim.Native.Nat.{ℕ, ◌+◌, ◌≤◌, ◌<◌}
use native.Mathlib.Omega.{arith}
use lib.Dec.{ltb}
use lib.IntN.{ℤ}
use lib.ListN.{length}
use borrow.Author.Tests.{lt-ltb, le-ltb, ltb-true, ltb-false}
use Rattle.ground.specs.Refusals.{refusal, number_of, too_many_characters, bad_shape}
use Rattle.ground.specs.declared.refusals.Refusal.{Refusal}
use Rattle.ground.proofs.Tests.{clash}
use Rattle.ground.specs.Limits.{max_characters}
use Rattle.subchars.specs.declared.Code.{Code}
use Rattle.lines.specs.Lines.{after}
use Rattle.header.specs.declared.Header.{Header}
use Rattle.chars.specs.declared.Entry.{Entry}
use Rattle.font.specs.Font.{FontReading, says, refuses, reading}
use Rattle.font.proofs.ReadingLaws.{font_refusal}
use Rattle.index.specs.Index.{Lists}
use Rattle.reader.specs.declared.FontRead.{FontRead}
use Rattle.reader.specs.Reader.{entries_of, ReadInto, used}
use Rattle.reader.proofs.ReadLaws.{read-says, unread_refuses}
use Rattle.request.specs.declared.Sought.{Sought}
use Rattle.request.specs.declared.RowPlace.{RowPlace}
use Rattle.request.specs.Request.{in_font, sought, bad_request, row_of_sought, row_request}
use Rattle.request.proofs.RowLaws.{used-stands}

-- A row, by its place and its width.
abbrev pub row_place : ℕ → ℕ → RowPlace
row_place p w = record { place = p; width = w }

-- A code is sought in the lists that were read.
module _ (m : FontReading) (c : Code) (r : Result FontRead Refusal) (codes : List ℤ) (starts widths : List ℕ) (i : ReadInto m r codes starts widths) where
  module _ (x : FontRead) (p : r ≡ Ok x) where
    pub few : x.count ≤ max_characters
    few = omega (arith, (read-says m x (sym p ∙ i.answer)).count, i.lists.few)

    pub seek_read : (u : Option Entry) → ((es : List Entry) → x.count ≡ length es → Lists es codes starts widths → u ≡ used c es) → Ok (in_font x.header.height u) ≡ sought c m
    unfolding sought
    seek_read u f =
        let y = read-says m x (sym p ∙ i.answer) in
        ap (λ (v : Option Entry). Ok (in_font x.header.height v)) (f (entries_of m) y.count i.lists) ∙ sym (ap (sought c) y.is)

  pub seek_unread : (q : Refusal) → r ≡ Err q → Err q ≡ sought c m
  unfolding sought
  seek_unread q p = sym (ap (sought c) (unread_refuses m q (sym p ∙ i.answer)))

module _ (s : List ℕ) (c : Code) (r : ℕ) where
  -- The row request from what is sought.
  by-sought : (x : Result (Option Sought) Refusal) → x ≡ sought c (reading s) → row_of_sought s r x ≡ row_request s c r
  unfolding row_request
  by-sought x p = ap (row_of_sought s r) p

  module _ (x : Sought) (f : Ok (Some x) ≡ sought c (reading s)) where
    pub row-found : r < x.height → (p : ℕ) → p ≡ after r s x.entry.start → Ok (row_place p x.entry.width) ≡ row_request s c r
    row-found h p q =
        ap (λ (j : ℕ). Ok (row_place j x.entry.width)) q ∙
        sym (ap (λ (b : Bool). cond b (Ok (row_place (after r s x.entry.start) x.entry.width)) bad_request) (lt-ltb r x.height h)) ∙ by-sought (Ok (Some x)) f

    pub row-high : x.height ≤ r → bad_request ≡ row_request s c r
    row-high h =
        sym (ap (λ (b : Bool). cond b (Ok (row_place (after r s x.entry.start) x.entry.width)) bad_request) (le-ltb r x.height h)) ∙ by-sought (Ok (Some x)) f

  pub row-missing : Ok None ≡ sought c (reading s) → bad_request ≡ row_request s c r
  row-missing f = by-sought (Ok None) f

  pub row_unread : (q : Refusal) → Err q ≡ sought c (reading s) → Err q ≡ row_request s c r
  row_unread q f = by-sought (Err q) f

  -- 17: "a row number at or above Height, or a code with neither drawing nor stand-in".
  pub data BadRequest : Type 0 where
    high : (h : Header) (es : List Entry) → reading s ≡ says h es → h.height ≤ r → BadRequest
    missing : (h : Header) (es : List Entry) → reading s ≡ says h es → used c es ≡ None → BadRequest

  -- the same in one sentence
  abbrev pub RequestBad : Type 0
  RequestBad = (h : Header) × (es : List Entry) × (reading s ≡ says h es) × ((h.height ≤ r) ⊎ (used c es ≡ None))

  pub request_exactly : BadRequest ↔ RequestBad
  request_exactly = (to, λ w. ⊎_elim (high w.0 w.1 w.2) (missing w.0 w.1 w.2) w.3)
    where
      to : BadRequest → RequestBad
      to (high h es m k) = (h, es, m, inl k)
      to (missing h es m u) = (h, es, m, inr u)

  -- The row of a character of a font that was read.
  pub record Given (p w : ℕ) : Type 0 where
    pub header : Header
    pub entries : List Entry
    pub entry : Entry
    pub said : reading s ≡ says header entries
    pub is-used : used c entries ≡ Some entry
    pub below : r < header.height
    pub place : p ≡ after r s entry.start
    pub width : w ≡ entry.width

  -- What each answer is for.
  data Answer (x : Result RowPlace Refusal) : Type 0 where
    gives : (p w : ℕ) → x ≡ Ok (row_place p w) → Given p w → Answer x
    shape : x ≡ bad_request → BadRequest → Answer x
    of_font : (q : Refusal) → x ≡ Err q → reading s ≡ refuses q → Answer x

  answer : Answer (row_request s c r)
  unfolding row_request sought
  answer = go (reading s) refl
    where
      tall : (h : Header) (es : List Entry) → reading s ≡ says h es → (e : Entry) → used c es ≡ Some e → (b : Bool) → ltb r h.height ≡ b → Answer (cond b (Ok (row_place (after r s e.start) e.width)) bad_request)
      tall h es m e u true b =
          gives (after r s e.start) e.width refl
          (record { header = h; entries = es; entry = e; said = m; is-used = u; below = ltb-true r h.height b; place = refl; width = refl })
      tall h es m e u false b = shape refl (high h es m (ltb-false r h.height b))

      by : (h : Header) (es : List Entry) → reading s ≡ says h es → (u : Option Entry) → used c es ≡ u → Answer (row_of_sought s r (Ok (in_font h.height u)))
      by h es m (Some e) u = tall h es m e u (ltb r h.height) refl
      by h es m None u = shape refl (missing h es m u)

      go : (m : FontReading) → reading s ≡ m → Answer (row_of_sought s r (sought c m))
      go (says h es) m = by h es m (used c es) refl
      go (refuses q) m = of_font q refl m

  -- A row is given exactly for a row number below Height and a code that has a character.
  pub row_only : (p w : ℕ) → row_request s c r ≡ Ok (row_place p w) → Given p w
  row_only p w e = go answer
    where
      go : Answer (row_request s c r) → Given p w
      go (gives a b q g) =
          let k : row_place a b ≡ row_place p w = cc in
          let u : a ≡ p = ap (λ (x : RowPlace). x.place) k in
          let v : b ≡ w = ap (λ (x : RowPlace). x.width) k in
          record { header = g.header; entries = g.entries; entry = g.entry; said = g.said; is-used = g.is-used; below = g.below; place = sym u ∙ g.place; width = sym v ∙ g.width }
      go (shape q b) = clash (cc)
      go (of_font z q m) = clash (cc)

  pub row_if : (p w : ℕ) → Given p w → row_request s c r ≡ Ok (row_place p w)
  unfolding row_request sought
  row_if p w g =
      ap (λ (m : FontReading). row_of_sought s r (sought c m)) g.said ∙
      ap (λ (u : Option Entry). row_of_sought s r (Ok (in_font g.header.height u))) g.is-used ∙
      ap (λ (b : Bool). cond b (Ok (row_place (after r s g.entry.start) g.entry.width)) bad_request) (lt-ltb r g.header.height g.below) ∙
      ap (λ (j : ℕ). Ok (row_place j g.entry.width)) (sym g.place) ∙
      ap (λ (j : ℕ). Ok (row_place p j)) (sym g.width)

  -- It is a part of the font.
  pub row_fits : (p w : ℕ) → row_request s c r ≡ Ok (row_place p w) → p + w ≤ length s
  row_fits p w e =
      let g = row_only p w e in
      let t = used-stands s g.header g.entries g.said g.entry c g.is-used r g.below in
      omega (arith, t.fits, g.place, g.width)

  -- 17, exactly then, at 0
  bad_shape_lem : BadRequest → row_request s c r ≡ bad_request
  unfolding row_request sought
  bad_shape_lem (missing h es m u) = ap (λ (x : FontReading). row_of_sought s r (sought c x)) m ∙ ap (λ (x : Option Entry). row_of_sought s r (Ok (in_font h.height x))) u
  bad_shape_lem (high h es m k) = ap (λ (x : FontReading). row_of_sought s r (sought c x)) m ∙ go (used c es)
    where
      go : (u : Option Entry) → row_of_sought s r (Ok (in_font h.height u)) ≡ bad_request
      go (Some e) = ap (λ (b : Bool). cond b (Ok (row_place (after r s e.start) e.width)) bad_request) (le-ltb r h.height k)
      go None = refl

  pub refused_17 : (p : ℕ) → row_request s c r ≡ Err (refusal bad_shape p) ↔ ((p ≡ 0) × RequestBad)
  refused_17 p = (λ e. to (refusal bad_shape p) refl e answer, λ w. bad_shape_lem (request_exactly.1 w.1) ∙ ap (λ (j : ℕ). Err (refusal bad_shape j)) (sym w.0))
    where
      to : (x : Refusal) → x.reason ≡ bad_shape → row_request s c r ≡ Err x → Answer (row_request s c r) → (x.place ≡ 0) × RequestBad
      to x n e (gives a b q g) = clash (cc)
      to x n e (shape q b) = let k : refusal bad_shape 0 ≡ x = cc in (ap (λ (y : Refusal). y.place) (sym k), request_exactly.0 b)
      to x n e (of_font z q m) =
          let k : z ≡ x = cc in
          absurd (omega (arith, (font_refusal s z m).1, ap number_of (ap (λ (y : Refusal). y.reason) k ∙ n)))

  -- the font's own refusals, exactly those of the font
  pub refused_font : (q : Refusal) → number_of q.reason ≤ number_of too_many_characters → row_request s c r ≡ Err q ↔ reading s ≡ refuses q
  unfolding row_request sought
  refused_font q h = (λ e. to e answer, λ m. ap (λ (x : FontReading). row_of_sought s r (sought c x)) m)
    where
      to : row_request s c r ≡ Err q → Answer (row_request s c r) → reading s ≡ refuses q
      to e (gives a b p g) = clash (cc)
      to e (shape p b) = let k : q ≡ refusal bad_shape 0 = cc in absurd (omega (arith, h, ap (λ (y : Refusal). number_of y.reason) k))
      to e (of_font z p m) = let y : z ≡ q = cc in m ∙ ap refuses y

  -- no refusal has the number 0
  pub refused-some : (q : Refusal) → row_request s c r ≡ Err q → 1 ≤ number_of q.reason
  refused-some q e = go answer
    where
      go : Answer (row_request s c r) → 1 ≤ number_of q.reason
      go (gives a b p g) = clash (cc)
      go (shape p b) = let k : q ≡ refusal bad_shape 0 = cc in omega (arith, ap (λ (y : Refusal). number_of y.reason) k)
      go (of_font z p m) = let k : z ≡ q = cc in omega (arith, (font_refusal s z m).0, ap (λ (y : Refusal). number_of y.reason) k)
