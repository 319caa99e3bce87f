-- "With a font's own" layout and direction drawing from a pack "equals drawing from that font".
-- Assumes nothing.
use mathlib.Core.Path.{◌≡◌, refl, sym, ap, ap₂, ◌∙◌}
use mathlib.Core.Bool.{Bool, true, false, cond, true≢false}
use mathlib.Core.List.{List, [], ◌∷◌}
use Prim.Native.Nat.{ℕ, zero, suc, ◌+◌, ◌%◌, ◌<◌, ◌≤◌}
use native.Mathlib.Omega.{arith}
use lib.Dec.{eqb, leb, ltb}
use lib.IntN.{ℤ, pos, negsuc}
use borrow.Author.Tests.{le-leb}
use Rattle.ground.specs.Limits.{min_scratch, max_rules}
use Rattle.ground.specs.Refusals.{refusal, area_too_small}
use Rattle.subchars.specs.declared.Code.{Code}
use Rattle.ground.proofs.Tests.{and_both}
use Rattle.subchars.specs.declared.Mode.{Mode}
use Rattle.subchars.specs.declared.Smushing.TheVariants.{Universal, Controlled}
use Rattle.subchars.specs.declared.Layout.TheVariants.{FullWidth, Fitting, Smushing}
use Rattle.subchars.specs.Layouts.{old_layout_of, smushing_by, has, full_layout_of}
use Rattle.blocks.specs.Block.{Block}
use Rattle.join.specs.Shape.{good_kind, good_layout}
use Rattle.blocks.specs.Writing.{Like}
use Rattle.blocks.proofs.Likeness.{like-same}
use Rattle.figure.specs.Line.{empty, line_from}
use Rattle.figure.proofs.Folding.{attached-like}
use Rattle.showing.proofs.Showing.{output-like, bytes-like}
use Rattle.header.specs.declared.Header.{Header}
use Rattle.header.specs.Header.{layout_of}
use Rattle.chars.specs.declared.Entry.{Entry}
use Rattle.chars.specs.Codes.{code}
use Rattle.font.specs.Font as font
use Rattle.font.proofs.ReadingLaws.{font_numbered}
use Rattle.std.specs.Prelude.{Option, Some, None}
use Rattle.reader.specs.Reader.{last_of, which_of, looked_up}
use Rattle.flc.specs.Control as flc
use Rattle.records.specs.declared.Head.{Head}
use Rattle.records.specs.Letters.{Letter, letter, no_letter}
use Rattle.heads.specs.Pack.{says, meaning}
use Rattle.source.specs.Source.{Choice, found, stood_in, nothing, Source, choice_of, font_source, pack_letter, of_letters, pack_source}
use Rattle.source.specs.Counting.{is_stood_in, is_nothing, one, how_many, counts_of}
use Rattle.drawing.specs.Drawing.{characters_of, with_choice, line_of, direction_of, mode_of, TextReading, draws, refuses, read_text, Lined, unlined, lined_read, lined_from, lined_of, draw_lined, with_counts, lined_answer, bytes_of}
use Rattle.drawing.proofs.OutputLaws.{font_lined}
use Rattle.packdrawing.specs.PackDrawing.{pack_mode, pack_of, pack_lined, SameLetter, MadeOf}
use Rattle.packdrawing.proofs.PackCases.{of_good_layout}

-- Two sources that choose alike for every code: the same of three, and characters that agree where they have cells.
abbrev Alike : ℕ → Choice → Choice → Type 0
Alike h (found a) (found b) = Like h a b
Alike h (found a) (stood_in b) = ⊥
Alike h (found a) nothing = ⊥
Alike h (stood_in a) (found b) = ⊥
Alike h (stood_in a) (stood_in b) = Like h a b
Alike h (stood_in a) nothing = ⊥
Alike h nothing (found b) = ⊥
Alike h nothing (stood_in b) = ⊥
Alike h nothing nothing = Unit

module _ (y : Mode) (h : ℕ) (a b : Source) (alike : (c : Code) → Alike h (a c) (b c)) where
  -- they draw alike
  lines_like : (l m : Block) (cs : List Code) → Like h l m → Like h (line_from y h l (characters_of a cs)) (line_from y h m (characters_of b cs))
  unfolding characters_of line_from
  lines_like l m [] p = p
  lines_like l m (c ∷ cs) p = go (a c) (b c) (alike c) (λ d e q. lines_like d e cs q)
    where
      go : (u v : Choice) → Alike h u v → ((d e : Block) → Like h d e → Like h (line_from y h d (characters_of a cs)) (line_from y h e (characters_of b cs))) → Like h (line_from y h l (with_choice u (characters_of a cs))) (line_from y h m (with_choice v (characters_of b cs)))
      go (found d) (found e) q rest = rest _ _ (attached-like y h l m d e p q)
      go (found d) (stood_in e) q rest = absurd q
      go (found d) nothing q rest = absurd q
      go (stood_in d) (found e) q rest = absurd q
      go (stood_in d) (stood_in e) q rest = rest _ _ (attached-like y h l m d e p q)
      go (stood_in d) nothing q rest = absurd q
      go nothing (found e) q rest = absurd q
      go nothing (stood_in e) q rest = absurd q
      go nothing nothing q rest = rest l m p

  line-like : (cs : List Code) → Like h (line_of y h a cs) (line_of y h b cs)
  unfolding line_of
  line-like cs = lines_like empty empty cs (like-same h empty)

  -- and count alike
  stood_alike : (u v : Choice) → Alike h u v → is_stood_in u ≡ is_stood_in v
  stood_alike (found d) (found e) q = refl
  stood_alike (found d) (stood_in e) q = absurd q
  stood_alike (found d) nothing q = refl
  stood_alike (stood_in d) (found e) q = absurd q
  stood_alike (stood_in d) (stood_in e) q = refl
  stood_alike (stood_in d) nothing q = absurd q
  stood_alike nothing (found e) q = refl
  stood_alike nothing (stood_in e) q = absurd q
  stood_alike nothing nothing q = refl

  nothing-alike : (u v : Choice) → Alike h u v → is_nothing u ≡ is_nothing v
  nothing-alike (found d) (found e) q = refl
  nothing-alike (found d) (stood_in e) q = refl
  nothing-alike (found d) nothing q = absurd q
  nothing-alike (stood_in d) (found e) q = refl
  nothing-alike (stood_in d) (stood_in e) q = refl
  nothing-alike (stood_in d) nothing q = absurd q
  nothing-alike nothing (found e) q = absurd q
  nothing-alike nothing (stood_in e) q = absurd q
  nothing-alike nothing nothing q = refl

  many-alike : (group : Choice → Bool) → ((u v : Choice) → Alike h u v → group u ≡ group v) → (cs : List Code) → how_many group a cs ≡ how_many group b cs
  unfolding how_many
  many-alike group same [] = refl
  many-alike group same (c ∷ cs) = ap₂ (λ (x : Bool) (k : ℕ). one x + k) (same (a c) (b c) (alike c)) (many-alike group same cs)

  counts-alike : (cs : List Code) → counts_of a cs ≡ counts_of b cs
  unfolding counts_of
  counts-alike cs = λ i. record { stood_in = many-alike is_stood_in stood_alike cs i; nothing_drawn = many-alike is_nothing nothing-alike cs i }

  -- so every control file and text come to the same answer and the same bytes
  pub same-lined : (control : flc.ControlReading) (text : List ℕ) (room : ℕ) → (lined_answer (lined_from y h a control text) room ≡ lined_answer (lined_from y h b control text) room) × (bytes_of (lined_from y h a control text) room ≡ bytes_of (lined_from y h b control text) room)
  unfolding lined_answer bytes_of
  same-lined control text room = go (read_text control text)
    where
      go : (x : TextReading) → (lined_answer (lined_read y h a x) room ≡ lined_answer (lined_read y h b x) room) × (bytes_of (lined_read y h a x) room ≡ bytes_of (lined_read y h b x) room)
      go (draws cs) = (ap₂ with_counts (counts-alike cs) (output-like h _ _ (line-like cs) room), bytes-like h _ _ (line-like cs) y.hardblank.0 room)
      go (refuses r) = (refl, refl)

-- Every layout that the numbers of a header give is one that a join may take.
old_good : (old : ℤ) → good_layout (old_layout_of old) ≡ true
old_good (negsuc zero) = refl
old_good (negsuc (suc n)) = refl
old_good (pos zero) = refl
old_good (pos (suc n)) = go (leb (suc n) max_rules) refl
  where
    go : (b : Bool) → leb (suc n) max_rules ≡ b → good_layout (cond b (Smushing (Controlled (suc n))) FullWidth) ≡ true
    go true e = and_both (leb 1 (suc n)) (leb (suc n) max_rules) (le-leb 1 (suc n) (omega arith)) e
    go false e = refl

kind_good : (rules : ℕ) → rules < 64 → good_kind (smushing_by rules) ≡ true
kind_good rules l = go (eqb rules 0) refl
  where
    go : (b : Bool) → eqb rules 0 ≡ b → good_kind (cond b Universal (Controlled rules)) ≡ true
    go true e = refl
    go false e = and_both (leb 1 rules) (leb rules max_rules) (le-leb 1 rules (some rules e)) (le-leb rules max_rules (omega arith))
      where
        some : (k : ℕ) → eqb k 0 ≡ false → 1 ≤ k
        some zero q = absurd (true≢false q)
        some (suc k) q = omega arith

layouts_good : (old : ℤ) (full : Option ℕ) → good_layout (layout_of old full) ≡ true
unfolding full_layout_of
layouts_good old None = old_good old
layouts_good old (Some n) = go (has n 128) (has n 64)
  where
    go : (a b : Bool) → good_layout (cond a (Smushing (smushing_by (n % 64))) (cond b Fitting FullWidth)) ≡ true
    go true b = kind_good (n % 64) (omega arith)
    go false true = refl
    go false false = refl

-- A font, and a pack made of it.
module _ (s : List ℕ) (h : Header) (es : List Entry) (font-said : font.reading s ≡ font.says h es) (t : List ℕ) (f : Head) (rs : List (List ℕ)) (pack-said : meaning t ≡ says f rs) (made : MadeOf s h es f rs) where
  shaped : good_layout h.layout ≡ true
  shaped = let x = font_numbered s h es font-said in ap good_layout x.layout ∙ layouts_good x.old x.full

  choices : (u z : Option Entry) (l k : Letter) → SameLetter s h.height u l → SameLetter s h.height z k → Alike h.height (choice_of s (which_of u z)) (of_letters l k)
  choices (Some e) z (letter w rows) k p q = p
  choices (Some e) z no_letter k p q = absurd p
  choices None z (letter w rows) k p q = absurd p
  choices None (Some e) no_letter (letter w rows) p q = q
  choices None (Some e) no_letter no_letter p q = absurd q
  choices None None no_letter (letter w rows) p q = absurd q
  choices None None no_letter no_letter p q = tt

  alike : (c : Code) → Alike h.height (font_source s es c) (pack_source f rs c)
  unfolding font_source looked_up pack_source
  alike c = choices (last_of c.0 es) (last_of (pos 0) es) (pack_letter f rs c.0) (pack_letter f rs (pos 0)) (made.letters c) (made.letters (code (pos 0)))

  same_mode : pack_mode f h.layout (direction_of h.print_direction) ≡ mode_of h
  unfolding mode_of
  same_mode = λ i. record { layout = h.layout; direction = direction_of h.print_direction; hardblank = made.hardblank i }

  by_pack : (control text : List ℕ) → pack_of t h.layout (direction_of h.print_direction) control text ≡ lined_from (mode_of h) h.height (pack_source f rs) (flc.control control) text
  by_pack control text =
      of_good_layout t h.layout (direction_of h.print_direction) control text f rs pack-said shaped ∙
      ap₂ (λ (y : Mode) (k : ℕ). lined_from y k (pack_source f rs) (flc.control control) text) same_mode made.height

  module _ (scratch : ℕ) (control text : List ℕ) (room : ℕ) where
    abbrev by_font_lem : Lined
    by_font_lem = draw_lined scratch s control text

    abbrev by_pack_lem : Lined
    by_pack_lem = pack_lined scratch t h.layout (direction_of h.print_direction) control text

    pub font_and_pack : (lined_answer by_font_lem room ≡ lined_answer by_pack_lem room) × (bytes_of by_font_lem room ≡ bytes_of by_pack_lem room)
    unfolding draw_lined pack_lined
    font_and_pack = go (ltb scratch min_scratch)
      where
        inner : (lined_answer (lined_of s control text) room ≡ lined_answer (pack_of t h.layout (direction_of h.print_direction) control text) room) × (bytes_of (lined_of s control text) room ≡ bytes_of (pack_of t h.layout (direction_of h.print_direction) control text) room)
        inner =
            let x = same-lined (mode_of h) h.height (font_source s es) (pack_source f rs) alike (flc.control control) text room in
            let e = font_lined s control text h es font-said in
            let d = sym (by_pack control text) in
            (ap (λ (l : Lined). lined_answer l room) e ∙ x.0 ∙ ap (λ (l : Lined). lined_answer l room) d, ap (λ (l : Lined). bytes_of l room) e ∙ x.1 ∙ ap (λ (l : Lined). bytes_of l room) d)

        go : (b : Bool) → (lined_answer (cond b (unlined (refusal area_too_small 0)) (lined_of s control text)) room ≡ lined_answer (cond b (unlined (refusal area_too_small 0)) (pack_of t h.layout (direction_of h.print_direction) control text)) room) × (bytes_of (cond b (unlined (refusal area_too_small 0)) (lined_of s control text)) room ≡ bytes_of (cond b (unlined (refusal area_too_small 0)) (pack_of t h.layout (direction_of h.print_direction) control text)) room)
        go true = (refl, refl)
        go false = inner
