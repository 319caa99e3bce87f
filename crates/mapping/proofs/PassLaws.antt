-- A code past one command after another, as four lists hold them.
-- Assumes nothing.
use mathlib.Core.Path.{◌≡◌, sym, ap, ◌∙◌, subst}
use mathlib.Core.Bool.{true, false}
use mathlib.Core.List.{List, [], ◌∷◌, map}
use Prim.Native.Nat.{ℕ, zero, suc, ◌+◌, ◌≤◌, ◌<◌}
use native.Mathlib.Omega.{arith}
use native.Mathlib.Numerals.{add-one}
use lib.IntN.{ℤ, pos}
use lib.ListN.{length, take, drop, get_or, length-take, length-map, drop_of_length-le, get_or-map}
use lib.Seq.{drop-cons, get_or-take}
use borrow.Author.Tests.{le-leb, lt-leb}
use Rattle.subchars.specs.declared.Code.{Code}
use Rattle.flc.specs.declared.Command.{Command}
use Rattle.mapping.specs.declared.Passing.{Passing}
use Rattle.flc.specs.Control.{command_of}
use Rattle.flc.specs.Lists.{stage_of, first_code_of, last_code_of, new_of}
use Rattle.mapping.specs.Mapping.{in_range, fits, new_code}
use Rattle.mapping.specs.Passing.{AllSound, SoundCommand, more, pass_all, pass_command, passing}
use Rattle.flc.specs.Filling.{HoldsCommands}

-- One command.
module _ (c : Command) (p : Passing) where
  pub pass_closed : c.stage < p.lowest → p ≡ pass_command c p
  unfolding pass_command
  pass_closed h = sym (simp (lt-leb p.lowest c.stage h))

  module _ (h : p.lowest ≤ c.stage) where
    pub pass_acts : in_range c.first c.last p.code ≡ true → passing (c.stage + 1) (new_code c p.code) ≡ pass_command c p
    unfolding pass_command fits
    pass_acts e = sym (simp (le-leb p.lowest c.stage h, e))

    pub pass_not : in_range c.first c.last p.code ≡ false → p ≡ pass_command c p
    unfolding pass_command fits
    pass_not e = sym (simp (le-leb p.lowest c.stage h, e))

pub fits_of : (c : Command) (z : Code) → in_range c.first c.last z ≡ true → fits c z ≡ true
unfolding fits
fits_of c z e = e

-- The command at a place of the lists.
abbrev pub command_at : List ℕ → List ℤ → List ℤ → List ℤ → ℕ → Command
command_at ss fs ls ns i =
    command_of (get_or ss i 0) (record { 0 = get_or fs i (pos 0) }) (record { 0 = get_or ls i (pos 0) }) (record { 0 = get_or ns i (pos 0) })

pub command_same : (s s' : ℕ) (a a' b b' c c' : ℤ) → s ≡ s' → a ≡ a' → b ≡ b' → c ≡ c' → command_of s (record { 0 = a }) (record { 0 = b }) (record { 0 = c }) ≡ command_of s' (record { 0 = a' }) (record { 0 = b' }) (record { 0 = c' })
command_same s s' a a' b b' c c' e f g k = rw (e, f, g, k)

-- the command that stands where there is none
abbrev no_command : Command
no_command = command_of 0 (record { 0 = pos 0 }) (record { 0 = pos 0 }) (record { 0 = pos 0 })

part_at : {A : Type 0} (part : Command → A) (l : List A) (n : ℕ) (cs : List Command) (i : ℕ) → i < n → take n l ≡ map part cs → get_or l i (part no_command) ≡ part (get_or cs i no_command)
part_at part l n cs i h p = sym (get_or-take n l i (part no_command) h) ∙ ap (λ (x : List _). get_or x i (part no_command)) p ∙ get_or-map part cs i no_command

part-long : {A : Type 0} (part : Command → A) (l : List A) (n : ℕ) (cs : List Command) → n ≡ length cs → take n l ≡ map part cs → n ≤ length l
part-long part l n cs e p = omega (arith, length-take n l, ap length p, length-map cs part)

module _ (cs : List Command) (n : ℕ) (ss : List ℕ) (fs ls ns : List ℤ) (h : HoldsCommands cs n ss fs ls ns) where
  pub long-stages : n ≤ length ss
  long-stages = part-long stage_of ss n cs h.count h.stages_are

  pub long-firsts : n ≤ length fs
  long-firsts = part-long first_code_of fs n cs h.count h.firsts_are

  pub long-lasts : n ≤ length ls
  long-lasts = part-long last_code_of ls n cs h.count h.lasts_are

  pub long-news : n ≤ length ns
  long-news = part-long new_of ns n cs h.count h.news_are

  module _ (i : ℕ) (l : i < n) where
    at_place : command_at ss fs ls ns i ≡ get_or cs i no_command
    at_place =
        let x = get_or cs i no_command in
        let a = part_at stage_of ss n cs i l h.stages_are in
        let b = part_at first_code_of fs n cs i l h.firsts_are in
        let c = part_at last_code_of ls n cs i l h.lasts_are in
        let d = part_at new_of ns n cs i l h.news_are in
        command_same (get_or ss i 0) (stage_of x) (get_or fs i (pos 0)) (first_code_of x) (get_or ls i (pos 0)) (last_code_of x) (get_or ns i (pos 0)) (new_of x) a b c d

    pub rest_at : drop i cs ≡ command_at ss fs ls ns i ∷ drop (i + 1) cs
    rest_at =
        drop-cons cs i no_command (omega (arith, h.count)) ∙ ap (λ (c : Command). c ∷ drop (suc i) cs) (sym at_place) ∙
        ap (λ (k : ℕ). command_at ss fs ls ns i ∷ drop k cs) (sym (add-one i))

    -- one command more
    pub pass_more : (p q : Passing) → p ≡ pass_all (drop i cs) q → p ≡ pass_all (drop (i + 1) cs) (pass_command (command_at ss fs ls ns i) q)
    unfolding pass_all
    pass_more p q e = e ∙ ap (λ (x : List Command). pass_all x q) rest_at

    pub sound-at : AllSound cs → SoundCommand (command_at ss fs ls ns i)
    sound-at a = go (command_at ss fs ls ns i) (drop (i + 1) cs) (subst AllSound rest_at (sound-drop cs i a))
      where
        go : (c : Command) (ds : List Command) → AllSound (c ∷ ds) → SoundCommand c
        go c ds (more x y) = x

        sound-drop : (ds : List Command) (k : ℕ) → AllSound ds → AllSound (drop k ds)
        sound-drop ds zero a = a
        sound-drop [] (suc k) a = a
        sound-drop (c ∷ ds) (suc k) (more x y) = sound-drop ds k y

  pub pass_end : (i : ℕ) (p q : Passing) → n ≤ i → p ≡ pass_all (drop i cs) q → p ≡ q
  unfolding pass_all
  pass_end i p q l e =
      let k : length cs ≤ i = omega (arith, h.count) in
      e ∙ ap (λ (x : List Command). pass_all x q) (drop_of_length-le cs k)
