-- A header line by places, as the code looks at it.
-- Assumes nothing.
use mathlib.Core.Path.{◌≡◌, sym, ap, ◌∙◌}
use mathlib.Core.Bool.{true, false, cond}
use mathlib.Core.List.{List}
use Prim.Native.Nat.{ℕ, ◌≤◌, ◌<◌, ◌-◌}
use lib.IntN.{ℤ}
use lib.ListN.{length, drop, get_or, take, drop_of_length-le}
use lib.Seq.{drop-cons}
use Rattle.ground.specs.Runs.{begins}
use Rattle.ground.specs.Refusals.{no_signature, bad_hardblank, bad_parameters}
use Rattle.ground.proofs.Runs.{rest-is}
use Rattle.subchars.specs.declared.SubCharacter.{SubCharacter}
use Rattle.lines.specs.Words.{is_blank}
use Rattle.std.specs.Prelude.{Result}
use Rattle.ground.specs.declared.refusals.Refusal.{Refusal}
use Rattle.header.specs.declared.Header.{Header}
use Rattle.subchars.specs.Hardblank.{legal_hardblank}
use Rattle.header.specs.Header.{parameter_numbers, refused, header_of, after_hardblank, after_signature, font_signature, read_header}

abbrev sub_character_of : ℕ → SubCharacter
sub_character_of h = record { 0 = h }

-- By places, as the code looks at the line.
module _ (t : List ℕ) where
  pub no_signature_lem : begins font_signature t ≡ false → refused no_signature ≡ read_header t
  unfolding read_header
  no_signature_lem e = simp e

  module _ (e : begins font_signature t ≡ true) where
    pub signed : read_header t ≡ after_signature (drop 5 t)
    unfolding read_header
    signed = simp e

    pub no_hardblank : length t ≤ 5 → refused bad_hardblank ≡ read_header t
    unfolding after_signature
    no_hardblank h = sym (signed ∙ ap after_signature (drop_of_length-le t h))

    at-hardblank : 5 < length t → read_header t ≡ cond (legal_hardblank (get_or t 5 0)) (after_hardblank (sub_character_of (get_or t 5 0)) (drop 6 t)) (refused bad_hardblank)
    unfolding after_signature
    at-hardblank h = signed ∙ ap after_signature (drop-cons t 5 0 h)

    pub not_hardblank : 5 < length t → legal_hardblank (get_or t 5 0) ≡ false → refused bad_hardblank ≡ read_header t
    not_hardblank h b = sym (at-hardblank h ∙ simp b)

    module _ (h : 5 < length t) (b : legal_hardblank (get_or t 5 0) ≡ true) where
      after : read_header t ≡ after_hardblank (sub_character_of (get_or t 5 0)) (drop 6 t)
      after = at-hardblank h ∙ simp b

      pub no_blank : length t ≤ 6 → refused bad_parameters ≡ read_header t
      unfolding after_hardblank
      no_blank k = sym (after ∙ ap (after_hardblank (sub_character_of (get_or t 5 0))) (drop_of_length-le t k))

      at-blank : 6 < length t → read_header t ≡ cond (is_blank (get_or t 6 0)) (header_of (sub_character_of (get_or t 5 0)) (parameter_numbers (drop 7 t))) (refused bad_parameters)
      unfolding after_hardblank
      at-blank k = after ∙ ap (after_hardblank (sub_character_of (get_or t 5 0))) (drop-cons t 6 0 k)

      pub not_blank_lem : 6 < length t → is_blank (get_or t 6 0) ≡ false → refused bad_parameters ≡ read_header t
      not_blank_lem k f = sym (at-blank k ∙ simp f)

      pub numbered : (zs : List ℤ) (r : Result Header Refusal) → 6 < length t → is_blank (get_or t 6 0) ≡ true → zs ≡ parameter_numbers (take (length t - 7) (drop 7 t)) →
          r ≡ header_of (sub_character_of (get_or t 5 0)) zs → r ≡ read_header t
      numbered zs r k f p q = q ∙ ap (header_of (sub_character_of (get_or t 5 0))) (p ∙ ap parameter_numbers (rest-is t 7)) ∙ sym (at-blank k ∙ simp f)
