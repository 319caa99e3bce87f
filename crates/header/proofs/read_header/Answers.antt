-- `header::read_header` meets its contract: one law for each way to return.
use mathlib.Core.Path.{refl, sym, ap, ◌∙◌}
use Rattle.std.specs.Prelude.{Err}
use Rattle.lines.proofs.WordLaws.{begins_is}
use Rattle.header.specs.Header.{font_signature}
use Rattle.header.proofs.LineLaws.{no_signature_lem, no_hardblank, not_hardblank, no_blank, not_blank_lem, numbered}
use Rattle.header.proofs.read_header.Goals.{then-t-le-HARDBLANK-via-then-t-le-HARDBLANK, then-t-le-HARDBLANK-via-else-t-le-HARDBLANK+then-not-legal_hardblank, then-t-le-BLANK-via-then-t-le-BLANK, then-t-le-BLANK-via-else-t-le-BLANK+then-not-is_blank}
use Rattle.header.proofs.read_header.Goals as goal

pub returns-then-not-starts_with : goal.returns-then-not-starts_with
returns-then-not-starts_with c =
    let t = c.args.t.now in
    ap Err c.of.ensures ∙ no_signature_lem t (sym (begins_is font_signature t) ∙ sym c.starts_with.ensures.value ∙ c.if-not-starts_with.true)

pub returns-then-t-le-HARDBLANK : goal.returns-then-t-le-HARDBLANK
returns-then-t-le-HARDBLANK c =
    let t = c.args.t.now in
    let s = sym (begins_is font_signature t) ∙ sym c.starts_with.ensures.value ∙ c.if-not-starts_with.false in
    ap Err c.of-then-t-le-HARDBLANK.ensures ∙
    elim c.then-t-le-HARDBLANK.branch [
      | then-t-le-HARDBLANK-via-then-t-le-HARDBLANK w ↦ no_hardblank t s w.if-t-le-HARDBLANK.true
      | then-t-le-HARDBLANK-via-else-t-le-HARDBLANK+then-not-legal_hardblank w ↦
          not_hardblank t s w.if-t-le-HARDBLANK.false (sym w.legal_hardblank.ensures ∙ w.if-not-legal_hardblank.true)
    ]

pub returns-then-t-le-BLANK : goal.returns-then-t-le-BLANK
returns-then-t-le-BLANK c =
    let t = c.args.t.now in
    let s = sym (begins_is font_signature t) ∙ sym c.starts_with.ensures.value ∙ c.if-not-starts_with.false in
    let h = sym c.legal_hardblank.ensures ∙ c.if-not-legal_hardblank.false in
    ap Err c.of-then-t-le-BLANK.ensures ∙
    elim c.then-t-le-BLANK.branch [
      | then-t-le-BLANK-via-then-t-le-BLANK w ↦ no_blank t s c.if-t-le-HARDBLANK.false h w.if-t-le-BLANK.true
      | then-t-le-BLANK-via-else-t-le-BLANK+then-not-is_blank w ↦
          not_blank_lem t s c.if-t-le-HARDBLANK.false h w.if-t-le-BLANK.false (sym w.is_blank.ensures ∙ w.if-not-is_blank.true)
    ]

pub returns : goal.returns
returns c =
    let t = c.args.t.now in
    let s = sym (begins_is font_signature t) ∙ sym c.starts_with.ensures.value ∙ c.if-not-starts_with.false in
    numbered t s c.if-t-le-HARDBLANK.false (sym c.legal_hardblank.ensures ∙ c.if-not-legal_hardblank.false) _ _ c.if-t-le-BLANK.false
    (sym c.is_blank.ensures ∙ c.if-not-is_blank.false) refl c.header_of.ensures
