-- `chars::tagged_at` meets its contract.
use mathlib.Core.Path.{sym}
use Rattle.std.proofs.Common.{rules}
use Rattle.std.proofs.lemmas.Result.{err_from_is_err_and}
use Rattle.chars.proofs.ListingLaws.{tagged_complete, tagged-listed, tagged-many, tagged-stopped}
use Rattle.chars.proofs.tagged_at.Goals as goal

pub returns-then-rest_is_blank : goal.returns-then-rest_is_blank
returns-then-rest_is_blank c = tagged_complete _ _ _ _ (sym c.if-rest_is_blank.ensures)

pub returns-in_err-tag : goal.returns-in_err-tag
returns-in_err-tag c =
    let p = err_from_is_err_and c.from_residual.result c.from_residual.ensures.1 in
    rw (p.1, p.2) (tagged-stopped _ _ _ _ (sym c.if-rest_is_blank.ensures) _ c.tag_at.ensures _ (search rules))

pub returns-then-n-lt-MAX_CHARACTERS : goal.returns-then-n-lt-MAX_CHARACTERS
returns-then-n-lt-MAX_CHARACTERS c = tagged-listed _ _ _ _ (sym c.if-rest_is_blank.ensures) _ c.tag_at.ensures _ c.in_ok-tag.tag (search rules) c.if-n-lt-MAX_CHARACTERS.true c.listed_at.ensures

pub returns : goal.returns
returns c = tagged-many _ _ _ _ (sym c.if-rest_is_blank.ensures) _ c.tag_at.ensures c.in_ok-tag.tag (search rules) c.if-n-lt-MAX_CHARACTERS.false
