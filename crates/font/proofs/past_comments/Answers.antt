-- `font::past_comments` meets its contract.
use Rattle.font.proofs.OpenLaws.{comments_missing, comments_passed}
use Rattle.font.proofs.past_comments.Goals as goal

pub returns-then-skipped-gt0 : goal.returns-then-skipped-gt0
returns-then-skipped-gt0 c = comments_missing _ _ _ _ c.skip-skipped.ensures c.if-skipped-gt0.true

pub returns : goal.returns
returns c = comments_passed _ _ _ _ c.skip-skipped.ensures c.if-skipped-gt0.false
