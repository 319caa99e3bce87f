-- `chars::required` meets its contract.
use Rattle.chars.proofs.CodeLaws.{first_codes, last_codes}
use Rattle.chars.proofs.required.Goals as goal

pub returns-then-k-lt-ASCII : goal.returns-then-k-lt-ASCII
returns-then-k-lt-ASCII c = first_codes _ c.if-k-lt-ASCII.true

pub returns : goal.returns
returns c = last_codes _ c.if-k-lt-ASCII.false
