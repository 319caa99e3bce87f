-- `reader::read_lists` meets its contract: the font is opened, and its characters are read from there on.
use Rattle.std.proofs.lemmas.Result.{err_from_is_err_and}
use Rattle.reader.proofs.ReadLaws.{opened, closed}
use Rattle.reader.proofs.read_lists.Goals as goal

pub returns-in_err-opening : goal.returns-in_err-opening
returns-in_err-opening c =
    let p = err_from_is_err_and c.from_residual.result c.from_residual.ensures.1 in
    rw (p.1, p.2) (closed _ _ _ _ _ c.in_err-opening.ensures)

pub returns : goal.returns
returns c = opened _ _ _ _ c.in_ok-opening.opening _ c.in_ok-opening.ensures c.read_characters.ensures
