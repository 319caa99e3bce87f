-- `request::seek` meets its contract: what is found in the lists that were read.
use mathlib.Core.Path.{sym, ap, ◌∙◌}
use Rattle.std.specs.Prelude.{Option, Ok}
use Rattle.std.proofs.lemmas.Result.{err_from_is_err_and}
use Rattle.chars.specs.declared.Entry.{Entry}
use Rattle.font.specs.Font.{reading}
use Rattle.request.specs.Request.{in_font}
use Rattle.request.proofs.RequestLaws.{seek_read, seek_unread}
use Rattle.request.proofs.seek.Goals as goal

pub returns-in_err-read : goal.returns-in_err-read
returns-in_err-read c =
    let p = err_from_is_err_and c.from_residual.result c.from_residual.ensures.1 in
    rw (p.1, p.2) (seek_unread (reading c.args.font.now) c.args.code _ _ _ _ c.read_lists.ensures _ c.in_err-read.was)

pub returns-in_default : goal.returns-in_default
returns-in_default c =
    sym (ap (λ (u : Option Entry). Ok (in_font c.in_ok-read.read.header.height u)) c.in_default.is) ∙
    seek_read (reading c.args.font.now) c.args.code _ _ _ _ c.read_lists.ensures _ c.in_ok-read.was _ c.find_entry.ensures

pub returns : goal.returns
returns c =
    sym (ap (λ (u : Option Entry). Ok (in_font c.in_ok-read.read.header.height u)) c.in-Some.is) ∙
    seek_read (reading c.args.font.now) c.args.code _ _ _ _ c.read_lists.ensures _ c.in_ok-read.was _ c.find_entry.ensures
