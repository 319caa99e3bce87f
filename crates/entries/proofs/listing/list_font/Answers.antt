-- `entries::listing::list_font` meets its contract: 9, then what the lists say that were read.
use mathlib.Core.Path.{sym, ap, ◌∙◌}
use native.Mathlib.Omega.{arith}
use Rattle.ground.specs.declared.refusals.Refusal.{Refusal}
use Rattle.font.specs.Font.{refuses, reading}
use Rattle.reader.proofs.ReadLaws.{unread_refuses}
use Rattle.entries.specs.Steps.{listed_of}
use Rattle.entries.proofs.FillLaws.{read-listed, no_room, has_room}
use Rattle.entries.proofs.listing.list_font.Goals as goal

pub returns-then-room-lt-MAX_CHARACTERS : goal.returns-then-room-lt-MAX_CHARACTERS
returns-then-room-lt-MAX_CHARACTERS c = c.refuse.ensures ∙ ap (λ (r : Refusal). listed_of (refuses r)) c.of.ensures ∙ ap listed_of (sym (no_room _ _ (omega arith)))

pub returns-in-Ok : goal.returns-in-Ok
returns-in-Ok c =
    let s = c.args.font.now in
    read-listed (reading s) _ _ _ _ c.read_lists.ensures _ _ c.in-Ok.is c.list_entries.ensures ∙
    ap listed_of (sym (has_room s _ (omega arith)))

pub returns-in-Err : goal.returns-in-Err
returns-in-Err c =
    let s = c.args.font.now in
    c.refuse-in-Err.ensures ∙ sym (ap listed_of (has_room s _ (omega arith) ∙ unread_refuses (reading s) _ (sym c.in-Err.is ∙ c.read_lists.ensures.answer)))
