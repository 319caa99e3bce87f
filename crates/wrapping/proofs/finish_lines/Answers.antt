-- `wrapping::finish_lines` meets its contract: by cases of what putting answered.
use mathlib.Core.Path.{sym, ap}
use Rattle.wrapping.specs.Wrapping.{unwrapped}
use Rattle.wrapping.proofs.OrderLaws.{put_as, out_as, wrapped_out, out_small}
use Rattle.wrapping.proofs.finish_lines.Goals as goal

pub returns-in-Put : goal.returns-in-Put
returns-in-Put c =
    λ spans drawn so.
    wrapped_out _ _ _ _ _ _ _ (put_as spans drawn _ _ _ _ _ _ c.in-Put.is so) _ _ _ _ c.fill_from.ensures c.fill_from-in-Put.ensures c.zero_from.ensures

pub returns-in-NoRoom : goal.returns-in-NoRoom
returns-in-NoRoom c =
    λ spans drawn so.
    out_small _ _ _ _ _ _ _ spans (drawn spans) _ (put_as spans drawn _ _ _ _ _ _ c.in-NoRoom.is so)
    (out_as _ _ _ _ _ _ _ _ _ (ap unwrapped (sym c.of.ensures)) c.refuse.ensures)
