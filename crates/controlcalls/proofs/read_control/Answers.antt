-- `controlcalls::read_control` meets its contract, for every input: 9, and then what the file says.
use mathlib.Core.Path.{◌≡◌, ap}
use Prim.Native.Nat.{ℕ}
use lib.ListN.{length}
use Rattle.std.proofs.Common.{min}
use native.Mathlib.Omega.{arith}
use Rattle.flc.specs.Control.{refuses}
use Rattle.flc.specs.Lists.{CommandLists, command_lists}
use Rattle.flc.proofs.ListLaws.{listed_as}
use Rattle.controlcalls.specs.ControlCall.{room_of}
use Rattle.controlcalls.proofs.LentLaws.{roomy_is, small_is, listed-read}
use Rattle.controlcalls.proofs.read_control.Goals as goal

-- the room of the lent lists as the code finds it
room-is : (l : CommandLists) (n a b : ℕ) → a ≡ min (length l.stages) (length l.firsts) → b ≡ min a (length l.lasts) → n ≡ min b (length l.news) → n ≡ room_of l
room-is l n a b e f g = omega (arith, e, f, g)

pub returns-then-room-lt-MAX_COMMANDS : goal.returns-then-room-lt-MAX_COMMANDS
returns-then-room-lt-MAX_COMMANDS c =
    let a = c.args in
    let l = command_lists a.stages.now a.firsts.now a.lasts.now a.news.now in
    let r = room-is l _ _ _ c.min.ensures c.min-2.ensures c.min-room.ensures in
    listed-read l a.control.now _ _ _ (small_is l a.control.now (omega (arith, c.if-room-lt-MAX_COMMANDS.true, r))) (listed_as _ _ _ _ _ (ap refuses c.of.ensures) c.refuse.ensures)

pub returns : goal.returns
returns c =
    let a = c.args in
    let l = command_lists a.stages.now a.firsts.now a.lasts.now a.news.now in
    let r = room-is l _ _ _ c.min.ensures c.min-2.ensures c.min-room.ensures in
    listed-read l a.control.now _ _ _ (roomy_is l a.control.now (omega (arith, c.if-room-lt-MAX_COMMANDS.false, r))) c.read_lists.ensures
