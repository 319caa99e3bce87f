-- `showing::put_out` meets its contract.
use mathlib.Core.Path.{◌∙◌, ap}
use Prim.Native.Nat.{ℕ, ◌+◌, ◌*◌}
use lib.ListN.{length}
use Rattle.ground.specs.Limits.{max_line_width}
use Rattle.ground.specs.Refusals.{refusal, line_too_wide, area_too_small}
use Rattle.blocks.specs.Block.{Block, rows_of}
use Rattle.blocks.specs.Writing.{from_on}
use Rattle.showing.specs.Output.{with_lf}
use Rattle.showing.specs.Scratch.{scratch_line}
use Rattle.showing.proofs.Showing.{too_wide, no_room, drawn, no_bytes, bytes_of}
use Rattle.showing.proofs.put_out.Goals.{Start}
use Rattle.showing.proofs.put_out.Goals as goal

abbrev line_of : Start → Block
line_of s = scratch_line s.args.mode.direction s.args.w s.args.area.now

abbrev room : Start → ℕ
room s = length s.args.out.now

pub returns-then-w-gt-MAX_LINE_WIDTH : goal.returns-then-w-gt-MAX_LINE_WIDTH
returns-then-w-gt-MAX_LINE_WIDTH c =
    let r = c.refuse.ensures in
    let e = too_wide c.args.mode.hardblank.0 c.args.h (line_of (goal.at.returns-then-w-gt-MAX_LINE_WIDTH c).Start) (room (goal.at.returns-then-w-gt-MAX_LINE_WIDTH c).Start) c.if-w-gt-MAX_LINE_WIDTH.true in
    record { value = r.0 ∙ e; out_after = r.1 ∙ no_bytes c.args.mode.hardblank.0 c.args.h (line_of (goal.at.returns-then-w-gt-MAX_LINE_WIDTH c).Start) (room (goal.at.returns-then-w-gt-MAX_LINE_WIDTH c).Start) (refusal line_too_wide 0) e }

pub returns-then-out-need : goal.returns-then-out-need
returns-then-out-need c =
    let r = c.refuse-then-out-need.ensures in
    let e = no_room c.args.mode.hardblank.0 c.args.h (line_of (goal.at.returns-then-out-need c).Start) (room (goal.at.returns-then-out-need c).Start) c.if-w-gt-MAX_LINE_WIDTH.false c.if-out-need.true in
    record { value = r.0 ∙ e; out_after = r.1 ∙ no_bytes c.args.mode.hardblank.0 c.args.h (line_of (goal.at.returns-then-out-need c).Start) (room (goal.at.returns-then-out-need c).Start) (refusal area_too_small 0) e }

pub returns : goal.returns
returns c =
    let a = c.args in
    let w = c.show_rows in
    let e = drawn a.mode.hardblank.0 a.h (line_of (goal.at.returns c).Start) (room (goal.at.returns c).Start) c.if-w-gt-MAX_LINE_WIDTH.false c.if-out-need.false in
    let f = ap (λ (b : ℕ). rows_of (λ (q : ℕ). with_lf a.mode.hardblank.0 a.w (from_on a.area.now (q * max_line_width + b))) a.h (a.w + 1)) c.line_start.ensures in
    record { value = e; out_after = c.zero_from.ensures ∙ bytes_of a.mode.hardblank.0 a.h (line_of (goal.at.returns c).Start) (room (goal.at.returns c).Start) e w.new.out w.auto.out (w.ensures ∙ f) }
