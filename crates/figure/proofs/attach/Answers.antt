-- `figure::attach` meets its contract, in either direction.
use mathlib.Core.Path.{◌∙◌, sym, ap}
use Prim.Native.Nat.{ℕ, ◌≤◌, ◌-◌, ◌+◌, min}
use native.Mathlib.Omega.{arith}
use Rattle.ground.specs.Limits.{max_line_width}
use Rattle.blocks.specs.Block.{Block}
use Rattle.showing.specs.Scratch.{scratch_line}
use Rattle.laying.specs.Laying.{character_at}
use Rattle.figure.proofs.Turning.{over_le, attached-wide, lay_fits, face_fits, stop-fits, sides, all_meet, holds}
use Rattle.figure.proofs.attach.Goals.{After-over-o}
use Rattle.figure.proofs.attach.Goals as goal

abbrev line_of : After-over-o → Block
line_of s = scratch_line s.args.mode.direction s.args.n s.args.area.now

abbrev chr-of : After-over-o → Block
chr-of s = character_at s.args.s.now s.args.starts.now s.args.m

low : (p : After-over-o) → p.over-o.result ≤ min p.args.n p.args.m
low p = omega (arith, p.over-o.ensures, over_le p.args.mode p.args.h p.args.mode.direction (line_of p) (chr-of p))

pub overflow_sub-w : goal.overflow_sub-w
overflow_sub-w c = omega (arith, low (goal.at.overflow_sub-w c).After-over-o)

pub returns-then-limit-w-clause-holds_line : goal.returns-then-limit-w-clause-holds_line
returns-then-limit-w-clause-holds_line c =
    let s = (goal.at.returns-then-limit-w-clause-holds_line c).After-over-o in record {
      width = ap (λ (v : ℕ). s.args.n + s.args.m - v) c.over-o.ensures ∙ sym (attached-wide s.args.mode s.args.h (line_of s) (chr-of s));
      cells = λ u. absurd (omega arith);
    }

pub overflow_sub-n : goal.overflow_sub-n
overflow_sub-n c = omega (arith, low (goal.at.overflow_sub-n c).After-over-o)

pub overflow_sub-m : goal.overflow_sub-m
overflow_sub-m c = omega (arith, low (goal.at.overflow_sub-m c).After-over-o)

-- the line is not too wide, and the overlap is at most either width
within : (p : After-over-o) → p.args.n + p.args.m - p.over-o.result ≤ p.args.limit → (p.over-o.result ≤ p.args.n) × (p.over-o.result ≤ p.args.m) × (p.args.n + p.args.m - p.over-o.result ≤ max_line_width)
within p u = let l = low p in (omega arith, omega arith, omega (arith, p.requires.h_le_max_height.2))

pub lay-requires-clause-h_le_max_height : goal.lay-requires-clause-h_le_max_height
lay-requires-clause-h_le_max_height c =
    let s = (goal.at.lay-requires-clause-h_le_max_height c).After-over-o in
    let a = s.args in
    let d = a.mode.direction in
    let o = c.over-o.result in
    let w = within s c.if-limit-w.false in
    (s.requires.h_le_max_height.0, face_fits d a.m o _ w.1 c.on_left-p.ensures, lay_fits d a.n a.m o _ w.0 w.1 w.2 c.on_left-at.ensures, s.requires.h_le_max_height.4)

pub lay-requires-clause-o_bound : goal.lay-requires-clause-o_bound
lay-requires-clause-o_bound c =
    let s = (goal.at.lay-requires-clause-o_bound c).After-over-o in
    let a = s.args in
    let w = within s c.if-limit-w.false in
    stop-fits a.n a.m c.over-o.result _ _ _ w.0 w.1 w.2 a.mode.direction c.on_left-at.ensures c.on_left-q.ensures c.on_left-stop.ensures

pub lay-requires-clause-parted : goal.lay-requires-clause-parted
lay-requires-clause-parted c =
    let s = (goal.at.lay-requires-clause-parted c).After-over-o in
    let a = s.args in
    let w = within s c.if-limit-w.false in
    sides a.n a.m c.over-o.result _ _ _ w.0 w.1 w.2 a.mode.direction _ c.on_left-at.ensures c.on_left-p.ensures c.on_left-q.ensures c.on_left-stop.ensures

pub lay-requires-clause-meeting_rows : goal.lay-requires-clause-meeting_rows
lay-requires-clause-meeting_rows c =
    let s = (goal.at.lay-requires-clause-meeting_rows c).After-over-o in
    let a = s.args in
    let w = within s c.if-limit-w.false in
    all_meet a.mode a.h a.n a.m c.over-o.result a.s.now a.starts.now a.area.now w.0 w.1 w.2 _ _ c.over-o.ensures c.on_left-at.ensures c.on_left-p.ensures

pub returns-clause-holds_line : goal.returns-clause-holds_line
returns-clause-holds_line c =
    let s = (goal.at.returns-clause-holds_line c).After-over-o in
    let a = s.args in
    let w = within s c.if-limit-w.false in
    holds a.mode a.h a.n a.m c.over-o.result _ a.s.now a.starts.now a.area.now c.lay.new.area w.0 w.1 w.2 a.limit c.over-o.ensures _ _ c.on_left-at.ensures c.on_left-p.ensures c.on_left-stop.ensures c.lay.ensures
