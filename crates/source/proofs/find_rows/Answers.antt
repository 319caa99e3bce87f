use mathlib.Core.Path.{◌≡◌, refl, sym, ap, ◌∙◌, subst}
use Prim.Native.Nat.{ℕ, ◌+◌, ◌<◌}
use native.Mathlib.Omega.{arith}
use lib.ListN.{length, length-set}
use Rattle.lines.specs.Lines.{line_end, next_start, after}
use Rattle.blocks.proofs.Rows.{set_next}
use Rattle.lines.proofs.PlaceLaws.{after_next, end-within, next_within}
use Rattle.source.proofs.find_rows.Goals.{After-next_place-at, In-loop-last}
use Rattle.source.proofs.find_rows.Goals as goal

-- the row's bytes end before their line does, and within the font
marked : (c : In-loop-last) → c.loop-last.at + c.args.width < line_end c.args.font.now c.loop-last.at
marked c =
    let a = c.args in
    let l = c.loop-last in
    subst (λ (k : ℕ). k + a.width < line_end a.font.now k) (sym l.invariant.1) (c.requires.by_index l.last l.invariant.0)

-- the next row has a place
room : (c : After-next_place-at) → c.loop-last.last + 1 < length c.loop-last.rows
room c =
    let a = c.args in
    omega (arith, c.loop-last-test.true, c.loop-last.invariant.2, length-set a.rows.now 0 a.start, c.requires.h_nonzero.1)

pub loop-last-init : goal.loop-last-init
unfolding after
loop-last-init c =
    let a = c.args in
    let p = c.requires.h_nonzero in
    (p.0, refl, refl, set_next (λ i. after i a.font.now a.start) a.rows.now 0 a.start (omega (arith, p.0, p.1)) refl (λ i u. absurd (omega arith)))

pub next_place-at-requires : goal.next_place-at-requires
next_place-at-requires c =
    let a = c.args in
    let m = marked (goal.at.next_place-at-requires c).In-loop-last in
    omega (arith, m, end-within a.font.now c.loop-last.at a.width (omega (arith, m)))

pub loop-last-preserved : goal.loop-last-preserved
loop-last-preserved c =
    let l = c.loop-last in
    let a = c.args in
    let s = a.font.now in
    let p = c.requires.standing in
    let e : l.at + a.width ≡ after l.last s a.start + a.width = ap (λ (k : ℕ). k + a.width) l.invariant.1 in
    let n : c.next_place-at.result ≡ after (l.last + 1) s a.start = c.next_place-at.ensures ∙ ap (next_start s) e ∙ next_within s (after l.last s a.start) a.width (p.ends l.last l.invariant.0) ∙ after_next l.last s a.start in (
      c.loop-last-test.true,
      n,
      length-set l.rows (l.last + 1) c.next_place-at.result ∙ l.invariant.2,
      set_next (λ i. after i s a.start) l.rows (l.last + 1) c.next_place-at.result (room (goal.at.loop-last-preserved c).After-next_place-at) n l.invariant.3,
    )
