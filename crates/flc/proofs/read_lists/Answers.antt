-- `flc::read_lists` meets its contract.
use mathlib.Core.List.{List}
use mathlib.Core.Path.{◌≡◌, ap, ◌∙◌, subst}
use Prim.Native.Nat.{ℕ}
use lib.IntN.{ℤ}
use Prim.Native.Nat.{◌≤◌}
use lib.ListN.{length}
use Rattle.ground.specs.Limits.{max_control_file}
use Rattle.flc.specs.Steps.{start_at, control_from}
use Rattle.flc.specs.Control.{ControlReading, refuses, control}
use Rattle.std.specs.Prelude.{Result}
use Rattle.ground.specs.declared.refusals.Refusal.{Refusal}
use Rattle.flc.specs.declared.ControlRead.{ControlRead}
use Rattle.flc.proofs.ListLaws.{listed_as, read-listed, refused-listed, control-long, control_from_lem}
use Rattle.flc.specs.Filling.{Filled}
use Rattle.flc.proofs.read_lists.Goals as goal

-- what the lists hold when they are filled
filled : (s : List ℕ) (from : ℕ) (a r : Result ControlRead Refusal) (ss : List ℕ) (fs ls ns : List ℤ) → length s ≤ max_control_file → from ≡ start_at s → a ≡ r → Filled (control_from s from 0 0) a ss fs ls ns → Filled (control s) r ss fs ls ns
filled s from a r ss fs ls ns h b e f =
    subst (λ (x : Result ControlRead Refusal). Filled (control s) x ss fs ls ns) e
    (subst (λ (x : ControlReading). Filled x a ss fs ls ns) (control_from_lem s h from b) f)

pub returns-then-s-gt-MAX_CONTROL_FILE : goal.returns-then-s-gt-MAX_CONTROL_FILE
returns-then-s-gt-MAX_CONTROL_FILE c = listed_as _ _ _ _ _ (ap refuses c.of.ensures ∙ control-long c.args.s.now c.if-s-gt-MAX_CONTROL_FILE.true) c.refuse.ensures

pub returns-in-Ok : goal.returns-in-Ok
returns-in-Ok c =
    let s = c.args.s.now in
    let k = c.fill.auto in
    let l = c.fill.new in
    read-listed (control s) _ _ _ _ l.stages l.firsts l.lasts l.news k.stages k.firsts k.lasts k.news _ _ _ _ _
    (filled s _ _ _ l.stages l.firsts l.lasts l.news c.if-s-gt-MAX_CONTROL_FILE.false c.start_at.ensures c.in-Ok.is c.fill.ensures)
    c.zero_lists.ensures

pub returns-in-Err : goal.returns-in-Err
returns-in-Err c =
    let s = c.args.s.now in
    let k = c.fill.auto in
    let l = c.fill.new in
    refused-listed (control s) _ _ _ _ l.stages l.firsts l.lasts l.news k.stages k.firsts k.lasts k.news _ _ _
    (filled s _ _ _ l.stages l.firsts l.lasts l.news c.if-s-gt-MAX_CONTROL_FILE.false c.start_at.ensures c.in-Err.is c.fill.ensures)
    c.refuse-in-Err.ensures
