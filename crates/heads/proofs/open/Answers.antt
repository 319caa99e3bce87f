-- `heads::open` meets its contract.
use mathlib.Core.Path.{ap, ◌∙◌}
use Prim.Native.Nat.{ℕ}
use native.Mathlib.Omega.{arith}
use lib.ListN.{drop}
use Rattle.records.specs.Records.{record_list}
use Rattle.records.specs.Steps.{soundness}
use Rattle.heads.proofs.HeadLaws.{headed_read}
use Rattle.heads.proofs.OpenLaws.{opened_sound, opened_broken, opened_none}
use Rattle.heads.proofs.open.Goals as goal

pub test_records-requires : goal.test_records-requires
test_records-requires c = let h = headed_read c.args.s.now c.in_ok-head.head c.in_ok-head.ensures in (h.low, omega (arith, h.inside, c.head_length.ensures))

pub returns : goal.returns
returns c = opened_sound c.args.s.now c.in_ok-head.head c.in_ok-live.live (headed_read c.args.s.now c.in_ok-head.head c.in_ok-head.ensures) (c.in_ok-live.ensures ∙ ap (λ (j : ℕ). soundness (record_list c.in_ok-head.head (drop j c.args.s.now))) c.head_length.ensures)

pub returns-in_err-live : goal.returns-in_err-live
returns-in_err-live c = c.from_residual-in_err-live.ensures ∙ opened_broken c.args.s.now c.in_ok-head.head (headed_read c.args.s.now c.in_ok-head.head c.in_ok-head.ensures) (c.in_err-live.ensures ∙ ap (λ (j : ℕ). soundness (record_list c.in_ok-head.head (drop j c.args.s.now))) c.head_length.ensures)

pub returns-in_err-head : goal.returns-in_err-head
returns-in_err-head c = c.from_residual.ensures ∙ opened_none _ c.in_err-head.ensures
