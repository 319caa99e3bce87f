-- `records::test_records` meets its contract.
use mathlib.Core.Path.{sym, ◌∙◌}
use lib.ListN.{drop}
use Rattle.records.specs.Records.{record_list}
use Rattle.records.proofs.WalkLaws.{counted-whole, verdict_broken, verdict-sound, verdict_twice}
use Rattle.records.proofs.test_records.Goals as goal

pub none_twice-requires : goal.none_twice-requires
none_twice-requires c =
    let a = c.args in
    let x = record_list a.head (drop a.from a.s.now) in
    let g = c.in_ok-live in
    let k = counted-whole x g.live g.ensures in
    record { low = c.requires.0; inside = c.requires.1; whole = k.whole }

pub returns-then-none_twice : goal.returns-then-none_twice
returns-then-none_twice c =
    let a = c.args in
    let x = record_list a.head (drop a.from a.s.now) in
    let g = c.in_ok-live in
    let k = counted-whole x g.live g.ensures in
    verdict-sound x g.live k (sym c.none_twice.ensures ∙ c.if-none_twice.true)

pub returns : goal.returns
returns c =
    let a = c.args in
    let x = record_list a.head (drop a.from a.s.now) in
    let g = c.in_ok-live in
    let k = counted-whole x g.live g.ensures in
    verdict_twice x g.live k (sym c.none_twice.ensures ∙ c.if-none_twice.false)

pub returns-in_err-live : goal.returns-in_err-live
returns-in_err-live c =
    let a = c.args in
    c.from_residual.ensures ∙ verdict_broken (record_list a.head (drop a.from a.s.now)) c.in_err-live.ensures
