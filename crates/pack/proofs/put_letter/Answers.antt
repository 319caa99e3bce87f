-- `pack::put_letter` meets its contract.
use mathlib.Core.Path.{sym, ap, ◌∙◌, subst}
use native.Mathlib.Omega.{arith}
use mathlib.Core.List.{List}
use Prim.Native.Nat.{ℕ}
use lib.ListN.{length}
use Rattle.records.specs.declared.Spot.TheVariants.{Free, Tail}
use Rattle.records.specs.Versions.{head_length}
use Rattle.records.proofs.VersionLaws.{width_length_high}
use Rattle.records.proofs.WalkLaws.{place-has}
use Rattle.heads.specs.Pack.{meaning}
use Rattle.std.specs.Prelude.{is_some, Ok}
use Rattle.pack.specs.Calls.{Changes, insertion}
use Rattle.heads.proofs.FindLaws.{low, walkable, found, spotted}
use Rattle.pack.proofs.CallLaws.{put_present, free-room, put_free, tail-inside, put_full, put_tail, rows_few}
use Rattle.pack.proofs.put_letter.Goals as goal

pub find_from-requires : goal.find_from-requires
find_from-requires c =
    let x = c.args in
    let q = c.requires in
    walkable x.pack.now x.head q.records q.said c.head_length-from.result c.head_length-from.ensures

pub returns-then-is_some : goal.returns-then-is_some
returns-then-is_some c =
    let x = c.args in
    let q = c.requires in
    let s = x.pack.now in
    let h = c.head_length-from in
    let p = found s x.head q.records q.said x.bits h.result c.find_from.result h.ensures c.find_from.ensures in
    let there = sym (place-has x.head x.bits (head_length x.head.version) q.records) ∙ ap is_some (sym p) in
    put_present s x.head q.records q.said x.bits x.width x.rows.now q.letter (there ∙ sym c.is_some.ensures ∙ c.if-is_some.true) c.of.result c.of.ensures

pub spot_from-requires : goal.spot_from-requires
spot_from-requires c =
    let x = c.args in
    let q = c.requires in
    walkable x.pack.now x.head q.records q.said c.head_length-from.result c.head_length-from.ensures

pub write_record-requires : goal.write_record-requires
write_record-requires c =
    let x = c.args in
    let q = c.requires in
    let s = x.pack.now in
    let h = c.head_length-from in
    let p = found s x.head q.records q.said x.bits h.result c.find_from.result h.ensures c.find_from.ensures in
    let there = sym (place-has x.head x.bits (head_length x.head.version) q.records) ∙ ap is_some (sym p) in
    let none = there ∙ sym c.is_some.ensures ∙ c.if-is_some.false in
    let a = c.in-Free in
    let spot = spotted s x.head q.records q.said x.width h.result (Free a.at) h.ensures (sym a.is ∙ c.spot_from.ensures) in
    omega (arith, free-room s x.head q.records q.said x.bits x.width x.rows.now q.letter none a.at spot)

pub overflow_add-size : goal.overflow_add-size
overflow_add-size c =
    let x = c.args in
    let q = c.requires in
    omega (arith, rows_few x.head x.bits x.width x.rows.now (low x.pack.now x.head q.records q.said) q.letter, c.record_head_length.ensures, width_length_high x.head.version)

pub overflow_sub-pack : goal.overflow_sub-pack
overflow_sub-pack c =
    let x = c.args in
    let q = c.requires in
    let s = x.pack.now in
    let h = c.head_length-from in
    let p = found s x.head q.records q.said x.bits h.result c.find_from.result h.ensures c.find_from.ensures in
    let there = sym (place-has x.head x.bits (head_length x.head.version) q.records) ∙ ap is_some (sym p) in
    let none = there ∙ sym c.is_some.ensures ∙ c.if-is_some.false in
    let a = c.in-Tail in
    let spot = spotted s x.head q.records q.said x.width h.result (Tail a.at) h.ensures (sym a.is ∙ c.spot_from.ensures) in
    tail-inside s x.head q.records q.said x.bits x.width x.rows.now q.letter none a.at spot

pub returns-then-pack-at : goal.returns-then-pack-at
returns-then-pack-at c =
    let x = c.args in
    let q = c.requires in
    let s = x.pack.now in
    let h = c.head_length-from in
    let p = found s x.head q.records q.said x.bits h.result c.find_from.result h.ensures c.find_from.ensures in
    let there = sym (place-has x.head x.bits (head_length x.head.version) q.records) ∙ ap is_some (sym p) in
    let none = there ∙ sym c.is_some.ensures ∙ c.if-is_some.false in
    let a = c.in-Tail in
    let spot = spotted s x.head q.records q.said x.width h.result (Tail a.at) h.ensures (sym a.is ∙ c.spot_from.ensures) in
    put_full s x.head q.records q.said x.bits x.width x.rows.now q.letter none a.at spot (omega (arith, c.if-pack-at.true, c.record_head_length.ensures)) c.of-then-pack-at.result c.of-then-pack-at.ensures

pub returns-in-Free : goal.returns-in-Free
returns-in-Free c =
    let x = c.args in
    let q = c.requires in
    let s = x.pack.now in
    let h = c.head_length-from in
    let p = found s x.head q.records q.said x.bits h.result c.find_from.result h.ensures c.find_from.ensures in
    let there = sym (place-has x.head x.bits (head_length x.head.version) q.records) ∙ ap is_some (sym p) in
    let none = there ∙ sym c.is_some.ensures ∙ c.if-is_some.false in
    let a = c.in-Free in
    let spot = spotted s x.head q.records q.said x.width h.result (Free a.at) h.ensures (sym a.is ∙ c.spot_from.ensures) in
    subst (λ (new : List ℕ). Changes (insertion (meaning s) (length s) x.bits x.width x.rows.now) s (Ok tt) new) (sym c.write_record.ensures) (put_free s x.head q.records q.said x.bits x.width x.rows.now q.letter none a.at spot)

pub returns-else-pack-at : goal.returns-else-pack-at
returns-else-pack-at c =
    let x = c.args in
    let q = c.requires in
    let s = x.pack.now in
    let h = c.head_length-from in
    let p = found s x.head q.records q.said x.bits h.result c.find_from.result h.ensures c.find_from.ensures in
    let there = sym (place-has x.head x.bits (head_length x.head.version) q.records) ∙ ap is_some (sym p) in
    let none = there ∙ sym c.is_some.ensures ∙ c.if-is_some.false in
    let a = c.in-Tail in
    let spot = spotted s x.head q.records q.said x.width h.result (Tail a.at) h.ensures (sym a.is ∙ c.spot_from.ensures) in
    subst (λ (new : List ℕ). Changes (insertion (meaning s) (length s) x.bits x.width x.rows.now) s (Ok tt) new) (sym c.write_record-in-Tail.ensures) (put_tail s x.head q.records q.said x.bits x.width x.rows.now q.letter none a.at spot (omega (arith, tail-inside s x.head q.records q.said x.bits x.width x.rows.now q.letter none a.at spot, c.if-pack-at.false, c.record_head_length.ensures)))
