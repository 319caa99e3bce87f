-- `records::record_head_length` meets its contract.
use native.Mathlib.Omega.{arith}
use Rattle.records.proofs.VersionLaws.{width_length_high}
use Rattle.records.proofs.record_head_length.Goals as goal

pub overflow_add-result : goal.overflow_add-result
overflow_add-result c = omega (arith, c.width_length.ensures, width_length_high c.args.version)
