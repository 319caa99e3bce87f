-- `pairs::smushed_byte` meets its contract.
use mathlib.Core.Path.{◌∙◌, sym, ap}
use Rattle.subchars.specs.declared.Smushing.{Smushing}
use Rattle.pairs.specs.declared.Joint.{Joint}
use Rattle.pairs.specs.Pair.{smushed, is_joined, byte_of}
use Rattle.pairs.proofs.Masking.{ruled_joint}
use Rattle.pairs.proofs.smushed_byte.Goals.{Start}
use Rattle.pairs.proofs.smushed_byte.Goals as goal

-- the joint by a kind of smushing
abbrev by : Start → Smushing → Joint
by s kind = smushed kind s.args.direction s.args.hardblank.0 s.args.left.0 s.args.right.0

pub returns-in-Controlled : goal.returns-in-Controlled
returns-in-Controlled c =
    let a = c.args in
    let e = ap (by (goal.at.returns-in-Controlled c).Start) c.in-Controlled.is in
    ruled_joint a.hardblank.0 a.left.0 a.right.0 _ c.ruled_byte.result.0 (c.ruled_byte.ensures a.hardblank.0) (sym (ap is_joined e) ∙ c.requires) ∙ sym (ap byte_of e)
