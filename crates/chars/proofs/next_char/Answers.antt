-- `chars::next_char` meets its contract.
use mathlib.Core.Path.{ap, ◌∙◌}
use native.Mathlib.Omega.{arith}
use lib.IntN.{pos}
use mir.Syntax.{w32}
use mir.ValLaws.{to_z_pos}
use Rattle.chars.specs.Codes.{code}
use Rattle.chars.proofs.CodeLaws.{codes_small}
use Rattle.chars.proofs.ListingLaws.{next_required, next_tagged}
use Rattle.chars.proofs.next_char.Goals as goal

pub overflow_cast-code : goal.overflow_cast-code
overflow_cast-code c = record { sfits = omega (arith, c.required.ensures, codes_small c.args.n) }

pub returns-then-n-lt-REQUIRED : goal.returns-then-n-lt-REQUIRED
returns-then-n-lt-REQUIRED c =
    let r = c.required in
    next_required _ _ _ _ _ _ c.if-n-lt-REQUIRED.true (ap code (to_z_pos w32 r.result (omega (arith, r.ensures, codes_small c.args.n)) ∙ ap pos r.ensures)) c.listed_at.ensures

pub returns : goal.returns
returns c = next_tagged _ _ _ _ _ c.if-n-lt-REQUIRED.false c.tagged_at.ensures
