-- `capi::packs::layout_by` meets its contract, for every input.
use mathlib.Core.Path.{sym, ap, ◌∙◌}
use mathlib.Core.Bool.{Bool, cond}
use Rattle.subchars.specs.Layouts.{full_layout_of}
use Rattle.capi.specs.Numbers.{shapeless, layout_by}
use Rattle.capi.proofs.packs.layout_by.Goals as goal

pub returns-then-legal_mode : goal.returns-then-legal_mode
unfolding layout_by
returns-then-legal_mode c = c.from_full.ensures ∙ sym (ap (λ (b : Bool). cond b (full_layout_of c.args.layout) shapeless) (sym c.legal_mode.ensures ∙ c.if-legal_mode.true))

pub returns : goal.returns
unfolding layout_by
returns c = sym (ap (λ (b : Bool). cond b (full_layout_of c.args.layout) shapeless) (sym c.legal_mode.ensures ∙ c.if-legal_mode.false))
