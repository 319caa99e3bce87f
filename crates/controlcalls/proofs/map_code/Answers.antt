-- `controlcalls::map_code` meets its contract, for every input.
use Rattle.std.proofs.lemmas.Result.{err_from_is_err_and}
use Rattle.controlcalls.proofs.MapCases.{usable, mapped_told, refused-told}
use Rattle.controlcalls.proofs.map_code.Goals as goal

pub map_by-requires : goal.map_by-requires
map_by-requires c = usable c.args.control.now (λ i. (c.type_inv.control i).fits) _ _ _ _ _ _ _ _ _ c.read_lists.ensures _ c.in_ok-read.was

pub returns : goal.returns
returns c = record { answer = mapped_told c.args.control.now (λ i. (c.type_inv.control i).fits) _ _ _ _ _ _ _ _ _ c.read_lists.ensures _ c.in_ok-read.was c.args.code _ c.map_by.ensures }

pub returns-in_err-read : goal.returns-in_err-read
returns-in_err-read c =
    let p = err_from_is_err_and c.from_residual.result c.from_residual.ensures.1 in
    rw (p.1, p.2)
    (record { answer = refused-told c.args.control.now (λ i. (c.type_inv.control i).fits) _ _ _ _ _ _ _ _ _ c.read_lists.ensures _ c.in_err-read.was c.args.code })
