use Rattle.std.proofs.Common.{refl, arith}
use Rattle.std.proofs.lemmas.Result.{err_from_is_err_and}
use Rattle.cron_fields.specs.ItemFault.{bad_high_atom, bad_low_number, bad_high_number, bad_order}
use Rattle.cron_fields.proofs.item.read_range.Goals as goal

pub returns-in_err-high-clause-fault : goal.returns-in_err-high-clause-fault
returns-in_err-high-clause-fault c =
    let p = err_from_is_err_and c.from_residual-in_err-high.result c.from_residual-in_err-high.ensures.1 in
    let at = c.in_err-high.ensures.place in
    rw (p.1, p.2) (bad_high_atom c.in_ok-low.low c.in_ok-low.ensures.read c.in_err-high.ensures.fault (omega arith))

pub returns-in_err-low-2-clause-fault : goal.returns-in_err-low-2-clause-fault
returns-in_err-low-2-clause-fault c =
    let p = err_from_is_err_and c.from_residual-in_err-low-2.result c.from_residual-in_err-low-2.ensures.1 in
    let fault = c.in_err-low-2.ensures.fault in
    rw (p.1, p.2) (bad_low_number c.in_ok-low.low c.in_ok-high.high c.in_ok-low.ensures.read c.in_ok-high.ensures.read fault.0 fault.1 c.in_err-low-2.ensures.place)

pub returns-in_err-high-2-clause-fault : goal.returns-in_err-high-2-clause-fault
returns-in_err-high-2-clause-fault c =
    let p = err_from_is_err_and c.from_residual-in_err-high-2.result c.from_residual-in_err-high-2.ensures.1 in
    let fault = c.in_err-high-2.ensures.fault in
    let at = c.in_err-high-2.ensures.place in
    rw (p.1, p.2) (bad_high_number c.in_ok-low.low c.in_ok-high.high c.in_ok-low.ensures.read c.in_ok-high.ensures.read c.in_ok-low-2.ensures.taken.0 fault.0 fault.1 (omega arith))

pub returns-then-low-high-clause-fault : goal.returns-then-low-high-clause-fault
returns-then-low-high-clause-fault c =
    let low = c.in_ok-low-2.ensures.taken in
    let high = c.in_ok-high-2.ensures.taken in
    bad_order c.in_ok-low.low c.in_ok-high.high c.in_ok-low.ensures.read c.in_ok-high.ensures.read low.0 high.0 (omega arith) refl refl
