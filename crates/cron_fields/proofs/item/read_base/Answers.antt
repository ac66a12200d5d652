use Rattle.std.proofs.Common.{◌≢◌, codes, lit<, rules}
use Rattle.std.proofs.lemmas.Result.{err_from_is_err_and}
use Rattle.std.proofs.lemmas.Str.Pattern.{split_parts}
use Rattle.cron_fields.specs.Item.{range}
use Rattle.cron_fields.specs.ItemFault.{bad_range, bad_single, bad_atom, bad_number}
use Rattle.cron_fields.proofs.item.read_base.Goals as goal

pub returns-in_err-read_atom-clause-fault : goal.returns-in_err-read_atom-clause-fault
returns-in_err-read_atom-clause-fault c =
    let parts = split_parts 45 c.args.base.now c.split_once.result c.split_once.ensures.cases (lit< tt) in
    let alone = rw c.in_default.is at parts in
    let no_star : c.args.base.now ≢ codes "*" = search rules in
    let p = err_from_is_err_and c.from_residual.result c.from_residual.ensures.1 in
    rw (p.1, p.2) (bad_single (bad_atom no_star alone c.in_err-read_atom.ensures.fault) c.in_err-read_atom.ensures.place)

pub returns-in_err-value-clause-fault : goal.returns-in_err-value-clause-fault
returns-in_err-value-clause-fault c =
    let parts = split_parts 45 c.args.base.now c.split_once.result c.split_once.ensures.cases (lit< tt) in
    let alone = rw c.in_default.is at parts in
    let p = err_from_is_err_and c.from_residual-in_err-value.result c.from_residual-in_err-value.ensures.1 in
    let fault = c.in_err-value.ensures.fault in
    rw (p.1, p.2) (bad_single (bad_number c.in_ok-read_atom.field-0 alone c.in_ok-read_atom.ensures.read fault.0 fault.1) c.in_err-value.ensures.place)

pub returns-in_default-clause-read : goal.returns-in_default-clause-read
returns-in_default-clause-read c =
    let parts = split_parts 45 c.args.base.now c.split_once.result c.split_once.ensures.cases (lit< tt) in
    let alone = rw c.in_default.is at parts in
    let value = c.in_ok-value.ensures.taken in
    rw value.1 (record { alone = alone; atom = c.in_ok-read_atom.ensures.read; taken = value.0 })

pub returns-in_err-low-clause-fault : goal.returns-in_err-low-clause-fault
returns-in_err-low-clause-fault c =
    let parts = split_parts 45 c.args.base.now c.split_once.result c.split_once.ensures.cases (lit< tt) in
    let cut = rw c.in-Some.is at parts in
    let p = err_from_is_err_and c.from_residual-in_err-low.result c.from_residual-in_err-low.ensures.1 in
    rw (p.1, p.2) (bad_range c.in-Some.low.now c.in-Some.high.now (record { text_is = cut.0; first = cut.1 }) c.in_err-low.ensures.fault)

pub returns-clause-read : goal.returns-clause-read
returns-clause-read c =
    let parts = split_parts 45 c.args.base.now c.split_once.result c.split_once.ensures.cases (lit< tt) in
    let cut = rw c.in-Some.is at parts in
    range c.in-Some.low.now c.in-Some.high.now (record { text_is = cut.0; first = cut.1 }) c.in_ok-low.ensures.read
