use Rattle.std.proofs.Common.{lit<, refl, arith}
use Rattle.std.proofs.lemmas.Result.{err_from_is_err_and}
use Rattle.std.proofs.lemmas.Str.Pattern.{split_parts}
use Rattle.cron_fields.specs.Item.{single, wide, stepped}
use Rattle.cron_fields.specs.ItemFault.{bad_item, bad_base, step_after_atom, bad_step}
use Rattle.cron_fields.proofs.item.read_item.Goals as goal

pub returns-in_err-value-clause-fault : goal.returns-in_err-value-clause-fault
returns-in_err-value-clause-fault c =
    let parts = split_parts 47 c.args.item.now c.split_once.result c.split_once.ensures.cases (lit< tt) in
    let whole = rw c.in_default.is at parts in
    let p = err_from_is_err_and c.from_residual.result c.from_residual.ensures.1 in
    rw (p.1, p.2) (bad_item whole c.in_err-value.ensures.fault)

pub returns-in-Single-clause-read : goal.returns-in-Single-clause-read
returns-in-Single-clause-read c =
    let parts = split_parts 47 c.args.item.now c.split_once.result c.split_once.ensures.cases (lit< tt) in
    let whole = rw c.in_default.is at parts in
    single c.in-Single.value whole (rw c.in-Single.is at c.in_ok-value.ensures.read) refl

pub returns-in-Wide-clause-read : goal.returns-in-Wide-clause-read
returns-in-Wide-clause-read c =
    let parts = split_parts 47 c.args.item.now c.split_once.result c.split_once.ensures.cases (lit< tt) in
    let whole = rw c.in_default.is at parts in
    wide c.in-Wide.low c.in-Wide.high whole (rw c.in-Wide.is at c.in_ok-value.ensures.read) refl

pub returns-in_err-read_base-clause-fault : goal.returns-in_err-read_base-clause-fault
returns-in_err-read_base-clause-fault c =
    let parts = split_parts 47 c.args.item.now c.split_once.result c.split_once.ensures.cases (lit< tt) in
    let cut = rw c.in-Some.is at parts in
    let p = err_from_is_err_and c.from_residual-in_err-read_base.result c.from_residual-in_err-read_base.ensures.1 in
    rw (p.1, p.2) (bad_base c.in-Some.base.now c.in-Some.step.now (record { text_is = cut.0; first = cut.1 }) c.in_err-read_base.ensures.fault)

pub returns-in_err-step-in-Wide-2-clause-fault : goal.returns-in_err-step-in-Wide-2-clause-fault
returns-in_err-step-in-Wide-2-clause-fault c =
    let parts = split_parts 47 c.args.item.now c.split_once.result c.split_once.ensures.cases (lit< tt) in
    let cut = rw c.in-Some.is at parts in
    let p = err_from_is_err_and c.from_residual-in_err-step-in-Wide-2.result c.from_residual-in_err-step-in-Wide-2.ensures.1 in
    let at = c.in_err-step-in-Wide-2.ensures.place in
    rw (p.1, p.2) (bad_step c.in-Some.base.now c.in-Some.step.now c.in-Wide-2.low c.in-Wide-2.high (record { text_is = cut.0; first = cut.1 }) (rw c.in-Wide-2.is at c.in_ok-read_base.ensures.read) c.in_err-step-in-Wide-2.ensures.fault (omega arith))

pub returns-in-Single-2-clause-fault : goal.returns-in-Single-2-clause-fault
returns-in-Single-2-clause-fault c =
    let parts = split_parts 47 c.args.item.now c.split_once.result c.split_once.ensures.cases (lit< tt) in
    let cut = rw c.in-Some.is at parts in
    step_after_atom c.in-Some.base.now c.in-Some.step.now c.in-Single-2.field-0 (record { text_is = cut.0; first = cut.1 }) (rw c.in-Single-2.is at c.in_ok-read_base.ensures.read) refl (omega arith)

pub returns-in_ok-step-in-Wide-2-clause-read : goal.returns-in_ok-step-in-Wide-2-clause-read
returns-in_ok-step-in-Wide-2-clause-read c =
    let parts = split_parts 47 c.args.item.now c.split_once.result c.split_once.ensures.cases (lit< tt) in
    let cut = rw c.in-Some.is at parts in
    let step = c.in_ok-step-in-Wide-2.ensures.read in
    stepped c.in-Some.base.now c.in-Some.step.now c.in-Wide-2.low c.in-Wide-2.high c.in_ok-step-in-Wide-2.step (record { text_is = cut.0; first = cut.1 }) (rw c.in-Wide-2.is at c.in_ok-read_base.ensures.read) step.0 step.1 refl
