use Rattle.std.proofs.Common.{◌≢◌, codes, lit<, inl, inr, arith, rules}
use Rattle.std.proofs.lemmas.Str.Pattern.{split_parts}
use Rattle.cron_fields.proofs.FaultLemmas.{list_fault_within}
use Rattle.cron_fields.proofs.read.read_field.Goals as goal

pub returns-in-Some-clause-fault : goal.returns-in-Some-clause-fault
returns-in-Some-clause-fault c =
    let parts = split_parts 126 c.args.text.now c.split_once.result c.split_once.ensures.cases (lit< tt) in
    let cut = rw c.in-Some.is at parts in
    inl (record {
      before = c.in-Some.before.now;
      after = c.in-Some.field-0-1.now;
      split = record { text_is = cut.0; first = cut.1 };
      cause_is = c.told.ensures.cause;
      place_is = c.told.ensures.place;
    })

pub told-requires-in-Err : goal.told-requires-in-Err
told-requires-in-Err c =
    let within = list_fault_within c.args.kind c.args.text.now _ _ c.in-Err.ensures.fault in
    let small = c.requires in
    omega arith

pub returns-in-Err-clause-fault : goal.returns-in-Err-clause-fault
returns-in-Err-clause-fault c =
    let parts = split_parts 126 c.args.text.now c.split_once.result c.split_once.ensures.cases (lit< tt) in
    let no_tilde = rw c.in_default.is at parts in
    let no_mark : c.args.text.now ≢ codes "?" = search rules in
    rw (c.told-in-Err.ensures.cause, c.told-in-Err.ensures.place) (inr (no_tilde, no_mark, c.in-Err.ensures.fault))
