use Rattle.std.proofs.Common.{◌<◌, length, inr, arith}
use Rattle.std.proofs.lemmas.Bool.Decides.{nat_tests}
use Rattle.cron_fields.proofs.FaultLemmas.{field_fault_within}
use Rattle.crontab_text.proofs.entry.read_word.Goals as goal

pub overflow_sub-result : goal.overflow_sub-result
overflow_sub-result c =
    omega (arith, field_fault_within c.args.kind c.args.word.text.now c.in-Err.fault.cause c.in-Err.fault.place c.in-Err.ensures.fault)

pub returns-in-Err-clause-fault : goal.returns-in-Err-clause-fault
returns-in-Err-clause-fault c =
    let within = field_fault_within c.args.kind c.args.word.text.now c.in-Err.fault.cause c.in-Err.fault.place c.in-Err.ensures.fault in
    let some : 0 < length c.args.word.text.now = grind (arith, nat_tests) in
    inr (c.in-Err.fault.place, some, c.in-Err.ensures.fault, omega arith)
