use Rattle.std.proofs.Common.{Ok, Err, ap, ◌∙◌}
use Rattle.cluster_sched.specs.declared.fault.CallFault.TheVariants.{Failed}
use Rattle.world_law.proofs.Ledgers.{was_called}
use Rattle.world_law.proofs.book.call_ledger.Goals as goal

pub returns-in-Ok-clause-called : goal.returns-in-Ok-clause-called
returns-in-Ok-clause-called c =
    was_called c.args.ledger.now c.arm.new.self c.call_by_name.new.sched c.args.fate c.args.row c.call_by_name.result (Ok c.in-Ok.first) c.arm.ensures
    c.call_by_name.ensures.calls c.in-Ok.is (λ wrong. absurd cc)

pub returns-in-Err-Failed-clause-called : goal.returns-in-Err-Failed-clause-called
returns-in-Err-Failed-clause-called c =
    was_called c.args.ledger.now c.arm.new.self c.call_by_name.new.sched c.args.fate c.args.row c.call_by_name.result (Err Failed) c.arm.ensures
    c.call_by_name.ensures.calls (c.in-Err-Failed.is ∙ ap Err c.in-Err-Failed.field-0-is) (λ wrong. absurd cc)
