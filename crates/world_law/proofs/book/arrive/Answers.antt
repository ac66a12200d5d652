use Rattle.std.proofs.Common.{subst}
use Rattle.cluster_sched.specs.Fates.{IsArrival}
use Rattle.history.specs.Book.{late_call}
use Rattle.world_law.proofs.Ledgers.{arrived_held}
use Rattle.world_law.proofs.book.arrive.Goals as goal

pub returns-clause-held : goal.returns-clause-held
returns-clause-held c =
    arrived_held (late_call c.args.late c.args.ledger.now.late) c.args.ledger.now c.arrive.new.self c.in-Ok.field-0
    (subst (λ result. IsArrival (late_call c.args.late c.args.ledger.now.late) c.args.ledger.now result c.arrive.new.self) c.in-Ok.is c.arrive.ensures.arrives)
