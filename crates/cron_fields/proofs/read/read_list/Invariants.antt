use Rattle.std.proofs.Common.{map}
use Rattle.cron_fields.proofs.ListLemmas.{Reading}
use Rattle.cron_fields.proofs.read.read_list.Given as goal

abbrev pub invariant-loop-item : goal.invariant-loop-item
invariant-loop-item l = Reading l.kind (map (λ piece. piece.now) l.yielded) l.bits l.place
