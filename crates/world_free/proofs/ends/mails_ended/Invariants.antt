use Rattle.std.proofs.Common.{◌≤◌}
use Rattle.std.specs.Vec.{vec_capacity}
use Rattle.world_free.specs.Ends.{HaveEnded}
use Rattle.world_free.proofs.ends.mails_ended.Given as goal

abbrev pub invariant-mails : goal.invariant-mails
invariant-mails l = HaveEnded l.cuts l.letters l.yielded l.ended.items × (7 ≤ vec_capacity l.ended)
