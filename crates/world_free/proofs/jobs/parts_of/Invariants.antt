use Rattle.std.proofs.Common.{◌≤◌}
use Rattle.std.specs.Vec.{vec_capacity}
use Rattle.world_free.specs.Parts.{AreJobsOf}
use Rattle.world_free.proofs.jobs.parts_of.Given as goal

abbrev pub invariant-jobs : goal.invariant-jobs
invariant-jobs g l = AreJobsOf l.nodes.items l.mails.items l.seats.items l.yielded × (7 ≤ vec_capacity l.nodes)
