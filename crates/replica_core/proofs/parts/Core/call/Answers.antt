use Rattle.std.proofs.Common.{◌≡◌, [], ◌∷◌, w64, to_z, of_z}
use Rattle.std.proofs.lemmas.Int.{to_z-of_z}
use Rattle.step_spec.specs.Act.{Call}
use Rattle.replica_core.proofs.LeadLemmas.{makes}
use Rattle.replica_core.proofs.parts.Core.call.Goals as goal

pub returns-clause-makes : goal.returns-clause-makes
returns-clause-makes c =
    let at : to_z w64 (of_z w64 c.args.at) ≡ c.args.at = to_z-of_z w64 c.args.at c.ranges.at in
    makes c.args.self.now c.args.draft.now c.call.new.self
    (Call (record { name = record { job = c.args.job; at = c.args.at }; kind = c.args.kind; now = c.args.now; by = c.args.self.now.me }) ∷ [])
    c.requires.idle.stands (rw at at c.call.ensures.goes)
