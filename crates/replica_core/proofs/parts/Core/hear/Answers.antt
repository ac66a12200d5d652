use Rattle.replica_core.specs.Replica.{own_identity}
use Rattle.replica_core.proofs.HearLemmas.{heard-observed}
use Rattle.replica_core.proofs.parts.Core.hear.Goals as goal

pub returns-clause-does : goal.returns-clause-does
returns-clause-does c =
    heard-observed c.handle.result c.args.self.now c.args.draft.now c.observe_in.new.draft c.handle.new.draft (own_identity c.args.self.now) c.args.from c.args.packet.now c.args.rest.now c.args.asked
    c.observe_in.ensures.goes c.observe_in.ensures.sends c.handle.ensures.does
