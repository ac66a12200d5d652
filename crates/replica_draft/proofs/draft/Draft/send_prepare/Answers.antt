use Rattle.std.proofs.Common.{refl}
use Rattle.step_spec.specs.Heard.{packets_of}
use Rattle.step_spec.specs.Message.{Prepare}
use Rattle.replica_draft.proofs.draft.Draft.send_prepare.Goals as goal

pub returns-clause-goes : goal.returns-clause-goes
unfolding packets_of
returns-clause-goes c = c.send.ensures.goes (Prepare c.args.ballot c.args.slot) refl
