use Rattle.std.proofs.Common.{refl}
use Rattle.step_spec.specs.Heard.{packets_of}
use Rattle.step_spec.specs.Message.{Nack}
use Rattle.replica_draft.proofs.draft.Draft.send_nack.Goals as goal

pub returns-clause-goes : goal.returns-clause-goes
unfolding packets_of
returns-clause-goes c = c.send.ensures.goes (Nack c.args.ballot c.args.promised) refl
