use Rattle.std.proofs.Common.{refl}
use Rattle.step_spec.specs.Heard.{packets_of}
use Rattle.step_spec.specs.Message.{Known}
use Rattle.replica_draft.proofs.draft.Draft.send_chosen.Goals as goal

pub returns-clause-goes : goal.returns-clause-goes
unfolding packets_of
returns-clause-goes c = c.send.ensures.goes (Known c.args.slot c.args.entry) refl
