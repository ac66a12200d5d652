use Rattle.std.proofs.Common.{[], ◌∷◌, ◌∙◌, ◌≡◌}
use Rattle.step_spec.specs.Act.{Send}
use Rattle.step_spec.specs.Message.{Lead, Others}
use Rattle.step_spec.specs.State.{prefix_of}
use Rattle.replica_core.specs.Replica.{state_of}
use Rattle.replica_core.proofs.LeadLemmas.{makes, own-prefix}
use Rattle.replica_core.proofs.SteadyLemmas.{on_ok_so}
use Rattle.replica_core.proofs.parts.Core.say_lead.Goals as goal

pub returns-clause-makes : goal.returns-clause-makes
returns-clause-makes c =
    let at : c.prefix.result ≡ prefix_of (state_of c.args.self.now) = c.prefix.ensures ∙ own-prefix c.args.self.now c.requires.whole in
    on_ok_so c.send_lead.result _ _
    (λ goes. makes c.args.self.now c.args.draft.now c.send_lead.new.self (Send Others (Lead c.args.ballot (prefix_of (state_of c.args.self.now))) ∷ [])
    c.requires.idle.stands (rw (← at) goes))
    c.send_lead.ensures.goes
