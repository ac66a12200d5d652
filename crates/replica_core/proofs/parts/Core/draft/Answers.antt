use Rattle.std.proofs.Common.{FitsSigned, w64, arith}
use Rattle.std.proofs.lemmas.Int.{ints, to_z-of_z}
use Rattle.replica_core.proofs.PlanLemmas.{answer-step, campaign-step, hear-step, tick-step}
use Rattle.replica_core.proofs.SteadyLemmas.{on_ok_so}
use Rattle.replica_core.proofs.parts.Core.draft.Goals as goal

pub returns-in_ok-campaign-in-Campaign-clause-makes : goal.returns-in_ok-campaign-in-Campaign-clause-makes
returns-in_ok-campaign-in-Campaign-clause-makes c =
    rw c.in-Campaign.is (campaign-step c.args.table.now c.args.self.now c.campaign.new.draft c.in_ok-campaign-in-Campaign.ensures.makes)

pub returns-in_ok-tick-in-Tick-clause-makes : goal.returns-in_ok-tick-in-Tick-clause-makes
returns-in_ok-tick-in-Tick-clause-makes c =
    let makes = c.in_ok-tick-in-Tick.ensures.makes in
    rw c.in-Tick.is (tick-step c.args.table.now c.in-Tick.now c.args.self.now c.tick.new.draft makes.0 makes.1 makes.2)

pub returns-in-Hear-clause-makes : goal.returns-in-Hear-clause-makes
returns-in-Hear-clause-makes c =
    rw c.in-Hear.is (on_ok_so c.hear_letter.result _ _ (λ hears. hear-step c.args.table.now c.in-Hear.bytes c.args.self.now c.hear_letter.new.draft hears) c.hear_letter.ensures.makes)

pub returns-in_ok-answer-in-Answer-clause-makes : goal.returns-in_ok-answer-in-Answer-clause-makes
returns-in_ok-answer-in-Answer-clause-makes c =
    let fits : FitsSigned w64 c.in-Answer.at = omega (arith, ints) in
    let makes = simp to_z-of_z at c.in_ok-answer-in-Answer.ensures.makes in
    rw c.in-Answer.is (answer-step c.args.table.now c.in-Answer.job c.in-Answer.at c.in-Answer.kind c.args.self.now c.answer.new.draft makes)

pub returns-in-Hear-clause-fault : goal.returns-in-Hear-clause-fault
returns-in-Hear-clause-fault c = rw c.in-Hear.is c.hear_letter.ensures.fault

pub returns-in_ok-campaign-in-Campaign-clause-ready : goal.returns-in_ok-campaign-in-Campaign-clause-ready
returns-in_ok-campaign-in-Campaign-clause-ready c = c.in_ok-campaign-in-Campaign.ensures.ready c.args.table.now

pub returns-in_ok-answer-in-Answer-clause-ready : goal.returns-in_ok-answer-in-Answer-clause-ready
returns-in_ok-answer-in-Answer-clause-ready c = c.in_ok-answer-in-Answer.ensures.ready c.args.table.now
