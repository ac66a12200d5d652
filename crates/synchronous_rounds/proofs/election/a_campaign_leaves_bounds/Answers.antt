use Rattle.synchronous_rounds.proofs.BoundedRounds.{second_bounded}
use Rattle.synchronous_rounds.proofs.YieldLemmas.{prefix_kept}
use Rattle.synchronous_rounds.proofs.election.a_campaign_leaves_bounds.Goals as goal

pub returns : goal.returns
returns c = λ members candidate top best at now then_now advice then_advice answers then_answers cluster campaigned advised then_advised low. (
  second_bounded members candidate top best at now then_now advice then_advice answers then_answers cluster campaigned advised then_advised low,
  prefix_kept members candidate top best at now then_now advice then_advice answers then_answers cluster campaigned advised then_advised low,
)
