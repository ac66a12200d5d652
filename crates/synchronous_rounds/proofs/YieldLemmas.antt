-- One that has yielded learned nothing meanwhile, and its next campaign is above all that was promised or named.
use Rattle.std.proofs.Common.{◌≡◌, ℕ, ◌<◌, ◌≤◌, List, Option, None, ℤ, sym, inl, inr, arith, subst}
use Rattle.std.proofs.lemmas.Bool.{cases_eq}
use Rattle.paxos_base.specs.declared.entry.Vote.{Vote}
use Rattle.paxos_base.specs.declared.rows.JobRow.{JobRow}
use Rattle.cluster_sched.specs.declared.row.SchedRow.{SchedRow}
use Rattle.step_spec.specs.State.{prefix_of, promised_in}
use Rattle.step_spec.specs.Step.{IsLaunchTable}
use Rattle.agreement.specs.Transition.{identity_of}
use Rattle.synchronous_rounds.specs.Cluster.{Advice, Cluster, IsAdvised, cluster_round, events_at}
use Rattle.synchronous_rounds.specs.LedAlone.{Progress}
use Rattle.synchronous_rounds.proofs.LedAloneLemmas.{plain_round}
use Rattle.synchronous_rounds.proofs.SendLemmas.{letters_within}
use Rattle.synchronous_rounds.specs.Again.{HasCampaignedAgain, IsBounded}
use Rattle.synchronous_rounds.specs.Campaign.{HasCampaigned, HasYielded}
use Rattle.synchronous_rounds.specs.Made.{after_campaign, campaigned_at, own_votes}
use Rattle.synchronous_rounds.proofs.AnswerLemmas.{first_answered}
use Rattle.synchronous_rounds.proofs.BoundedRounds.{second_bounded}
use Rattle.synchronous_rounds.proofs.MadeLemmas.{again_made}

-- the candidate's prefix after the two rounds is what it was
pub prefix_kept : (members candidate top : ℕ) (best : List Vote) (at : Progress) (now then_now : ℤ) (advice then_advice : ℕ → Advice) (answers then_answers : ℕ → Option SchedRow) (cluster : Cluster) → HasCampaigned members candidate best at cluster → IsAdvised members at.table now advice cluster → IsAdvised members at.table then_now then_advice (cluster_round members now advice answers cluster) → ((who : ℕ) → who < members → promised_in ((cluster_round members now advice answers cluster).replicas who).kept ≤ top) → prefix_of ((cluster_round members then_now then_advice then_answers (cluster_round members now advice answers cluster)).replicas candidate) ≡ at.prefix
prefix_kept members candidate top best at now then_now advice then_advice answers then_answers cluster campaigned advised then_advised low =
    let next = cluster_round members now advice answers cluster in
    let first = (first_answered members candidate best at now advice answers cluster campaigned advised).1 in
    let bounded = second_bounded members candidate top best at now then_now advice then_advice answers then_answers cluster campaigned advised then_advised low in
    let below = campaigned.one.member in
    let up = letters_within top at.prefix (identity_of members candidate) at.table 0 (events_at then_now then_advice next candidate) (next.replicas candidate) (omega (arith, below, campaigned.one.few)) (plain_round then_now (then_advice candidate) (next.waits candidate) (next.mails candidate)) (then_advised.coherent candidate below) (then_advised.planned candidate below) in
    let short = bounded.short candidate below in
    omega (arith, first.stands.learned, up.rises.prefix, short)

-- its next campaign is a second one
pub campaigns_again : (members candidate : ℕ) (best : List Vote) (at : Progress) (rows : List JobRow) (now then_now : ℤ) (advice then_advice : ℕ → Advice) (answers then_answers : ℕ → Option SchedRow) (cluster : Cluster) → HasCampaigned members candidate best at cluster → IsAdvised members at.table now advice cluster → IsAdvised members at.table then_now then_advice (cluster_round members now advice answers cluster) → HasYielded members candidate at.ballot (cluster_round members now advice answers cluster) (cluster_round members then_now then_advice then_answers (cluster_round members now advice answers cluster)) → then_answers candidate ≡ None → IsLaunchTable at.table ((cluster_round members then_now then_advice then_answers (cluster_round members now advice answers cluster)).replicas candidate) rows → HasCampaignedAgain members candidate ((cluster_round members then_now then_advice then_answers (cluster_round members now advice answers cluster)).replicas candidate).seen (own_votes ((cluster_round members then_now then_advice then_answers (cluster_round members now advice answers cluster)).replicas candidate)) (campaigned_at at.table rows candidate ((cluster_round members then_now then_advice then_answers (cluster_round members now advice answers cluster)).replicas candidate)) (after_campaign members candidate (cluster_round members then_now then_advice then_answers (cluster_round members now advice answers cluster)))
campaigns_again members candidate best at rows now then_now advice then_advice answers then_answers cluster campaigned advised then_advised yielded alone launch =
    again_made members candidate top at.table rows last campaigned.one alone (subst (λ p. IsBounded members top p last) (sym kept) bounded) (omega arith) launch
  where
    next : Cluster
    next = cluster_round members now advice answers cluster

    last : Cluster
    last = cluster_round members then_now then_advice then_answers next

    top : ℕ
    top = (last.replicas candidate).seen

    low : (who : ℕ) → who < members → promised_in (next.replicas who).kept ≤ top
    low who below = elim (cases_eq who candidate) [
      | inl same ↦
          let first = (first_answered members candidate best at now advice answers cluster campaigned advised).1 in
          subst (λ q. promised_in (next.replicas q).kept ≤ top) (sym same) (omega (arith, first.stands.promised, yielded.higher))
      | inr apart ↦ yielded.seen who below apart
    ]

    bounded : IsBounded members top at.prefix last
    bounded = second_bounded members candidate top best at now then_now advice then_advice answers then_answers cluster campaigned advised then_advised low

    kept : prefix_of (last.replicas candidate) ≡ at.prefix
    kept = prefix_kept members candidate top best at now then_now advice then_advice answers then_answers cluster campaigned advised then_advised low
