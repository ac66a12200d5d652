-- Each round of a drain brings the replica that has campaigned nearer to leading alone.
use Rattle.std.proofs.Common.{◌≡◌, ◌⊎◌, ℕ, zero, suc, ◌<◌, ◌≤◌, List, [], ◌∷◌, Option, None, ℤ, refl, sym, ap, ◌∙◌, inl, inr, subst}
use Rattle.launch_machine.specs.Clerk.{table_size}
use Rattle.paxos_base.specs.declared.rows.TableSize.{TableSize}
use Rattle.paxos_base.specs.Members.{only_member}
use Rattle.paxos_base.specs.declared.entry.Vote.{Vote}
use Rattle.paxos_base.specs.declared.rows.JobRow.{JobRow}
use Rattle.cluster_sched.specs.declared.row.SchedRow.{SchedRow}
use Rattle.due_set.specs.Table.{IsSound, Table}
use Rattle.launch_machine.proofs.ExistLemmas.{all_applied}
use Rattle.term_core.specs.declared.flight.Flight.{Flight}
use Rattle.term_core.specs.declared.term.Term.{Term}
use Rattle.term_core.specs.declared.term.Term.TheVariants.{Follower, Candidate, Leader}
use Rattle.step_spec.specs.May.{IsFollower}
use Rattle.step_spec.specs.State.{State, prefix_of}
use Rattle.step_spec.specs.Step.{IsLaunchTable}
use Rattle.history.specs.Book.{Row, with_fact}
use Rattle.history.specs.declared.turn.Cause.TheVariants.{Campaign}
use Rattle.synchronous_rounds.specs.Cluster.{Advice, Cluster, IsAdvised, cluster_round}
use Rattle.synchronous_rounds.specs.Flights.{with_base}
use Rattle.synchronous_rounds.specs.Rounds.{Stage, free, answer, asked, accepted}
use Rattle.synchronous_rounds.specs.LedAlone.{Progress}
use Rattle.synchronous_rounds.proofs.StageLemmas.{stage_at_tick, stage_next}
use Rattle.synchronous_rounds.specs.Again.{HasCampaignedAgain, HaveAllPromised}
use Rattle.synchronous_rounds.specs.Campaign.{ComesToLead, HasCampaigned, HasYielded, HaveAllAnswered}
use Rattle.synchronous_rounds.specs.Made.{after_campaign, campaigned_at, own_votes}
use Rattle.synchronous_rounds.proofs.AnswerLemmas.{first_answered}
use Rattle.synchronous_rounds.proofs.DecidedLemmas.{second_decides}
use Rattle.synchronous_rounds.proofs.PromiseLemmas.{third_round}
use Rattle.synchronous_rounds.proofs.WinLemmas.{second_wins}
use Rattle.synchronous_rounds.proofs.YieldLemmas.{campaigns_again}
use Rattle.script_semantics.specs.Settling.{IsFreeTerm, IsQuiet, campaign_tasks}
use Rattle.script_semantics.specs.Situation.{Situation, Do}
use Rattle.settling.specs.Leads.{GoesDrainRound, LeadsAlone}
use Rattle.settling.specs.Rounds.{StandsForRound}
use Rattle.settling.specs.Stands.{StandsForCluster}
use Rattle.settling.proofs.ClusterLemmas.{round_is_synchronous}
use Rattle.settling.specs.Campaigns.{unanswered}
use Rattle.settling.specs.Within.{FirstCampaign, FirstRound, IsAfterYielding, IsAfterAnswers, IsAfterCampaign, IsOnItsWay, IsAfterPromises, LeadsWithin, after_first}
use Rattle.settling.proofs.CallLemmas.{candidate_alone}
use Rattle.settling.proofs.CampaignRoundLemmas.{AtRound, campaigns_round, waits_round}
use Rattle.history.proofs.Standings.{fact_here}

-- ---- the round of a drain

cluster_at : (members : ℕ) (table : Table) (at : ℤ) (cluster : Cluster) (after : Situation) → AtRound members table at cluster after → StandsForRound members table at cluster after
cluster_at members table at cluster after here = round_is_synchronous members table at here.book here.rows here.situation after cluster here.goes here.stands

-- the term of a replica, where its situation stands for this
term_there : (members : ℕ) (size : TableSize) (who : ℕ) (situation : Situation) (cluster : Cluster) (term : Term) → who < members → StandsForCluster members size situation cluster → (cluster.replicas who).term ≡ term → (situation.standing.replicas who).term ≡ term
term_there members size who situation cluster term member there is = ap (λ (s : State). s.term) (sym (there.replicas who member)) ∙ is

-- a round of a drain in which a candidate hears its mail
candidate_round : (members : ℕ) (table : Table) (who : ℕ) (at : ℤ) (book rows : List Row) (situation after : Situation) (cluster : Cluster) (ballot first heard : ℕ) (best : List Vote) → who < members
    → GoesDrainRound members table who at book rows situation after → StandsForCluster members (table_size table) situation cluster
    → (cluster.replicas who).term ≡ Candidate ballot first heard best → StandsForRound members table at cluster after
candidate_round members table who at book rows situation after cluster ballot first heard best member goes there is =
    cluster_at members table at cluster after
    (waits_round members table who at book rows situation after cluster goes there
    (ap (campaign_tasks who) (term_there members (table_size table) who situation cluster (Candidate ballot first heard best) member there is)))

-- a round of a drain that begins with a campaign
follower_round : (members : ℕ) (table : Table) (who : ℕ) (at : ℤ) (book rows : List Row) (situation after : Situation) (cluster : Cluster) → who < members → 2 ≤ members
    → GoesDrainRound members table who at book rows situation after → StandsForCluster members (table_size table) situation cluster
    → IsFollower (cluster.replicas who).term → StandsForRound members table at (after_campaign members who (unanswered who cluster)) after
follower_round members table who at book rows situation after cluster member more goes there follows =
    cluster_at members table at (after_campaign members who (unanswered who cluster)) after
    (campaigns_round members table who at book rows situation after cluster more goes there
    (asks (situation.standing.replicas who).term (subst (λ (s : State). IsFollower s.term) (there.replicas who member) follows)))
  where
    asks : (term : Term) → IsFollower term → campaign_tasks who term ≡ Do who Campaign ∷ []
    asks (Follower ended) is = refl
    asks (Candidate ballot first heard best) is = absurd is
    asks (Leader ballot best flight) is = absurd is

-- what is said of one table is said of the same
advised_over : (members : ℕ) (one other : Table) (now : ℤ) (advice : ℕ → Advice) (cluster : Cluster) → one ≡ other → IsAdvised members other now advice cluster → IsAdvised members one now advice cluster
advised_over members one other now advice cluster same advised = subst (λ table. IsAdvised members table now advice cluster) (sym same) advised

-- ---- one that comes to lead

comes_leads : (members : ℕ) (table : Table) (who : ℕ) (now : ℤ) (at : Progress) (cluster : Cluster) (after : Situation) → who < members → IsSound table → at.table ≡ table
    → (round : StandsForRound members table now cluster after) → ComesToLead members who at round.advice cluster (cluster_round members now round.advice round.answers cluster)
    → LeadsAlone members table who after
comes_leads members table who now at cluster after member sound over round comes =
    let stage = stage_at_tick members who comes.best at now round.advice round.answers cluster comes.leading (subst IsSound (sym over) sound)
    (advised_over members at.table table now round.advice cluster over round.advised) (round.answered who member) comes.led_alone in
    record {
      cluster = cluster_round members now round.advice round.answers cluster;
      best = comes.best;
      at = with_base stage.0 at;
      over = over;
      stands = round.stands;
      stage = stage.1;
    }

-- ---- a first campaign

from_campaigned : (members : ℕ) (table : Table) (who : ℕ) (at : ℤ) (book rows : List Row) (situation after : Situation) → GoesDrainRound members table who at book rows situation after
    → IsAfterCampaign members table who situation → IsAfterAnswers members table who after
from_campaigned members table who at book rows situation after goes was =
    let first = was.first in
    let made = first.campaigned in
    let round = candidate_round members table who at book rows situation after first.cluster first.at.ballot first.at.prefix (only_member who) first.best made.one.member goes was.stands made.stands.is in
    let advised = advised_over members first.at.table table at round.advice first.cluster first.over round.advised in
    let answered = (first_answered members who first.best first.at at round.advice round.answers first.cluster made advised).1 in
    record {
      one = record {
        first = first;
        now = at;
        advice = round.advice;
        answers = round.answers;
        advised = advised;
        alone = candidate_alone members at round.advice round.answers first.cluster who _ _ _ _ answered.stands.is (round.answered who made.one.member);
      };
      stands = round.stands;
    }

from_answered : (members : ℕ) (table : Table) (who : ℕ) (at : ℤ) (book rows : List Row) (situation after : Situation) → GoesDrainRound members table who at book rows situation after
    → IsAfterAnswers members table who situation → LeadsAlone members table who after ⊎ IsAfterYielding members table who after
from_answered members table who at book rows situation after goes was =
    elim (second_decides members who first.best first.at one.now at one.advice round.advice one.answers round.answers first.cluster made one.advised one.alone advised) [
      | inl comes ↦ inl (comes_leads members table who at (with_base comes.0 first.at) cluster after made.one.member goes.sound first.over round comes.1)
      | inr yields ↦ inr (record { one = one; now = at; advice = round.advice; answers = round.answers; advised = advised; yielded = yields; stands = round.stands })
    ]
  where
    one : FirstRound members table who
    one = was.one

    first : FirstCampaign members table who
    first = one.first

    made : HasCampaigned members who first.best first.at first.cluster
    made = first.campaigned

    cluster : Cluster
    cluster = after_first one

    answered : (base : ℕ) × HaveAllAnswered members who first.best (with_base base first.at) cluster
    answered = first_answered members who first.best first.at one.now one.advice one.answers first.cluster made one.advised

    round : StandsForRound members table at cluster after
    round = candidate_round members table who at book rows situation after cluster _ _ _ _ made.one.member goes was.stands answered.1.stands.is

    advised : IsAdvised members first.at.table at round.advice cluster
    advised = advised_over members first.at.table table at round.advice cluster first.over round.advised

-- ---- a second campaign

from_yielding : (members : ℕ) (table : Table) (who : ℕ) (at : ℤ) (book rows : List Row) (situation after : Situation) → GoesDrainRound members table who at book rows situation after
    → IsAfterYielding members table who situation → IsAfterPromises members table who after
from_yielding members table who at book rows situation after goes was = record {
  cluster = campaigned;
  top = (last.replicas who).seen;
  best = own_votes (last.replicas who);
  at = campaigned_at first.at.table launch.0 who (last.replicas who);
  over = first.over;
  campaigned = again;
  now = at;
  advice = round.advice;
  answers = round.answers;
  advised = advised;
  alone = candidate_alone members at round.advice round.answers campaigned who _ _ _ _ promised.1.stands.is (round.answered who made.one.member);
  stands = round.stands;
}
  where
    one : FirstRound members table who
    one = was.one

    first : FirstCampaign members table who
    first = one.first

    made : HasCampaigned members who first.best first.at first.cluster
    made = first.campaigned

    -- the answer that waited is lost
    none_waits : ℕ → Option SchedRow
    none_waits = with_fact who None was.answers

    last : Cluster
    last = cluster_round members was.now was.advice none_waits (after_first one)

    campaigned : Cluster
    campaigned = after_campaign members who last

    yielded : HasYielded members who first.at.ballot (after_first one) last
    yielded = record { follows = was.yielded.follows; higher = was.yielded.higher; seen = was.yielded.seen }

    launch : (rows : List JobRow) × IsLaunchTable first.at.table (last.replicas who) rows
    launch = all_applied first.at.table (subst IsSound (sym first.over) goes.sound) (last.replicas who).kept.rows (last.replicas who).learned

    again : HasCampaignedAgain members who (last.replicas who).seen (own_votes (last.replicas who)) (campaigned_at first.at.table launch.0 who (last.replicas who)) campaigned
    again = campaigns_again members who first.best first.at launch.0 one.now was.now one.advice was.advice one.answers none_waits first.cluster made one.advised was.advised yielded
        (fact_here who None was.answers) launch.1

    round : StandsForRound members table at campaigned after
    round = follower_round members table who at book rows situation after (cluster_round members was.now was.advice was.answers (after_first one)) made.one.member made.one.more goes was.stands was.yielded.follows

    advised : IsAdvised members first.at.table at round.advice campaigned
    advised = advised_over members first.at.table table at round.advice campaigned first.over round.advised

    then_at : Progress
    then_at = campaigned_at first.at.table launch.0 who (last.replicas who)

    promised : (base : ℕ) × HaveAllPromised members who (own_votes (last.replicas who)) (with_base base then_at) (cluster_round members at round.advice round.answers campaigned)
    promised = third_round members who (last.replicas who).seen (own_votes (last.replicas who)) then_at at round.advice round.answers campaigned again advised

from_promised : (members : ℕ) (table : Table) (who : ℕ) (at : ℤ) (book rows : List Row) (situation after : Situation) → GoesDrainRound members table who at book rows situation after
    → IsAfterPromises members table who situation → LeadsAlone members table who after
from_promised members table who at book rows situation after goes was =
    let made = was.campaigned in
    let cluster = cluster_round members was.now was.advice was.answers was.cluster in
    let promised = (third_round members who was.top was.best was.at was.now was.advice was.answers was.cluster made was.advised).1 in
    let round = candidate_round members table who at book rows situation after cluster _ _ _ _ made.one.member goes was.stands promised.stands.is in
    let advised = advised_over members was.at.table table at round.advice cluster was.over round.advised in
    let wins = second_wins members who was.top was.best was.at (subst IsSound (sym was.over) goes.sound) was.now at was.advice round.advice was.answers round.answers was.cluster made was.advised was.alone advised in
    comes_leads members table who at wins.later cluster after made.one.member goes.sound (wins.table ∙ was.over) round wins.leads

-- ---- one that leads alone

-- how the leader of a stage stands
pub record Stands (members leader : ℕ) (cluster : Cluster) : Type 0 where
  pub member : leader < members
  pub ballot : ℕ
  pub best : List Vote
  pub flight : Option Flight
  pub is : (cluster.replicas leader).term ≡ Leader ballot best flight

pub leader_stands : (members leader : ℕ) (best : List Vote) (at : Progress) (cluster : Cluster) → Stage members leader best at cluster → Stands members leader cluster
leader_stands members leader best at cluster (free now) = record { member = now.free.led_alone.member; ballot = _; best = _; flight = _; is = now.free.leading.is }
leader_stands members leader best at cluster (answer row waits) = record { member = waits.free.led_alone.member; ballot = _; best = _; flight = _; is = waits.free.leading.is }
leader_stands members leader best at cluster (asked entry waited flight few under all) =
    record { member = under.led_alone.member; ballot = _; best = _; flight = _; is = under.proposes.leading.is }
leader_stands members leader best at cluster (accepted entry waited flight under all) =
    record { member = under.led_alone.member; ballot = _; best = _; flight = _; is = under.proposes.leading.is }

pub leads_on : (members : ℕ) (table : Table) (who : ℕ) (at : ℤ) (book rows : List Row) (situation after : Situation) → GoesDrainRound members table who at book rows situation after
    → LeadsAlone members table who situation → LeadsAlone members table who after
leads_on members table who now book rows situation after goes was =
    elim (stage_next members who was.best was.at now round.advice round.answers was.cluster was.stage advised (round.answered who stands.member)) [
      | inl nearer ↦ record { cluster = next; best = was.best; at = nearer.later; over = nearer.table ∙ was.over; stands = round.stands; stage = nearer.stage }
      | inr rests ↦ record { cluster = next; best = was.best; at = was.at; over = was.over; stands = round.stands; stage = free rests.free }
    ]
  where
    stands : Stands members who was.cluster
    stands = leader_stands members who was.best was.at was.cluster was.stage

    round : StandsForRound members table now was.cluster after
    round =
        cluster_at members table now was.cluster after
        (waits_round members table who now book rows situation after was.cluster goes was.stands
        (ap (campaign_tasks who) (term_there members (table_size table) who situation was.cluster (Leader stands.ballot stands.best stands.flight) stands.member was.stands stands.is)))

    next : Cluster
    next = cluster_round members now round.advice round.answers was.cluster

    advised : IsAdvised members was.at.table now round.advice was.cluster
    advised = advised_over members was.at.table table now round.advice was.cluster was.over round.advised

-- ---- all of them

way_nearer : (rounds members : ℕ) (table : Table) (who : ℕ) (at : ℤ) (book rows : List Row) (situation after : Situation) → GoesDrainRound members table who at book rows situation after
    → IsOnItsWay (suc rounds) members table who situation → LeadsWithin rounds members table who after
way_nearer zero members table who at book rows situation after goes was = inl (from_promised members table who at book rows situation after goes was)
way_nearer (suc zero) members table who at book rows situation after goes was = inr (from_yielding members table who at book rows situation after goes was)
way_nearer (suc (suc zero)) members table who at book rows situation after goes was = from_answered members table who at book rows situation after goes was
way_nearer (suc (suc (suc zero))) members table who at book rows situation after goes was = inr (from_campaigned members table who at book rows situation after goes was)
way_nearer (suc (suc (suc (suc rounds)))) members table who at book rows situation after goes was = absurd was

pub comes_nearer : (rounds members : ℕ) (table : Table) (who : ℕ) (at : ℤ) (book rows : List Row) (situation after : Situation) → GoesDrainRound members table who at book rows situation after
    → LeadsWithin (suc rounds) members table who situation → LeadsWithin rounds members table who after
comes_nearer rounds members table who at book rows situation after goes (inl leads) = inl (leads_on members table who at book rows situation after goes leads)
comes_nearer rounds members table who at book rows situation after goes (inr way) = way_nearer rounds members table who at book rows situation after goes way

pub leads_at_last : (members : ℕ) (table : Table) (who : ℕ) (situation : Situation) → LeadsWithin 0 members table who situation → LeadsAlone members table who situation
leads_at_last members table who situation (inl leads) = leads
leads_at_last members table who situation (inr none) = absurd none

-- ---- quiet

not_free : (prefix : ℕ) (term : Term) → IsFollower term → IsFreeTerm prefix term → ⊥
not_free prefix (Follower ended) follows is = is
not_free prefix (Candidate ballot first heard best) follows is = is
not_free prefix (Leader ballot best flight) follows is = follows

-- the term of a quiet situation is a leader's
free_there : (members : ℕ) (table : Table) (who : ℕ) (at : ℤ) (situation : Situation) (cluster : Cluster) → who < members → StandsForCluster members (table_size table) situation cluster → IsQuiet members table who at situation
    → IsFreeTerm (prefix_of (cluster.replicas who)) (cluster.replicas who).term
free_there members table who at situation cluster member there quiet = subst (λ (s : State). IsFreeTerm (prefix_of s) s.term) (sym (there.replicas who member)) quiet.free

candidate_is_not_quiet : (members : ℕ) (table : Table) (who : ℕ) (at : ℤ) (situation : Situation) (cluster : Cluster) (ballot first heard : ℕ) (best : List Vote) → who < members → StandsForCluster members (table_size table) situation cluster
    → (cluster.replicas who).term ≡ Candidate ballot first heard best → IsQuiet members table who at situation → ⊥
candidate_is_not_quiet members table who at situation cluster ballot first heard best member there is quiet =
    subst (λ term. IsFreeTerm (prefix_of (cluster.replicas who)) term) is (free_there members table who at situation cluster member there quiet)

way_is_not_quiet : (rounds members : ℕ) (table : Table) (who : ℕ) (at : ℤ) (situation : Situation) → IsOnItsWay rounds members table who situation → IsQuiet members table who at situation → ⊥
way_is_not_quiet zero members table who at situation was quiet = was
way_is_not_quiet (suc zero) members table who at situation was quiet =
    let promised = (third_round members who was.top was.best was.at was.now was.advice was.answers was.cluster was.campaigned was.advised).1 in
    candidate_is_not_quiet members table who at situation _ _ _ _ _ was.campaigned.one.member was.stands promised.stands.is quiet
way_is_not_quiet (suc (suc zero)) members table who at situation was quiet =
    not_free _ _ was.yielded.follows (free_there members table who at situation _ was.one.first.campaigned.one.member was.stands quiet)
way_is_not_quiet (suc (suc (suc zero))) members table who at situation was quiet =
    let one = was.one in
    let first = one.first in
    let answered = (first_answered members who first.best first.at one.now one.advice one.answers first.cluster first.campaigned one.advised).1 in
    candidate_is_not_quiet members table who at situation _ _ _ _ _ first.campaigned.one.member was.stands answered.stands.is quiet
way_is_not_quiet (suc (suc (suc (suc zero)))) members table who at situation was quiet =
    let made = was.first.campaigned in
    candidate_is_not_quiet members table who at situation _ _ _ _ _ made.one.member was.stands made.stands.is quiet
way_is_not_quiet (suc (suc (suc (suc (suc rounds))))) members table who at situation was quiet = was

pub quiet_leads : (rounds members : ℕ) (table : Table) (who : ℕ) (at : ℤ) (situation : Situation) → LeadsWithin rounds members table who situation → IsQuiet members table who at situation
    → LeadsAlone members table who situation
quiet_leads rounds members table who at situation (inl leads) quiet = leads
quiet_leads rounds members table who at situation (inr way) quiet = absurd (way_is_not_quiet rounds members table who at situation way quiet)
