-- A round in which a leader's proposal is under way.
use Rattle.std.proofs.Common.{◌≡◌, ℕ, ◌<◌, List, [], ◌++◌, Option, Some, ℤ, sym, ap, ◌∙◌, inl, inr, ◌⊎◌, arith, subst}
use Rattle.std.proofs.lemmas.Bool.{cases_Bool, cases_eq}
use Rattle.paxos_base.specs.declared.rows.JobRow.{JobRow}
use Rattle.cluster_sched.specs.declared.row.SchedRow.{SchedRow}
use Rattle.due_set.specs.Table.{IsSound}
use Rattle.launch_machine.specs.declared.machine.Intent.{Intent}
use Rattle.term_core.specs.declared.flight.Flight.{Flight}
use Rattle.step_spec.specs.Folds.{calls_of}
use Rattle.step_spec.specs.Message.{Accepted}
use Rattle.step_spec.specs.Propose.{is_long, tick, tick_of}
use Rattle.step_spec.specs.State.{Identity, State, prefix_of}
use Rattle.step_spec.specs.Step.{IsPlanned, Plan, Tick, step}
use Rattle.synchronous_rounds.specs.Begins.{Begins}
use Rattle.synchronous_rounds.specs.Cluster.{Advice, Cluster, IsAdvised, after_events, answer_events, before_tick, calls_at, cluster_round, hear_events}
use Rattle.synchronous_rounds.specs.Flights.{IsAccepted, IsNeeded, IsUnderWay, Proposal, Proposes, learned_by}
use Rattle.synchronous_rounds.specs.Rounds.{Lands, WaitsOn}
use Rattle.synchronous_rounds.specs.LedAlone.{IsLedAlone, Occurs}
use Rattle.synchronous_rounds.proofs.CountLemmas.{GoesOnBy, IsLearned, all_accept, goes_mail}
use Rattle.synchronous_rounds.proofs.NearLemmas.{begun_leads, learned_nearer, waits_nearer}
use Rattle.synchronous_rounds.proofs.OutcomeLemmas.{no_call_rebase, no_call_wait, short_tick, tick_outcome}
use Rattle.synchronous_rounds.proofs.RoundLemmas.{round_after, round_planned}
use Rattle.synchronous_rounds.proofs.TickLemmas.{Waited, flight_tick}
use Rattle.step_spec.proofs.DeltaLemmas.{tick-long}

-- a leader with a flight calls for nothing
flight_uncalled : (proposal : Proposal) (flight : Flight) (self : Identity) (now : ℤ) (rows : List JobRow) (wanted : Intent) (state : State) → Proposes proposal flight state → calls_of (tick self now rows wanted state) ≡ []
flight_uncalled proposal flight self now rows wanted state proposes =
    elim (cases_Bool (is_long state)) [
      | inl long ↦ ap calls_of (tick-long self now rows wanted state long) ∙ no_call_rebase (prefix_of state) rows
      | inr short ↦
          ap calls_of (short_tick self now rows wanted state short ∙ ap (λ t. tick_of self now wanted state t) proposes.leading.is)
          ∙ no_call_wait proposal.at.ballot flight
    ]

-- ---- what the tick leaves of it

pub record WaitsStill (proposal : Proposal) (now : ℤ) (advice : ℕ → Advice) (cluster next : Cluster) : Type 0 where
  pub waited : Waited proposal (next.replicas proposal.self.me)
  pub uncalled : calls_at proposal.self.members now advice cluster proposal.self.me ≡ []

-- the leader begins the next thing, once it has learned this
abbrev pub BeginsNext : Proposal → ℤ → (ℕ → Advice) → Cluster → Cluster → Type 0
BeginsNext proposal now advice cluster next = Begins proposal.self.members proposal.self.me proposal.best (learned_by proposal) now advice cluster next

pub learned_then : (proposal : Proposal) (now : ℤ) (advice : ℕ → Advice) (answers : ℕ → Option SchedRow) (cluster : Cluster) → IsLedAlone proposal.self.members proposal.self.me proposal.at.ballot proposal.at.prefix cluster → IsSound proposal.at.table → IsAdvised proposal.self.members proposal.at.table now advice cluster → IsLearned proposal (before_tick proposal.self.members advice cluster proposal.self.me) → BeginsNext proposal now advice cluster (cluster_round proposal.self.members now advice answers cluster)
learned_then proposal now advice answers cluster led_alone sound advised learned =
    tick_outcome proposal.self.members proposal.self.me proposal.best (learned_by proposal) now advice answers cluster led_alone.member led_alone.few led_alone.more sound advised learned

-- it waits still, or is learned
pub comes_to : (proposal : Proposal) (counted : ℕ → Type 0) (now : ℤ) (advice : ℕ → Advice) (answers : ℕ → Option SchedRow) (cluster : Cluster) → proposal.waited < 3 → IsLedAlone proposal.self.members proposal.self.me proposal.at.ballot proposal.at.prefix cluster → IsSound proposal.at.table → IsAdvised proposal.self.members proposal.at.table now advice cluster → GoesOnBy proposal counted (before_tick proposal.self.members advice cluster proposal.self.me) → WaitsStill proposal now advice cluster (cluster_round proposal.self.members now advice answers cluster) ⊎ BeginsNext proposal now advice cluster (cluster_round proposal.self.members now advice answers cluster)
unfolding step
comes_to proposal counted now advice answers cluster early led_alone sound advised goes = go goes
  where
    me : ℕ
    me = proposal.self.me

    plan : Plan
    plan = (advice me).plan

    state : State
    state = before_tick proposal.self.members advice cluster me

    next : Cluster
    next = cluster_round proposal.self.members now advice answers cluster

    planned : IsPlanned proposal.at.table state (Tick now plan)
    planned = round_planned proposal.self.members proposal.at.table now advice cluster me led_alone.member advised

    go : GoesOnBy proposal counted state → WaitsStill proposal now advice cluster next ⊎ BeginsNext proposal now advice cluster next
    go (inl counts) = inl (record {
      waited = subst (λ s. Waited proposal s) (sym (round_after proposal.self.members now advice answers cluster me))
          (flight_tick proposal counts.flight proposal.self now plan.rows plan.intent state early counts.proposes planned.0);
      uncalled = flight_uncalled proposal counts.flight proposal.self now plan.rows plan.intent state counts.proposes;
    })
    go (inr learned) = inr (learned_then proposal now advice answers cluster led_alone sound advised learned)

pub lands : (proposal : Proposal) (now : ℤ) (advice : ℕ → Advice) (cluster next : Cluster) → IsSound proposal.at.table → IsNeeded proposal → prefix_of (cluster.replicas proposal.self.me) ≡ proposal.at.prefix → BeginsNext proposal now advice cluster next → Lands proposal now advice cluster next
lands proposal now advice cluster next sound needed here begins = record {
  begins = begins;
  nearer = learned_nearer proposal (cluster.waits proposal.self.me) (next.waits proposal.self.me) (cluster.replicas proposal.self.me) (next.replicas proposal.self.me) sound needed here
      (begun_leads proposal.self.members proposal.self.me proposal.best (learned_by proposal) now advice cluster next begins);
}

-- ---- two rounds

-- who has accepted: the leader, and who says so in its mail
abbrev HasVoted : Proposal → Cluster → ℕ → Type 0
HasVoted proposal cluster q = (q ≡ proposal.self.me) ⊎ Occurs (cluster.mails proposal.self.me) q (Accepted proposal.at.ballot proposal.at.prefix)

leader_hears : (proposal : Proposal) (flight : Flight) (advice : ℕ → Advice) (cluster : Cluster) → IsUnderWay proposal flight cluster → GoesOnBy proposal (HasVoted proposal cluster) (before_tick proposal.self.members advice cluster proposal.self.me)
leader_hears proposal flight advice cluster under =
    subst (λ waits. GoesOnBy proposal (HasVoted proposal cluster) (after_events proposal.self (answer_events waits (advice c).rows ++ hear_events (cluster.mails c)) (cluster.replicas c))) (sym under.alone)
    (goes_mail proposal (λ q. q ≡ c) (cluster.mails c) (cluster.replicas c) under.led_alone.few (under.led_alone.from c under.led_alone.member) (under.led_alone.within c under.led_alone.member)
    (inl (record { flight = flight; proposes = under.proposes; has = λ q is. rw is under.proposes.flies.own })))
  where
    c : ℕ
    c = proposal.self.me

pub first_round : (proposal : Proposal) (flight : Flight) (cluster : Cluster) (now : ℤ) (advice : ℕ → Advice) (answers : ℕ → Option SchedRow) → IsUnderWay proposal flight cluster → IsAdvised proposal.self.members proposal.at.table now advice cluster → WaitsOn proposal now advice cluster (cluster_round proposal.self.members now advice answers cluster) ⊎ Lands proposal now advice cluster (cluster_round proposal.self.members now advice answers cluster)
first_round proposal flight cluster now advice answers under advised =
    go (comes_to proposal (HasVoted proposal cluster) now advice answers cluster under.early under.led_alone under.sound advised (leader_hears proposal flight advice cluster under))
  where
    next : Cluster
    next = cluster_round proposal.self.members now advice answers cluster

    go : WaitsStill proposal now advice cluster next ⊎ BeginsNext proposal now advice cluster next → WaitsOn proposal now advice cluster next ⊎ Lands proposal now advice cluster next
    go (inl still) = inl (record {
      base = still.waited.base;
      waited = still.waited.waited;
      later = still.waited.later;
      flight = still.waited.flight;
      proposes = still.waited.proposes;
      uncalled = still.uncalled;
      nearer = waits_nearer proposal (Some flight) (cluster.waits proposal.self.me) (next.waits proposal.self.me) (cluster.replicas proposal.self.me) (next.replicas proposal.self.me) under.proposes.leading (omega (arith, under.proposes.flies.waited)) still.waited;
    })
    go (inr begins) = inr (lands proposal now advice cluster next under.sound under.needed under.proposes.leading.learned begins)

pub second_round : (proposal : Proposal) (flight : Flight) (cluster : Cluster) (now : ℤ) (advice : ℕ → Advice) (answers : ℕ → Option SchedRow) → IsUnderWay proposal flight cluster → IsAdvised proposal.self.members proposal.at.table now advice cluster → IsAccepted proposal.self.members proposal.self.me proposal.at.ballot proposal.at.prefix cluster → Lands proposal now advice cluster (cluster_round proposal.self.members now advice answers cluster)
second_round proposal flight cluster now advice answers under advised accepted =
    let learned = all_accept proposal (HasVoted proposal cluster) (before_tick proposal.self.members advice cluster proposal.self.me) (omega (arith, under.led_alone.more)) under.led_alone.few all (leader_hears proposal flight advice cluster under) in
    lands proposal now advice cluster (cluster_round proposal.self.members now advice answers cluster) under.sound under.needed under.proposes.leading.learned
    (learned_then proposal now advice answers cluster under.led_alone under.sound advised learned)
  where
    all : (q : ℕ) → q < proposal.self.members → HasVoted proposal cluster q
    all q below = elim (cases_eq q proposal.self.me) [ inl same ↦ inl same | inr other ↦ inr (accepted q below other) ]
